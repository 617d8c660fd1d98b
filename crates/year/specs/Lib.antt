-- what is claimed: good records and their bytes, whole captures, torn tails, an append that went in, marks, and runs (to be read)
pub mod Good
pub mod Whole
pub mod Torn
pub mod Longer
pub mod Marks
pub mod Runs
