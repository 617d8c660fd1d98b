-- what is claimed
pub mod Read
pub mod Back
pub mod Runs
pub mod Dates
pub mod Worked
-- what only serves these
pub mod Symbols
pub mod Cells
