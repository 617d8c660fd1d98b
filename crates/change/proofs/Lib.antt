pub mod Excluding
pub mod Families
