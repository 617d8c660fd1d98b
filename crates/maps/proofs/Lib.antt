pub mod Machine
pub mod Taken
