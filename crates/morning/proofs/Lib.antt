pub mod Singly
pub mod Mornings
pub mod Ways
