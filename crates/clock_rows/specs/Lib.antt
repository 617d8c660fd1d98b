-- what the contracts cite
pub mod Rows
-- what is claimed of them
pub mod Whole
pub mod Claims
-- what only serves proofs
pub mod Room
pub mod Times
pub mod Lines
