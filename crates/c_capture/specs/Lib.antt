-- what the contracts cite
pub mod Times
pub mod Captures
pub mod Records
-- what is claimed of it
pub mod Part
-- what only serves proofs
pub mod Handed
