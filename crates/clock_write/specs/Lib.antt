-- what the contracts cite
pub mod Writing
-- what only serves proofs
pub mod Putting
