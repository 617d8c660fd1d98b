-- what the contracts cite
pub mod Answer
-- what only serves proofs
pub mod Putting
