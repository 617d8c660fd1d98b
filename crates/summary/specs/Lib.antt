-- what the contracts cite
pub mod Summary
-- what is claimed of it
pub mod OneMore
-- what only serves proofs
pub mod Counts
