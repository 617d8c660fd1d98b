-- what the contracts cite
pub mod Asked
-- what is claimed of it
pub mod Claims
-- what only serves proofs
pub mod Turns
