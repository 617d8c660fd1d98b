-- what the contracts cite
pub mod Passing
-- what is claimed of it
pub mod More
-- what only serves proofs
pub mod Going
