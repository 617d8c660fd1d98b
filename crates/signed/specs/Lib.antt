-- what the contracts cite
pub mod Signed
-- what only serves proofs
pub mod Sizes
