-- what the contracts cite
pub mod Option
-- what only serves proofs
pub mod Same
