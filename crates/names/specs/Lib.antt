-- what the contracts cite
pub mod Names
-- what is claimed of it
pub mod Most
-- what only serves proofs
pub mod Places
