-- what the contracts cite
pub mod Words
-- what is claimed of it
pub mod Joined
-- what only serves proofs
pub mod Places
