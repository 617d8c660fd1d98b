-- what the contracts cite
pub mod Words
pub mod Groups
-- what only serves proofs
pub mod Places
pub mod Turns
