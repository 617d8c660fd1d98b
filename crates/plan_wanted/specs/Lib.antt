-- what the contracts cite
pub mod Wanted
-- what is claimed of it
pub mod Claims
-- what only serves proofs
pub mod Places
pub mod Lines
pub mod Turns
