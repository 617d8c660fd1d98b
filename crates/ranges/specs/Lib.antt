-- what the contracts cite
pub mod Arguments
-- what is claimed of it
pub mod Scenes
-- what only serves proofs
pub mod Places
