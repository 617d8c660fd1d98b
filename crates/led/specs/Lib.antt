-- what the contracts cite
pub mod Led
-- what is claimed of it
pub mod Determined
-- what only serves proofs
pub mod Cut
pub mod Parts
pub mod Joined
