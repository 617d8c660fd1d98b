-- what the contracts cite
pub mod Figures
-- what is claimed of it
pub mod Share
-- what only serves proofs
pub mod Ways
