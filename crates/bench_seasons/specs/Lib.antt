-- what the contracts cite
pub mod Told
pub mod Carried
-- what only serves proofs
pub mod Pieces
