-- what the contracts cite
pub mod Parts
-- what only serves proofs
pub mod Pieces
