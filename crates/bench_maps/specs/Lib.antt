-- what the contracts cite
pub mod Maps
-- what only serves proofs
pub mod Pieces
