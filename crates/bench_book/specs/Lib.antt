-- what the contracts cite
pub mod Pages
-- what only serves proofs
pub mod Turns
pub mod Pieces
