-- what the contracts cite
pub mod Said
pub mod Pieces
-- what only serves proofs
pub mod Laws
