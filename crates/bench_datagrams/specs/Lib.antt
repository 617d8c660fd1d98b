-- what the contracts cite
pub mod Datagrams
-- what only serves proofs
pub mod Pieces
