-- what the contracts cite
pub mod Requests
-- what only serves proofs
pub mod Pieces
