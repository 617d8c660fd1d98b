-- what the contracts cite
pub mod Told
-- what only serves proofs
pub mod Bytes
