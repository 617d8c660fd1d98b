-- what the contracts cite
pub mod Append
-- what only serves proofs
pub mod Judged
