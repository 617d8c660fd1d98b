-- what the contracts cite
pub mod Report
-- what only serves proofs
pub mod Going
