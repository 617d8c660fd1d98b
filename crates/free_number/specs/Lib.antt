-- what the contracts cite
pub mod Number
-- what only serves proofs
pub mod Search
