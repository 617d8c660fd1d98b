-- what the contracts cite
pub mod Room
-- what only serves proofs
pub mod Within
