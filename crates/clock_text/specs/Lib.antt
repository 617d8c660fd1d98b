-- what the contracts cite
pub mod Clock
-- what only serves proofs
pub mod Forms
