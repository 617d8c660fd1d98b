-- what the contracts cite
pub mod Layout
pub mod Page
-- what only serves proofs
pub mod Ways
