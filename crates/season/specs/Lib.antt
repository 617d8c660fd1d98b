-- what the contracts cite
pub mod Season
-- what only serves proofs
pub mod Ways
