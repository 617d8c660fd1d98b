-- what the contracts cite
pub mod Filters
pub mod Plan
pub mod Table
pub mod Said
-- what only serves proofs (what is claimed: crate filter_answers)
pub mod Places
pub mod Tables
pub mod Dropped
pub mod Stepped
pub mod Runs
