-- what the contracts cite
pub mod Trace
pub mod Parts
-- what only serves proofs (what is claimed: crate filter_answers)
pub mod Traced
