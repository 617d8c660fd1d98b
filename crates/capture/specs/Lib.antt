-- what the contracts cite
pub mod Capture
-- what is claimed of it (and in crate year)
pub mod Determined
-- what only serves proofs
pub mod Walk
pub mod Says
pub mod Reached
pub mod Tally
