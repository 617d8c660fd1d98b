-- what the contracts cite
pub mod Calendar
-- what is claimed of it
pub mod Back
-- what only serves proofs
pub mod Lengths
pub mod Walks
pub mod Counts
