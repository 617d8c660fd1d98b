-- what the contracts cite
pub mod Layout
pub mod Reading
pub mod Writing
-- what is claimed of it
pub mod Demand2
-- what only serves proofs
pub mod Fits
