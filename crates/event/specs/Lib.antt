-- what the contracts cite
pub mod Layout
pub mod Reading
pub mod Writing
-- what is claimed of it
pub mod Determined
pub mod Demand2
pub mod Least
-- what only serves proofs
pub mod Fits
pub mod Again
