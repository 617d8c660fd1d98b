-- what is claimed: runs of calls, what is awaited, given again, retired; runs with giving up among the calls (to be read)
pub mod Run
pub mod Awaited
pub mod Again
pub mod Retired
pub mod Longer
pub mod Since
-- what only serves proofs
pub mod Found
pub mod Sound
pub mod Kept
