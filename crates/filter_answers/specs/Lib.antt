-- what is claimed: what stands after any requests, what one hides, the answers of the check, since when, and the slip (to be read)
pub mod Kept
pub mod Hidden
pub mod Answers
pub mod Since
pub mod Slip
