-- what is claimed: the words for a change, what a reader excludes, and worked pairs (to be read); that each family's reader does stands in proofs/Families
pub mod Change
pub mod Excludes
pub mod Pairs
-- what only serves proofs
pub mod Changes
pub mod Law
