-- what the contracts cite (and in crate free_number)
pub mod Book
pub mod Ticks
-- what is claimed of it (and in crate awaited)
pub mod One
pub mod GivenUp
-- what only serves proofs
pub mod Old
