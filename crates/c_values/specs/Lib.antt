-- what the contracts cite
pub mod Numbers
pub mod Filters
pub mod Books
pub mod Lines
-- what only serves proofs
pub mod Handed
