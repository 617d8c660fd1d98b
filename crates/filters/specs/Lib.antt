-- what the contracts cite
pub mod Filters
-- what is claimed of it
pub mod Laid
-- what only serves proofs
pub mod Sized
