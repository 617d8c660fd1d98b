-- what the contracts cite
pub mod Record
-- what is claimed of it
pub mod Determined
pub mod Again
-- what only serves proofs
pub mod Found
