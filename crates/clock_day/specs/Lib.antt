-- what the contracts cite
pub mod Day
-- what is claimed of it
pub mod Determined
-- what only serves proofs
pub mod Days
pub mod Seconds
