-- what the contracts cite
pub mod Tally
-- what is claimed of it
pub mod More
