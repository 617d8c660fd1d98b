-- what the contracts cite
pub mod Seasons
pub mod States
-- what is claimed of it
pub mod Back
