-- what the contracts cite
pub mod Clocks
-- what is claimed of it
pub mod Back
