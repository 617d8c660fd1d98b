-- what the contracts cite
pub mod Asked
-- what is claimed of it
pub mod Named
pub mod Requests
