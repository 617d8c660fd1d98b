-- what the contracts cite
pub mod Table
-- what is claimed of it
pub mod Every
pub mod Agrees
