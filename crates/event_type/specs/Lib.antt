-- what the contracts cite
pub mod Types
-- what is claimed of it
pub mod Laws
