-- what the contracts cite
pub mod Target
-- what is claimed of it
pub mod Laws
