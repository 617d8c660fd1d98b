-- what the contracts cite
pub mod Age
-- what is claimed of it
pub mod Laws
