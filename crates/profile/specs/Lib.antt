-- what the contracts cite
pub mod Profile
-- what is claimed of it
pub mod Inside
