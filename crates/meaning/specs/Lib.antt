-- what the contracts cite
pub mod Meaning
pub mod Ways
-- what is claimed of it
pub mod Laws
pub mod Judged
