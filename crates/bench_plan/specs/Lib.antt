-- what the contracts cite
pub mod Told
