-- what the contracts cite
pub mod Given
pub mod Told
