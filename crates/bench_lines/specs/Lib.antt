-- what the contracts cite
pub mod Lines
pub mod Shown
