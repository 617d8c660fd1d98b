-- what the contracts cite
pub mod Bars
