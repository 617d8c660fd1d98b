-- what the contracts cite
pub mod Csv
