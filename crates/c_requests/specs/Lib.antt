-- what the contracts cite
pub mod Requests
