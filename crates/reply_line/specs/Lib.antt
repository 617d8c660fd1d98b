-- what the contracts cite
pub mod Room
