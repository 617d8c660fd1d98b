-- what the contracts cite
pub mod Plans
