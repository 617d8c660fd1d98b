-- what the contracts cite
pub mod Picture
