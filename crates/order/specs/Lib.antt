-- what the contracts cite
pub mod Order
pub mod Big
pub mod Native
-- what is claimed of it
pub mod Numbers
