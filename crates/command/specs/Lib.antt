-- what the contracts cite
pub mod Command
pub mod Colours
pub mod Length
-- what is claimed of it
pub mod Count
pub mod Known
pub mod Listed
