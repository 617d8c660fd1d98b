-- what is claimed: the cases of document 01, and those of document 02's requests
pub mod Cases
pub mod Scenes
pub mod Events
pub mod Colours
pub mod Retired
pub mod Quiet
