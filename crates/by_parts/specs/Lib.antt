-- what the contracts cite
pub mod Numbered
pub mod Parts
pub mod Turn
-- what is claimed of it
pub mod Whole
pub mod Held
pub mod Run
-- what only serves proofs
pub mod Cut
pub mod Window
pub mod Onward
pub mod Found
