-- what the contracts cite
pub mod Sum
pub mod Lanes
-- what is claimed of it
pub mod Bytes
pub mod Sums
pub mod Folds
-- of the exclusive-or by itself, whatever it is taken of
pub mod Xor
