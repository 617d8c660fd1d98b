-- what the contracts cite: the lines (to be believed)
pub mod Line
-- what only serves proofs
pub mod Shapes
