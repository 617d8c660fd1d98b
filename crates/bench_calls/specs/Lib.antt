-- what the contracts cite
pub mod Table
pub mod Called
-- what only serves proofs
pub mod Rows
pub mod Lines
pub mod Faults
