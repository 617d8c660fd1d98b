-- what the contracts cite
pub mod Layout
pub mod Said
pub mod Reading
pub mod Writing
-- what is claimed of it
pub mod One
-- what only serves proofs
pub mod Reads
pub mod Coloured
pub mod Profiled
