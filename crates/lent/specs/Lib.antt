-- what the contracts cite
pub mod Puts
pub mod All
-- what only serves proofs
pub mod Over
pub mod Behind
