-- what the contracts cite
pub mod Text
-- what is claimed of it
pub mod Length
-- what only serves proofs
pub mod Over
