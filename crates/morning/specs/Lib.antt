-- what the contracts cite
pub mod Morning
-- what is claimed of it
-- what only serves proofs
pub mod Going
pub mod Singly
pub mod Mornings
