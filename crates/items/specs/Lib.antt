-- what the contracts cite
pub mod Pour
-- what is claimed of it: what is poured are the first items of the whole line, and how long a line of its text can be
pub mod Poured
pub mod Room
-- what only serves proofs
pub mod Ready
pub mod Pouring
