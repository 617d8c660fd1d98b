-- what the contracts cite (and in crate quiet_told)
pub mod Turn
-- what is claimed of it: what any run by these answers says, that it comes to its end, and how long an answer can be
pub mod Run
pub mod Ends
pub mod Room
-- what only serves proofs
pub mod Turning
pub mod Said
