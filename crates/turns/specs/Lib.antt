-- what the contracts cite
pub mod Keep
pub mod Turn
-- what is claimed of it: what any run by these answers prints, and that it comes to its end
pub mod Run
pub mod Ends
-- what only serves proofs
pub mod Keeping
pub mod Read
pub mod Next
pub mod Said
