-- what the contracts cite: what a state holds, what a call's result says, the contracts of the two calls (to be believed)
pub mod Reader
-- what is claimed of it: the results are one, a run of calls, what each call promises, demand 3 (to be read)
pub mod One
pub mod Run
pub mod Promises
pub mod Demand3
-- what only serves proofs
pub mod Arrays
pub mod Claims
pub mod Window
pub mod Calls
pub mod Answers
