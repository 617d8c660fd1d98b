-- what the contracts cite: the whole-stream rule, the calls, and what the code's answer says (to be believed)
pub mod Stream
pub mod Said
-- what is claimed of it: the answer is one, what makes a rule fit, a stream's items, the fewest bytes of a call, any cut (to be read)
pub mod One
pub mod Lawful
pub mod Items
pub mod Fewest
pub mod Cut
-- what only serves proofs
pub mod Begins
