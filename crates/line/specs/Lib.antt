-- what the contracts cite: document 01's rule and the same with the count, and what the code's answer says (to be believed; the lines: crate extent)
pub mod Rule
pub mod Said
-- what is claimed of it: the answer is one, the rules agree and are lawful, which numbers occur, what is found (to be read)
pub mod One
pub mod Says
pub mod Laws
pub mod Numbers
pub mod Finds
pub mod Worked
pub mod Colours
-- what only serves proofs
pub mod Extents
pub mod Cases
pub mod Frames
