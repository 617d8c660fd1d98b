-- what the contracts cite
pub mod Colour
-- what is claimed of it: laid out and read there and back, and one answer
pub mod Laws
pub mod One
