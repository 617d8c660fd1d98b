-- what the contracts cite
pub mod Text
-- what is claimed of it
pub mod Decimal
-- what only serves proofs
pub mod Digits
pub mod Spell
pub mod Hexes
