-- what the contracts cite
pub mod Bit
pub mod Maps
-- what is claimed of it
pub mod Places
pub mod Placed
pub mod Slip
-- what only serves proofs
pub mod Bits
