pub mod Listed
pub mod Refusals
pub mod Answer
pub mod Test
pub mod Signed
pub mod SaidOf
