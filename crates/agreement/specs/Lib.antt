-- what is claimed: on which words lines and datagrams agree, and that they do (to be read)
pub mod Verdict
pub mod Agreement
pub mod Retired
pub mod Quiet
-- what only serves proofs
pub mod Framed
