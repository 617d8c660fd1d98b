-- what the contracts cite
pub mod Quiet
pub mod Scan
-- what is claimed of it: the scan of a closed run finds the first item that is not quiet, and that of an open one goes on with whatever
-- comes behind
pub mod Laws
-- what only serves proofs
pub mod Scanning
