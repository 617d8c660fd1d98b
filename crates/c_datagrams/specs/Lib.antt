-- what the contracts cite (and in crate c_requests)
pub mod Written
pub mod Replies
pub mod Events
-- what is claimed of it
pub mod Part
