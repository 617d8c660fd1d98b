pub mod Frame
pub mod Written
pub mod Relay
pub mod Demand2
