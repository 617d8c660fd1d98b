pub mod Demand2
pub mod Retired
pub mod Profiled
