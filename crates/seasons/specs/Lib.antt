-- what is claimed: the seasons in document 02's words, whose events count and that the seasons add up, the gaps, and captures (to be read)
pub mod Seasons
pub mod Added
pub mod Gaps
pub mod Captures
