pub mod RetiredKnown
