-- What the contracts of kept lists cite.
pub mod Equivalence
pub mod Held
pub mod Searching
pub mod Pairing
pub mod Instances
