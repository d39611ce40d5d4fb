pub mod Meaning
pub mod Fronts
pub mod Reels
pub mod Tape
pub mod View
