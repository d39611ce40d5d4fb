pub mod Meanings
pub mod Tapes
