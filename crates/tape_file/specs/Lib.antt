pub mod Heads
pub mod Lines
pub mod Reading
pub mod Spaces
pub mod Tables
pub mod Faults
