pub mod Readings
pub mod Walking
