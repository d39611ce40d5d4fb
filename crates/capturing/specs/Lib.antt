pub mod Capturing
pub mod Filling
pub mod Paths
pub mod Storing
