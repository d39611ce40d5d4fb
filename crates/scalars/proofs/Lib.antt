pub mod Computing
pub mod Numbers
pub mod Parts
pub mod Prefixes
pub mod Shown
pub mod Tables
pub mod Trimming
