pub mod Stands
pub mod Bytes
pub mod Views
