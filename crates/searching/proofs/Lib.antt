pub mod Visiting
pub mod Walks
