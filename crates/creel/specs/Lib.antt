pub mod Kinds
pub mod Walks
pub mod Files
pub mod Words
