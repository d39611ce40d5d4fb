pub mod Tags
pub mod Refusals
pub mod Places
pub mod Blank
