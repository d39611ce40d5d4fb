pub mod Leading
pub mod Listings
pub mod Numbers
pub mod Parsing
pub mod Records
pub mod Solidity
pub mod Spacing
