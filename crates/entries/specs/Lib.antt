pub mod Playing
pub mod Tables
pub mod Stands
pub mod Rooms
pub mod Pulling
