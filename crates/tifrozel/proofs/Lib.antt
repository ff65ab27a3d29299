pub mod Left
pub mod Rooms
pub mod Turns
