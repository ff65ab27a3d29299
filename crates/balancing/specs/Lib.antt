pub mod Balancing
pub mod Stands
