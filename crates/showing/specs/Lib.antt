pub mod Showing
pub mod Riders
