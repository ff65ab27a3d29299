pub mod Filling
pub mod Surveying
pub mod Passing
pub mod Copied
pub mod Riders
pub mod Giving
pub mod Filled
