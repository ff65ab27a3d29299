pub mod Fetched
pub mod Giving
pub mod Opened
pub mod Taken
pub mod Worked
