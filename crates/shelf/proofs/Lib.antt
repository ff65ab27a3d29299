pub mod Eighties
pub mod Flat
pub mod Calls
