pub mod Entries
pub mod Readings
pub mod Refusals
pub mod Volumes
pub mod Laws
pub mod Taking
