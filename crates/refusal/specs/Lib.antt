pub mod Reasons
pub mod Causes
pub mod Refusals
