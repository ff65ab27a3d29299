pub mod Chains
pub mod Bytes
pub mod Numbers
pub mod Dates
pub mod Money
pub mod References
