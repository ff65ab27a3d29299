pub mod Tokens
pub mod Laws
pub mod Taking
pub mod Examples
