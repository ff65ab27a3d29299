pub mod Commands
pub mod Editions
pub mod Places
pub mod Requests
pub mod Words
