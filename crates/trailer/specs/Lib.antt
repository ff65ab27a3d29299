pub mod Digits
pub mod Trailers
pub mod Laws
