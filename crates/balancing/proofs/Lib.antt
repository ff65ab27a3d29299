pub mod Shelved
pub mod Standing
pub mod Balanced
