pub mod Alike
pub mod Deposits
pub mod Sevens
pub mod Told
