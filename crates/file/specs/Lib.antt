pub mod Judges
pub mod Numbering
pub mod Single
pub mod Lines
pub mod Payers
