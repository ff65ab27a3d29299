pub mod Entries
pub mod EntryStamps
pub mod FileLines
pub mod Walks
