mod Steps
mod Numbers
mod Checked
mod TrailerRecords
mod ClosingRecords
pub mod TrailerLaws
