pub mod Archive
pub mod Law
pub mod TwoRuns
pub mod Runs
pub mod Copies
pub mod Example
