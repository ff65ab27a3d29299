pub mod Records
pub mod Laws
pub mod Answers
pub mod Refusals
pub mod Pair
pub mod Runs
