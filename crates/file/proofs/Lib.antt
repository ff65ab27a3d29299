pub mod Entering
pub mod LineSlots
pub mod Steps
