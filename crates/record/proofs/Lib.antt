pub mod Cutting
pub mod Fronts
pub mod Refilling
pub mod ClassLaws
pub mod Sorted
