pub mod Changes
pub mod Images
pub mod Set
pub mod Values
