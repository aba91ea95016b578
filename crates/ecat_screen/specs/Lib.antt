pub mod Drawn
pub mod Kept
