pub mod Written
pub mod State
pub mod Copies
pub mod Recorded
