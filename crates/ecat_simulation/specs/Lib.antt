pub mod Covers
pub mod Sweeps
pub mod Losses
