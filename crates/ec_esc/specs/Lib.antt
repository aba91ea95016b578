pub mod State
pub mod Writing
pub mod Pass
pub mod Application
pub mod Planned
pub mod Renewal
pub mod Reached
pub mod Place
