pub mod Source
pub mod Input
pub mod Capture
pub mod Faults
pub mod Progress
pub mod Fakes
