pub mod Applications
pub mod Devices
pub mod Failures
pub mod Packets
pub mod ProcessData
pub mod SteppingTrips
