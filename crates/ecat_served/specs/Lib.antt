pub mod History
pub mod Trips
pub mod Cycles
pub mod Network
pub mod Acting
pub mod Serving
