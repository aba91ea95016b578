pub mod State
pub mod Sockets
pub mod Received
pub mod Trips
