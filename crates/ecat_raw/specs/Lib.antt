pub mod Ethernet
pub mod Taken
