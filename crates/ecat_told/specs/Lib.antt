pub mod Registers
pub mod Slave
pub mod Known
pub mod So
pub mod Journeys
