pub mod Heard
pub mod Told
pub mod Located
pub mod Join
pub mod Arrivals
pub mod CutOff
