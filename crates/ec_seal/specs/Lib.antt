pub mod Trips
pub mod Taken
pub mod Moving
