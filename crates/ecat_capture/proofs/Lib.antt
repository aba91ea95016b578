pub mod Laws
pub mod Consuming
pub mod Fronts
pub mod Options
pub mod Reasons
pub mod Files
pub mod Readings
