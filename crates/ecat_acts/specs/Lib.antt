pub mod Listings
pub mod Exits
pub mod Failures
pub mod Raw
pub mod Values
pub mod Progress
