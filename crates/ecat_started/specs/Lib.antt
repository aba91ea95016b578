pub mod Certified
pub mod Startable
