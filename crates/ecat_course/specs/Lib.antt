pub mod Stands
pub mod Gone
