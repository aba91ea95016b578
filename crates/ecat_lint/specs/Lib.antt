pub mod Mapping
pub mod Buffers
pub mod Items
