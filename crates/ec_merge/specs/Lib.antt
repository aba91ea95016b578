pub mod Rule
pub mod Laws
pub mod Bytes
pub mod Frames
