pub mod Controls
pub mod Onward
pub mod Raw
pub mod Services
