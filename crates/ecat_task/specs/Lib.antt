pub mod Desk
pub mod Held
pub mod Resting
pub mod Told
