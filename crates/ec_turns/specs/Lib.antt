pub mod Held
pub mod Look
pub mod Plan
pub mod Sent
pub mod Start
pub mod Run
