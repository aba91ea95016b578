pub mod History
pub mod Own
