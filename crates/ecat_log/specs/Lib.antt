pub mod Hints
pub mod Texts
