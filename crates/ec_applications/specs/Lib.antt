pub mod State
pub mod Acting
pub mod Repeats
pub mod Eeproms
pub mod Links
pub mod Left
pub mod Behind
