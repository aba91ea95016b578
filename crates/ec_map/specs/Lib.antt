pub mod Item
pub mod Place
pub mod Share
pub mod First
pub mod Covered
pub mod Written
pub mod NotShown
