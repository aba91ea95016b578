pub mod Next
pub mod Question
pub mod Talk
pub mod Turn
