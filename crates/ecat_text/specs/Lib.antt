pub mod Areas
pub mod Cables
pub mod Cycles
pub mod Judgements
pub mod Objects
pub mod Refused
pub mod Refusals
pub mod Words
