pub mod Parts
pub mod Differences
pub mod Tallies
pub mod Findings
pub mod Playing
pub mod Comparing
pub mod Replaying
