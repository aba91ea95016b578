pub mod Share
pub mod Candidates
pub mod Evidence
pub mod Answer
pub mod Verdict
pub mod Sums
pub mod Without
