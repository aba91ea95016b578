pub mod CableLemmas
pub mod ToldLemmas
pub mod JoinLemmas
pub mod PassLemmas
pub mod WalkLemmas
pub mod LocateLemmas
pub mod CutLemmas
