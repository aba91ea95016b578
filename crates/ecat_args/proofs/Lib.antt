pub mod CompleteLemmas
pub mod GivenLemmas
pub mod NumberLemmas
pub mod ReadLemmas
