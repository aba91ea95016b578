pub mod AnswerLemmas
pub mod CandidateLemmas
pub mod SumLemmas
pub mod TwoLemmas
pub mod WithoutLemmas
