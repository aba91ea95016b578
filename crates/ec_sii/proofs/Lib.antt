mod CrcLemmas
mod PlaceLemmas
mod ReadingLemmas
mod PartLemmas
pub mod AnswerLemmas
pub mod ServedLemmas
pub mod Laws
