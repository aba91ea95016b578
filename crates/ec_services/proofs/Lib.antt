pub mod TalkLemmas
pub mod AreaLemmas
pub mod CourseLemmas
