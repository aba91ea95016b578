mod CopyLemmas
pub mod TakenLemmas
pub mod HistoryLemmas
pub mod NetworkLemmas
pub mod MovingLemmas
