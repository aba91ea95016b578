pub mod AlikeLemmas
pub mod SumLemmas
pub mod PlayingLemmas
pub mod ComparingLemmas
pub mod ReplayingLemmas
