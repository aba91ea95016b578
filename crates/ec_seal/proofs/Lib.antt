pub mod CarryLemmas
pub mod WalkLemmas
pub mod ComesLemmas
pub mod ArriveLemmas
pub mod UnderLemmas
pub mod TakenLemmas
pub mod MovingLemmas
pub mod Laws
