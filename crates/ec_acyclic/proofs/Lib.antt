mod TurnLemmas
pub mod Laws
