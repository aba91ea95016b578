mod GivenLemmas
mod ServiceLemmas
mod StartLemmas
mod RunLemmas
pub mod Laws
