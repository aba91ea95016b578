-- The law that crates above cite: how many trips a turn makes at the most.
pub use Rattle.ec_acyclic.proofs.TurnLemmas.{service_turn_within}
