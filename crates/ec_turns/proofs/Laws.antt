-- The laws that crates above cite: a turn over held ports is that turn over any ports that give for its frame
-- what was held; and an object that is read by turns is read as by one call.
pub use Rattle.ec_turns.proofs.GivenLemmas.{look_over}
pub use Rattle.ec_turns.proofs.ServiceLemmas.{service_turn_over}
pub use Rattle.ec_turns.proofs.StartLemmas.{start_turn_over}
pub use Rattle.ec_turns.proofs.RunLemmas.{read_by_turns}
