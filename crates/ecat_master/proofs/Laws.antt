-- The laws that crates above cite: how many trips a start, rounds and leaving make at the most.
pub use Rattle.ecat_master.proofs.CourseLemmas.{rounds_within}
pub use Rattle.ecat_master.proofs.LeavingLemmas.{left_within}
pub use Rattle.ecat_master.proofs.StartTripsLemmas.{started_within}
