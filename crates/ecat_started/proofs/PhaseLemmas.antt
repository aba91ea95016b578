-- The phases of a start as those of the ring, one behind the other.
use Rattle.std.proofs.Common.{◌≡◌, List, [], ◌∷◌, Ok, Err}
use Rattle.ec_master.specs.RingTrips.{RingTrips}
use Rattle.ec_ring.specs.Ring.{RingState}
use Rattle.ec_run.specs.Phase.{Brings, steps_of}
use Rattle.ec_run.specs.Watched.{WatchedState, WatchedTrips}
use Rattle.ec_run.specs.declared.phase.Phase.{Phase}
use Rattle.ec_run.specs.declared.wanted.Wanted.{Wanted}
use Rattle.ec_over_ring.specs.Heard.{HeardRing}
use Rattle.ecat_master.specs.Start.{BringsThrough}
use Rattle.ecat_started.proofs.ThereLemmas.{ring_brings}

-- the first of some phases is one of the ring, and then the others follow
pub record ThenThrough (before : WatchedState RingState) (line : List Wanted) (phase : Phase)
    (rest : List Phase) (later : WatchedState RingState) : Type 0 where
  pub between : WatchedState RingState
  pub brings : Brings RingTrips before.ports 0 line (steps_of phase) (Ok tt) between.ports
  pub left : BringsThrough (WatchedTrips HeardRing) between line rest (Ok tt) later

pub then_through : (before later : WatchedState RingState) (line : List Wanted) (phase : Phase)
    (rest : List Phase) → BringsThrough (WatchedTrips HeardRing) before line (phase ∷ rest) (Ok tt) later
    → ThenThrough before line phase rest later
unfolding BringsThrough
then_through before later line phase rest (Err fault, between, brings, (is, same)) = absurd (cc)
then_through before later line phase rest (Ok did, between, brings, left) = record {
  between = between;
  brings = ring_brings before between 0 line (steps_of phase) (Ok tt) brings;
  left = left;
}

pub through_nothing : (before later : WatchedState RingState) (line : List Wanted)
    → BringsThrough (WatchedTrips HeardRing) before line [] (Ok tt) later → later ≡ before
unfolding BringsThrough
through_nothing before later line (is, same) = same
