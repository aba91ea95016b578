-- A cycle over a served line is one over a line that moves: its trips, each as it went out.
use Rattle.std.specs.Prelude.{◌≡◌, ◌≤◌, ℕ, suc, Bool, true, false}
use Rattle.std.specs.Prelude.{List, [], ◌∷◌, ◌++◌, length, map, Result, refl}
use Rattle.std.specs.List.{AllByRecursion}
use Rattle.std.proofs.Common.{ap, sym, subst, ◌∙◌, inl, cond}
use Rattle.ec_esc.specs.State.{ControllerState}
use Rattle.ec_line.specs.After.{Entry}
use Rattle.ec_line.specs.Moving.{Visit, MovingTrips, behind}
use Rattle.ec_map.specs.Item.{ItemRecord}
use Rattle.ec_map.specs.Share.{expected_of}
use Rattle.ec_ring.specs.Ring.{RingState, line_of}
use Rattle.ec_ring.specs.declared.links.Links.{Links}
use Rattle.ec_ring.specs.declared.links.TheConstants.{MAX_SLAVES}
use Rattle.ec_ring.specs.declared.weather.Weather.{Weather}
use Rattle.ec_ring.proofs.Laws.{length-controllers}
use Rattle.ec_master.specs.Cut.{cut, cut_onto, entries_from, fits_frame, frames_of}
use Rattle.ec_master.specs.Moments.{AllGivenByMoving, SaysOfEachMoving, SaysOfMoving}
use Rattle.ec_master.specs.Travelled.{trips_of}
use Rattle.ec_master.specs.Unordered.{IsAccepted}
use Rattle.ec_master.specs.declared.cycle.CycleFault.{CycleFault}
use Rattle.ec_master.specs.declared.verdict.Verdict.{Verdict}
use Rattle.ecat_served.specs.Cycles.{AreAllMetOn, AreServedTrips, IsServedCycle, IsVisitedCycle, came_on_each}
use Rattle.ecat_served.specs.Cycles.{packets_of}
use Rattle.ecat_served.specs.History.{AllHaveMoved, IsHistory}
use Rattle.ecat_served.specs.Trips.{Sent, Traffic, plain}
use Rattle.ecat_served.proofs.HistoryLemmas.{joined_histories}
use Rattle.ecat_served.proofs.MovedLemmas.{all_moved-refl}
use Rattle.ecat_served.proofs.PlainLemmas.{Still, Visits, visits_plain}

-- ---- frames of items, none circulating

abbrev Calm : Entry → Type 0
Calm e = e.sent.circulating ≡ false

calm_entries : (k : ℕ) (items : List ItemRecord) → AllByRecursion Calm (entries_from k items)
unfolding entries_from
calm_entries k [] = tt
calm_entries k (r ∷ rs) = (refl, calm_entries (suc k) rs)

calm_more : (es : List Entry) (e : Entry) → AllByRecursion Calm es → Calm e
    → AllByRecursion Calm (es ++ e ∷ [])
calm_more [] e all one = (one, tt)
calm_more (x ∷ es) e all one = (all.0, calm_more es e all.1 one)

calm_is_still : (es : List Entry) → AllByRecursion Calm es → Still es
calm_is_still [] all = refl
calm_is_still (e ∷ es) all = all.0

still_onto : (frame es : List Entry) → AllByRecursion Calm frame → AllByRecursion Calm es
    → AllByRecursion Still (cut_onto frame es)
unfolding cut_onto
still_onto frame [] some all = (calm_is_still frame some, tt)
still_onto frame (e ∷ es) some all =
    let P : Bool → Type 0 =
    λ b. AllByRecursion Still (cond b (cut_onto (frame ++ e ∷ []) es) (frame ∷ cut_onto (e ∷ []) es)) in
    elim (fits_frame (frame ++ e ∷ [])) as P [
      | true ↦ still_onto (frame ++ e ∷ []) es (calm_more frame e some all.0) all.1
      | false ↦ (calm_is_still frame some, still_onto (e ∷ []) es (all.0, tt) all.1)
    ]

still_cut : (es : List Entry) → AllByRecursion Calm es → AllByRecursion Still (cut es)
unfolding cut
still_cut [] all = tt
still_cut (e ∷ es) all = still_onto (e ∷ []) es (all.0, tt) all.1

pub still_frames : (items : List ItemRecord) → AllByRecursion Still (frames_of items)
still_frames items = still_cut (entries_from 0 items) (calm_entries 0 items)

-- ---- the trips of frames

record PlainTrips (links : Links) (n : ℕ) (fs : List (List Entry)) (ws : List Weather) (gots : List Traffic)
    (line later : List ControllerState) : Type 0 where
  runs : List (List Visit)
  moving : MovingTrips (trips_of ws links n fs) runs line
  left : behind runs line ≡ later
  met : AreAllMetOn gots runs
  given : AllGivenByMoving (trips_of ws links n fs) runs (came_on_each ws gots)

plain_trips : (links : Links) (n : ℕ) (fs : List (List Entry)) (ws : List Weather) (gots : List Traffic)
    (line later : List ControllerState) → length line ≡ n → AllByRecursion Still fs
    → AreServedTrips (map plain fs) ws gots line later → PlainTrips links n fs ws gots line later
unfolding trips_of AllGivenByMoving
plain_trips links n [] [] [] line later size still served =
    record { runs = []; moving = tt; left = sym served; met = tt; given = tt }
plain_trips links n [] [] (got ∷ gots) line later size still served = absurd served
plain_trips links n [] (w ∷ ws) gots line later size still served = absurd served
plain_trips links n (f ∷ fs) [] gots line later size still served = absurd served
plain_trips links n (f ∷ fs) (w ∷ ws) [] line later size still served = absurd served
plain_trips links n (f ∷ fs) (w ∷ ws) (got ∷ gots) line later size still served =
    let between : List ControllerState = served.0 in
    let first : Visits f w n line got between =
    subst (λ k. Visits f w k line got between) size (visits_plain f w line between got still.0 served.1) in
    let vs : List Visit = first.visits in
    let rest : PlainTrips links n fs ws gots between later =
    plain_trips links n fs ws gots between later first.size still.1 served.2 in
    record {
      runs = vs ∷ rest.runs;
      moving = (
        first.is.moving,
        subst (λ (l : List ControllerState). MovingTrips (trips_of ws links n fs) rest.runs l)
            (sym first.is.left) rest.moving,
      );
      left = ap (behind rest.runs) first.is.left ∙ rest.left;
      met = (first.is.met, rest.met);
      given = (inl first.came, rest.given);
    }

pub plain_cycle : (ws : List Weather) (r : RingState) (items : List ItemRecord) (gots : List Traffic)
    (later : List ControllerState) → IsServedCycle ws r items gots later
    → (runs : List (List Visit)) × IsVisitedCycle ws r items gots later runs
plain_cycle ws r items gots later served =
    let all = plain_trips r.links (length r.slaves) (frames_of items) ws gots (line_of r) later
    (length-controllers r.slaves) (still_frames items) served in (
      all.runs,
      record { moving = all.moving; left = all.left; met = all.met; given = all.given },
    )

-- so the end of the cycle says of the ring what it says of one that moves
pub cycle_says : (ws : List Weather) (r : RingState) (items : List ItemRecord) (expected : List ℕ)
    (gots : List Traffic) (later : List ControllerState) (result : Result Verdict CycleFault)
    (items_later : List ItemRecord) → length r.slaves ≤ MAX_SLAVES → IsAccepted r.slaves items
    → expected ≡ map (expected_of (line_of r)) items → IsServedCycle ws r items gots later
    → SaysOfEachMoving items expected (came_on_each ws gots) result items_later
    → (runs : List (List Visit)) × AreAllMetOn gots runs × SaysOfMoving ws r items runs result items_later
cycle_says ws r items expected gots later result items_later room accepted counts served says =
    let all = plain_cycle ws r items gots later served in
    (all.0, all.1.met, says ws r all.0 room accepted all.1.moving counts all.1.given)

-- the packets of trips one after the other are one history
pub one_history : (sents : List Sent) (ws : List Weather) (gots : List Traffic)
    (line later : List ControllerState) → AreServedTrips sents ws gots line later
    → IsHistory line (packets_of gots) later
one_history [] [] [] line later served =
    subst (λ (l : List ControllerState). AllHaveMoved line l) (sym served) (all_moved-refl line)
one_history [] [] (got ∷ gots) line later served = absurd served
one_history [] (w ∷ ws) gots line later served = absurd served
one_history (s ∷ sents) [] gots line later served = absurd served
one_history (s ∷ sents) (w ∷ ws) [] line later served = absurd served
one_history (s ∷ sents) (w ∷ ws) (got ∷ gots) line later served =
    joined_histories line served.0 later got.packets (packets_of gots) served.1.history
    (one_history sents ws gots served.0 later served.2)
