-- The verdict on a cycle over a ring that moves is that by counts; what a good one says; and what is said of
-- such a ring by what came over ports.
use Rattle.std.proofs.Common.{◌≡◌, ◌≤◌, ℕ, sym, subst, ap, ◌∙◌}
use Rattle.std.proofs.Common.{List, [], ◌∷◌, length, map, true, false, Ok}
use Rattle.std.specs.Prelude.{Result}
use Rattle.std.specs.List.{AllByRecursion}
use Rattle.ec_wire.specs.Datagram.{DatagramRecord}
use Rattle.ec_merge.specs.Frames.{IsOwn}
use Rattle.ec_esc.specs.State.{ControllerState}
use Rattle.ec_line.specs.Answered.{sent_of}
use Rattle.ec_line.specs.Moving.{Visit, CountsReturned, joined_on_each, joined_moving}
use Rattle.ec_line.specs.Moving.{when_a, when_b, copy_a, copy_b}
use Rattle.ec_line.specs.Run.{CountsWholeAll}
use Rattle.ec_line.specs.Trip.{Trip, passed}
use Rattle.ec_line.proofs.Laws.{own_a, own_b, counts_returned, good_moments, moving_outputs, moving_shown, still_lines}
use Rattle.ec_map.specs.Item.{ItemRecord, IsItem}
use Rattle.ec_map.specs.Share.{expected_of}
use Rattle.ec_ring.specs.Ring.{RingState, line_of, with_line}
use Rattle.ec_ring.specs.declared.links.TheConstants.{MAX_SLAVES}
use Rattle.ec_ring.specs.declared.port.PortFault.{PortFault}
use Rattle.ec_ring.specs.declared.weather.Came.{Came}
use Rattle.ec_ring.specs.declared.weather.Weather.{Weather}
use Rattle.ec_master.specs.Certificate.{verdict_by_counts, IsOneDown}
use Rattle.ec_master.specs.Cut.{concat}
use Rattle.ec_master.specs.Given.{AllThatCame, in_turn}
use Rattle.ec_master.specs.Moments.{IsMovingCycle, answers_moving, verdict_moving, FramesAtMoments}
use Rattle.ec_master.specs.Moments.{OutputsLast, OutputsShown, ring_moving, copies_moving, GivenByMoving, AllGivenByMoving, SaysOfMoving}
use Rattle.ec_master.specs.Moments.{SaysOfEachMoving}
use Rattle.ec_master.specs.Ports.{Outcome, Sends, EndsIn, IsPortCycle}
use Rattle.ec_master.specs.Travelled.{trips_under, weathers_under, answers_under, ring_under}
use Rattle.ec_master.specs.Unordered.{IsAccepted}
use Rattle.ec_master.specs.Verdict.{verdict}
use Rattle.ec_master.specs.Work.{with_answers}
use Rattle.ec_master.specs.declared.cycle.CycleFault.{CycleFault}
use Rattle.ec_master.specs.declared.verdict.Verdict.{Verdict}
use Rattle.ec_master.specs.declared.verdict.Verdict.TheVariants.{Good}
use Rattle.ec_master.proofs.MomentAgainLemmas.{moving_again, moving_expected}
use Rattle.ec_master.proofs.MomentLemmas.{frames_at_moments}
use Rattle.ec_master.proofs.SlaveLemmas.{trips_ready, accepts_items}
use Rattle.ec_master.proofs.SufficeLemmas.{OnWays, comes-joined, behind-joined, frames-trips, taken-good}
use Rattle.ec_master.proofs.SufficeLemmas.{taken-other}
use Rattle.ec_master.proofs.VerdictLemmas.{entries_under, line_room, verdict-moved, good_moved}
use Rattle.ec_master.proofs.VerdictLemmas.{one_down_counts}

-- ---- the verdict

moving_counts : (ws : List Weather) (r : RingState) (items : List ItemRecord) (runs : List (List Visit))
    → IsAccepted r.slaves items → AllByRecursion IsItem items → IsMovingCycle ws r items runs
    → CountsReturned (trips_under ws r items) (line_of r) (joined_on_each (trips_under ws r items) runs)
moving_counts ws r items runs accepted are moving =
    counts_returned (trips_under ws r items) (line_of r) runs (trips_ready ws r items accepted are) moving

pub moving_verdict : (ws : List Weather) (r : RingState) (items : List ItemRecord) (runs : List (List Visit))
    → length r.slaves ≤ MAX_SLAVES → IsAccepted r.slaves items → AllByRecursion IsItem items
    → IsMovingCycle ws r items runs
    → verdict_moving ws r items runs ≡ verdict_by_counts (trips_under ws r items) items (line_of r)
moving_verdict ws r items runs room accepted are moving =
    verdict-moved ws r items (joined_on_each (trips_under ws r items) runs) room are
    (moving_counts ws r items runs accepted are moving)

pub moving_one_down : (ws : List Weather) (r : RingState) (items : List ItemRecord) (runs : List (List Visit))
    → length r.slaves ≤ MAX_SLAVES → IsAccepted r.slaves items → AllByRecursion IsItem items
    → IsMovingCycle ws r items runs → AllByRecursion (IsOneDown (length r.slaves)) (weathers_under ws r items)
    → verdict_moving ws r items runs ≡ Good
moving_one_down ws r items runs room accepted are moving down =
    moving_verdict ws r items runs room accepted are moving ∙ one_down_counts ws r items down

-- ---- a good verdict

moving_whole : (ws : List Weather) (r : RingState) (items : List ItemRecord) (runs : List (List Visit))
    → length r.slaves ≤ MAX_SLAVES → IsAccepted r.slaves items → AllByRecursion IsItem items
    → IsMovingCycle ws r items runs → verdict_moving ws r items runs ≡ Good
    → CountsWholeAll (trips_under ws r items) (line_of r) (joined_on_each (trips_under ws r items) runs)
moving_whole ws r items runs room accepted are moving good =
    good_moved ws r items (joined_on_each (trips_under ws r items) runs) are
    (moving_counts ws r items runs accepted are moving)
    (sym (moving_verdict ws r items runs room accepted are moving) ∙ good)

pub moving_image : (ws : List Weather) (r : RingState) (items : List ItemRecord) (runs : List (List Visit))
    → length r.slaves ≤ MAX_SLAVES → IsAccepted r.slaves items → AllByRecursion IsItem items
    → IsMovingCycle ws r items runs → verdict_moving ws r items runs ≡ Good
    → FramesAtMoments r.slaves (trips_under ws r items) runs items
    (with_answers items (answers_moving ws r items runs))
moving_image ws r items runs room accepted are moving good =
    let line : List ControllerState = line_of r in
    let ts : List Trip = trips_under ws r items in
    let ready = trips_ready ws r items accepted are in
    frames_at_moments r.slaves ts runs 0 items (joined_on_each ts runs) ready.fit
    (accepts_items line items accepted.fit accepted.placed are) are (entries_under ws r items)
    (good_moments ts line runs (line_room r room) ready moving
    (moving_whole ws r items runs room accepted are moving good))

pub outputs_last : (ws : List Weather) (r : RingState) (items : List ItemRecord) (runs : List (List Visit))
    → length r.slaves ≤ MAX_SLAVES → IsAccepted r.slaves items → AllByRecursion IsItem items
    → IsMovingCycle ws r items runs → verdict_moving ws r items runs ≡ Good → OutputsLast ws r items runs
outputs_last ws r items runs room accepted are moving good =
    moving_outputs (trips_under ws r items) (line_of r) runs (line_room r room)
    (trips_ready ws r items accepted are) moving
    (moving_whole ws r items runs room accepted are moving good)

pub outputs_shown : (ws : List Weather) (r : RingState) (items : List ItemRecord) (runs : List (List Visit))
    → length r.slaves ≤ MAX_SLAVES → IsAccepted r.slaves items → AllByRecursion IsItem items
    → IsMovingCycle ws r items runs → verdict_moving ws r items runs ≡ Good → OutputsShown ws r items runs
outputs_shown ws r items runs room accepted are moving good =
    moving_shown (trips_under ws r items) (line_of r) runs (line_room r room)
    (trips_ready ws r items accepted are) moving
    (moving_whole ws r items runs room accepted are moving good)

-- ---- still rings

-- a cycle over a ring that stands still is one over a ring that moves, at which nothing moves
pub still_cycle : (ws : List Weather) (r : RingState) (items : List ItemRecord) → (runs : List (List Visit))
    × IsMovingCycle ws r items runs × (answers_moving ws r items runs ≡ answers_under ws r items)
    × (ring_moving r runs ≡ ring_under ws r items)
still_cycle ws r items =
    let still = still_lines (trips_under ws r items) (line_of r) in
    (still.0, still.1, ap concat still.2, ap (with_line r) still.3)

-- ---- over ports

-- its copies are no strangers, whatever they met
own_a-moving : (t : Trip) (vs : List Visit) → OnWays t → IsOwn (sent_of t.entries) (copy_a t vs).frame
unfolding passed
own_a-moving t vs ways = own_a (record t { b_first = false }) (when_a vs) ways

own_b-moving : (t : Trip) (vs : List Visit) → OnWays t → IsOwn (sent_of t.entries) (copy_b t vs).frame
unfolding passed
own_b-moving t vs ways = own_b (record t { b_first = true }) (when_b vs) ways

-- the first trip gives what came first, and those behind it the rest
first-moving : (t : Trip) (ts : List Trip) (vs : List Visit) (rest : List (List Visit)) (came : AllThatCame)
    (first : Result Came PortFault) (more : AllThatCame) → came ≡ first ∷ more
    → AllGivenByMoving (t ∷ ts) (vs ∷ rest) came → GivenByMoving t vs first × AllGivenByMoving ts rest more
unfolding AllGivenByMoving
first-moving t ts vs rest came first more is given = subst (AllGivenByMoving (t ∷ ts) (vs ∷ rest)) is given

none-moving : (t : Trip) (ts : List Trip) (came : AllThatCame) (first : Result Came PortFault)
    (more : AllThatCame) → came ≡ first ∷ more → AllGivenByMoving (t ∷ ts) [] came → ⊥
unfolding AllGivenByMoving
none-moving t ts came first more is given = subst (AllGivenByMoving (t ∷ ts) []) is given

-- frames of trips whose copies come back as the trips give them are all joined as the trips are
moving-run : (ts : List Trip) (runs : List (List Visit)) (came : AllThatCame) (outcome : Outcome)
    → AllByRecursion OnWays ts → AllGivenByMoving ts runs came
    → Sends in_turn came (map (λ (t : Trip). sent_of t.entries) ts) outcome []
    → outcome ≡ Ok (joined_on_each ts runs)
unfolding Sends
moving-run [] runs came outcome ways given sends = sends.0
moving-run (t ∷ ts) [] came outcome ways given sends =
    absurd (none-moving t ts came sends.2.came sends.1 sends.2.made given)
moving-run (t ∷ ts) (vs ∷ rest) came outcome ways given sends =
    let parts = first-moving t ts vs rest came sends.2.came sends.1 sends.2.made given in
    behind-joined sends.1 (map (λ (u : Trip). sent_of u.entries) ts) outcome sends.0 (joined_moving t vs)
    (joined_on_each ts rest)
    (comes-joined t (copies_moving t vs) sends.2.came sends.0 (own_a-moving t vs ways.0)
    (own_b-moving t vs ways.0) parts.0 sends.2.comes)
    (λ others more. moving-run ts rest sends.1 others ways.1 parts.1 more)
    sends.3

-- joined frames of a ring's trips end in what is said of the ring
moving_says : (ws : List Weather) (r : RingState) (items : List ItemRecord) (runs : List (List Visit))
    (expected : List ℕ) (result : Result Verdict CycleFault) (items_later : List ItemRecord)
    → length r.slaves ≤ MAX_SLAVES → IsAccepted r.slaves items → AllByRecursion IsItem items
    → IsMovingCycle ws r items runs → expected ≡ map (expected_of (line_of r)) items
    → EndsIn items expected (Ok (joined_on_each (trips_under ws r items) runs)) result items_later
    → SaysOfMoving ws r items runs result items_later
moving_says ws r items runs expected result items_later room accepted are moving counts ends =
    let answers : List DatagramRecord = answers_moving ws r items runs in
    let v : Verdict = verdict items answers expected in
    let same : v ≡ verdict_moving ws r items runs = ap (verdict items answers) counts in
    let by_counts = same ∙ moving_verdict ws r items runs room accepted are moving in
    let is_good : result ≡ Ok Good → v ≡ Good = λ good. let e : Ok v ≡ Ok Good = sym ends.0 ∙ good in cc in
    record {
      counted = ends.0 ∙ ap (λ (x : Verdict). Ok x) by_counts;
      image = λ good. subst (FramesAtMoments r.slaves (trips_under ws r items) runs items)
          (sym (ends.1 ∙ taken-good v items answers (is_good good)))
          (moving_image ws r items runs room accepted are moving (sym same ∙ is_good good));
      outputs = λ good. outputs_last ws r items runs room accepted are moving (sym same ∙ is_good good);
      shown = λ good. outputs_shown ws r items runs room accepted are moving (sym same ∙ is_good good);
      untouched = λ other. ends.1
          ∙ taken-other v items answers (λ is. other (ends.0 ∙ ap (λ (x : Verdict). Ok x) is));
      again = λ others asks. moving_again ws r items others runs accepted are moving asks;
      still_expected = λ others also asks. moving_expected ws r items others runs accepted are also moving asks;
    }

pub moving_suffices : (items : List ItemRecord) (expected : List ℕ) (came : AllThatCame)
    (result : Result Verdict CycleFault) (items_later : List ItemRecord) → AllByRecursion IsItem items
    → IsPortCycle in_turn came items expected result items_later []
    → SaysOfEachMoving items expected came result items_later
moving_suffices items expected came result items_later are cycle ws r runs room accepted moving counts given =
    let ts : List Trip = trips_under ws r items in
    let sends : Sends in_turn came (map (λ (t : Trip). sent_of t.entries) ts) cycle.outcome [] =
    subst (λ (fs : List (List DatagramRecord)). Sends in_turn came fs cycle.outcome [])
    (sym (frames-trips ws r items)) cycle.sends in
    let joined = moving-run ts runs came cycle.outcome (trips_ready ws r items accepted are).entries given
    sends in
    moving_says ws r items runs expected result items_later room accepted are moving counts
    (subst (λ (o : Outcome). EndsIn items expected o result items_later) joined cycle.ends)
