-- A cycle makes at most one trip for each item.
use Rattle.std.proofs.Common.{◌≡◌, ◌≤◌, ℕ, suc, Bool, true, false, cond, List, [], ◌∷◌, ◌++◌, length, map}
use Rattle.std.proofs.Common.{refl, ap, ◌∙◌, arith, Ok, Err}
use Rattle.std.proofs.lemmas.List.{length-map}
use Rattle.ec_wire.specs.Datagram.{DatagramRecord}
use Rattle.ec_line.specs.After.{Entry}
use Rattle.ec_line.specs.Answered.{sent_of}
use Rattle.ec_map.specs.Item.{ItemRecord}
use Rattle.ec_master.specs.Cut.{cut, cut_onto, entries_from, fits_frame, frames_of}
use Rattle.ec_master.specs.Ports.{Outcome, Sends, Trips}
use Rattle.ec_master.specs.Work.{rewound}
use Rattle.ec_run.specs.Cycles.{End, IsCycle, items_sent}
use Rattle.ec_run.specs.Outputs.{outputs_at}
use Rattle.ec_run.specs.Travels.{IsWithin}
use Rattle.ec_run.specs.declared.cycles.Cycles.{Cycles}
use Rattle.ec_run.specs.declared.outputs.Outputs.{Outputs}
use Rattle.ec_run.proofs.OutputLemmas.{length_of_outputs}
use Rattle.ec_run.proofs.TravelsLemmas.{one_and, one_of, within_less, within_none, within_one}

-- ---- the frames of items

either_few : (b : Bool) (xs ys : List (List Entry)) (n : ℕ) → length xs ≤ n → length ys ≤ n
    → length (cond b xs ys) ≤ n
either_few true xs ys n first second = first
either_few false xs ys n first second = second

onto_few : (es frame : List Entry) → length (cut_onto frame es) ≤ suc (length es)
unfolding cut_onto
onto_few [] frame = omega arith
onto_few (e ∷ es) frame =
    let same = onto_few es (frame ++ e ∷ []) in
    let new = onto_few es (e ∷ []) in
    either_few (fits_frame (frame ++ e ∷ [])) (cut_onto (frame ++ e ∷ []) es) (frame ∷ cut_onto (e ∷ []) es)
    (suc (length (e ∷ es))) (omega (arith, same)) (omega (arith, new))

cut_few : (es : List Entry) → length (cut es) ≤ length es
unfolding cut
cut_few [] = omega arith
cut_few (e ∷ es) = let few = onto_few es (e ∷ []) in omega (arith, few)

entries_size : (k : ℕ) (items : List ItemRecord) → length (entries_from k items) ≡ length items
unfolding entries_from
entries_size k [] = refl
entries_size k (r ∷ rs) = ap suc (entries_size (suc k) rs)

frames_few : (items : List ItemRecord) → length (map sent_of (frames_of items)) ≤ length items
frames_few items =
    let mapped : length (map sent_of (frames_of items)) ≡ length (frames_of items) =
    length-map (frames_of items) sent_of in
    let few : length (frames_of items) ≤ length (entries_from 0 items) = cut_few (entries_from 0 items) in
    let size : length (entries_from 0 items) ≡ length items = entries_size 0 items in
    omega (arith, mapped, few, size)

-- ---- a cycle

sends_within : {P : Type 0} (trips : Trips P) (before later : P) (frames : List (List DatagramRecord))
    (outcome : Outcome) → Sends trips before frames outcome later
    → IsWithin trips (length frames) before later
unfolding Sends
sends_within trips before later [] outcome (is, same) = within_none trips 0 before later same
sends_within trips before later (sent ∷ rest) outcome (Err fault, between, trip, (is, same)) =
    one_of trips (length rest) before between later same
    (within_one trips before between sent trip.came trip.made)
sends_within trips before later (sent ∷ rest) outcome (Ok joined, between, trip, (others, sends, is)) =
    one_and trips (length rest) before between later
    (within_one trips before between sent trip.came trip.made)
    (sends_within trips between later rest others sends)

pub cycle_within : {P : Type 0} (trips : Trips P) (before later : P) (outputs : Outputs) (expected : List ℕ)
    (s after : Cycles) (end : End) → IsCycle trips before outputs expected s end after later
    → IsWithin trips (length s.asked) before later
cycle_within trips before later outputs expected s after end cycle =
    let items : List ItemRecord = items_sent outputs s in
    let size : length items ≡ length s.asked =
    length-map (outputs_at outputs s.counts.cycles s.asked) rewound
    ∙ length_of_outputs outputs s.counts.cycles s.asked in
    let few : length (map sent_of (frames_of items)) ≤ length items = frames_few items in
    within_less trips _ (length s.asked) before later (omega (arith, size, few))
    (sends_within trips before later (map sent_of (frames_of items)) cycle.cycle.outcome cycle.cycle.sends)
