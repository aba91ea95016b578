-- One datagram more, and one trip more; and that what is counted adds up over all of them.
use Rattle.std.proofs.Common.{◌≡◌, ◌∙◌, ⊎_elim, ℕ, zero, suc, ◌+◌, ◌-◌, ◌<◌, true, false, refl, sym, ap}
use Rattle.std.proofs.Common.{subst, arith, get_or, drop, List, [], ◌∷◌, length, Option, None, Some, is_some}
use Rattle.std.proofs.Math.Seq.{drop-cons, drop-length}
use Rattle.std.proofs.lemmas.Bool.{cases_Bool}
use Rattle.ec_wire.specs.Datagram.{DatagramRecord, nth}
use Rattle.ecat_trips.specs.Alike.{own_count}
use Rattle.ecat_trips.specs.declared.trip.Trip.{Trip}
use Rattle.ecat_serve.specs.State.{ServedState}
use Rattle.ecat_replay.specs.declared.difference.Difference.{Difference}
use Rattle.ecat_replay.specs.declared.part.Part.{Part}
use Rattle.ecat_replay.specs.Comparing.{AddsUp, AreCompared, ComparisonState, IsCompared, compared, compared_at}
use Rattle.ecat_replay.specs.Comparing.{compared_first, compared_with, counted_sent, difference_by}
use Rattle.ecat_replay.specs.Parts.{is_clock, part_of}
use Rattle.ecat_replay.specs.Tallies.{more}
use Rattle.ecat_replay.proofs.SumLemmas.{found-sum}

-- ---- datagrams

pub first_none : (trip : Trip) (there : List DatagramRecord) (here : Option (List DatagramRecord))
    (s : ComparisonState) → compared_first 0 trip there here s ≡ s
unfolding compared_first
first_none trip there here s = refl

pub first_more : (n : ℕ) (trip : Trip) (there : List DatagramRecord) (here : Option (List DatagramRecord))
    (s : ComparisonState)
    → compared_first (n + 1) trip there here s
    ≡ compared_at trip there here n (compared_first n trip there here s)
unfolding compared_first
first_more n trip there here s =
    let e : n + 1 ≡ suc n = omega arith in
    ap (λ (k : ℕ). compared_first k trip there here s) e

-- ---- trips

-- before the first trip none has gone to the line
pub are_none : (trips : List Trip) (s : ComparisonState) → AreCompared (drop (length trips - 0) trips) s s
unfolding AreCompared
are_none trips s =
    let all : length trips - 0 ≡ length trips = omega arith in
    let none : drop (length trips - 0) trips ≡ [] =
    ap (λ (n : ℕ). drop n trips) all ∙ drop-length trips in
    subst (λ (ts : List Trip). AreCompared ts s s) (sym none) refl

-- one trip more goes to it, the newest of those that have gone
pub are_more : (trips : List Trip) (k : ℕ) (trip : Trip) (before between later : ComparisonState)
    → k < length trips → trip ≡ get_or trips (length trips - 1 - k) trip
    → AreCompared (drop (length trips - k) trips) before between → IsCompared trip between later
    → AreCompared (drop (length trips - (k + 1)) trips) before later
unfolding AreCompared
are_more trips k trip before between later inside read rest is =
    let i : ℕ = length trips - 1 - k in
    let at : length trips - (k + 1) ≡ i = omega (arith, inside) in
    let behind : length trips - k ≡ suc i = omega (arith, inside) in
    let split : drop (length trips - (k + 1)) trips ≡ trip ∷ drop (suc i) trips =
    ap (λ (n : ℕ). drop n trips) at ∙ drop-cons trips i trip (omega (arith, inside))
    ∙ ap (λ (t : Trip). t ∷ drop (suc i) trips) (sym read) in
    subst (λ (ts : List Trip). AreCompared ts before later) (sym split)
    (between, subst (λ (n : ℕ). AreCompared (drop n trips) before between) behind rest, is)

-- ---- sums

alike_adds : (s : ComparisonState) (part : Part) (packet : ℕ) → AddsUp s
    → AddsUp (compared part None packet s)
alike_adds s part packet adds = record {
  frames = adds.frames;
  datagrams = let e = adds.datagrams in grind (arith, e);
  found = adds.found;
}

clocks_add : (s : ComparisonState) (part : Part) (difference : Difference) (packet : ℕ)
    → is_clock part ≡ true → AddsUp s → AddsUp (compared part (Some difference) packet s)
clocks_add s part difference packet clock adds = rw clock (record {
  frames = adds.frames;
  datagrams = let e = adds.datagrams in grind (arith, e);
  found = adds.found;
})

other_adds : (s : ComparisonState) (part : Part) (difference : Difference) (packet : ℕ)
    → is_clock part ≡ false → AddsUp s → AddsUp (compared part (Some difference) packet s)
other_adds s part difference packet other adds = rw other (record {
  frames = adds.frames;
  datagrams = let e = adds.datagrams in grind (arith, e);
  found = ap more adds.found ∙ sym (found-sum part difference packet s.findings);
})

-- one datagram more
compared_adds : (s : ComparisonState) (part : Part) (difference : Option Difference) (packet : ℕ)
    → AddsUp s → AddsUp (compared part difference packet s)
compared_adds s part None packet adds = alike_adds s part packet adds
compared_adds s part (Some difference) packet adds =
    ⊎_elim
    (λ (clock : is_clock part ≡ true). clocks_add s part difference packet clock adds)
    (λ (other : is_clock part ≡ false). other_adds s part difference packet other adds)
    (cases_Bool (is_clock part))

at_adds : (trip : Trip) (there : List DatagramRecord) (here : Option (List DatagramRecord)) (k : ℕ)
    (s : ComparisonState) → AddsUp s → AddsUp (compared_at trip there here k s)
unfolding compared_at
at_adds trip there here k s adds =
    compared_adds s (part_of (nth trip.sent.frame k))
    (difference_by s.line.ring.slaves trip.sent.frame there here k) trip.first.number adds

first_adds : (n : ℕ) (trip : Trip) (there : List DatagramRecord) (here : Option (List DatagramRecord))
    (s : ComparisonState) → AddsUp s → AddsUp (compared_first n trip there here s)
unfolding compared_first
first_adds zero trip there here s adds = adds
first_adds (suc n) trip there here s adds =
    at_adds trip there here n (compared_first n trip there here s) (first_adds n trip there here s adds)

with_adds : (trip : Trip) (there here : Option (List DatagramRecord)) (s : ComparisonState)
    → AddsUp s → AddsUp (compared_with trip there here s)
with_adds trip None here s adds = adds
with_adds trip (Some there) here s adds = first_adds (own_count trip.sent.frame) trip there here s adds

sent_adds : (trip : Trip) (line : ServedState) (s : ComparisonState) → AddsUp s
    → AddsUp (counted_sent trip line s)
sent_adds trip line s adds =
    ⊎_elim
    (λ (answered : is_some trip.came ≡ true). rw answered (record {
      frames = let e = adds.frames in grind (arith, e);
      datagrams = adds.datagrams;
      found = adds.found;
    }))
    (λ (lost : is_some trip.came ≡ false). rw lost (record {
      frames = let e = adds.frames in grind (arith, e);
      datagrams = adds.datagrams;
      found = adds.found;
    }))
    (cases_Bool (is_some trip.came))

-- one trip more
pub trip_adds : (trip : Trip) (before later : ComparisonState) → IsCompared trip before later → AddsUp before
    → AddsUp later
trip_adds trip before later is adds =
    subst AddsUp (sym is.compares)
    (with_adds trip trip.came is.here (counted_sent trip is.line before) (sent_adds trip is.line before adds))

-- all of them
pub trips_add : (trips : List Trip) (before later : ComparisonState) → AreCompared trips before later
    → AddsUp before → AddsUp later
unfolding AreCompared
trips_add [] before later is adds = subst AddsUp (sym is) adds
trips_add (trip ∷ older) before later is adds =
    trip_adds trip is.0 later is.2 (trips_add older before is.0 is.1 adds)
