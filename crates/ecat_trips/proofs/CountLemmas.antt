-- One step keeps each trip.
use Rattle.std.proofs.Common.{◌≡◌, ℕ, ◌+◌, ◌-◌, ◌<◌, ◌≤◌, ◌&&◌, Bool, true, false, cond}
use Rattle.std.proofs.Common.{Option, None, Some, is_some, List, [], ◌∷◌, length, get_or, set, refl, sym}
use Rattle.std.proofs.Common.{ap, arith, eqb, nat_lt, position, remove}
use Rattle.std.specs.List.{sum_by}
use Rattle.std.proofs.lemmas.Bool.Decides.{nat_tests}
use Rattle.std.proofs.lemmas.List.Sums.{sum_by-cons}
use Rattle.std.proofs.lemmas.List.Quantifiers.{position-Some}
use Rattle.ec_wire.specs.Datagram.{DatagramRecord}
use Rattle.ecat_trips.specs.declared.packet.Outline.{Outline}
use Rattle.ecat_trips.specs.declared.trip.Trip.{Trip}
use Rattle.ecat_trips.specs.declared.marks.Marks.{Marks}
use Rattle.ecat_trips.specs.declared.way.Told.{Told}
use Rattle.ecat_trips.specs.declared.way.Way.{Way}
use Rattle.ecat_trips.specs.declared.way.Way.TheVariants.{Sent, Returned}
use Rattle.ecat_trips.specs.declared.trips.TheConstants.{MAX_ON_THE_WAY}
use Rattle.ecat_trips.specs.Alike.{number_behind}
use Rattle.ecat_trips.specs.Trip.{asks_again, begun, has_room, is_second, with_second, with_return}
use Rattle.ecat_trips.specs.Steps.{TripsState, Move, bears_trip, ends, oldest_ends, begins, replaces}
use Rattle.ecat_trips.specs.Steps.{seconds}
use Rattle.ecat_trips.specs.Steps.{comes_back, closes, strays, sent_new, sent, returned, by_way, step}
use Rattle.ecat_trips.specs.Runs.{Happened, Runs, begun_by, ended_by, came_back, did_not, sent_trip}
use Rattle.ecat_trips.specs.Runs.{returned_trip, lost_trip}
use Rattle.std.proofs.Common.{length-append, length-take, length-drop, length-set}

-- a step keeps each trip, and as many are on the way afterwards as may be
pub record KeepsTrips (s : TripsState) (mv : Move) : Type 0 where
  pub count : begun_by mv.step + length s.on_the_way
      ≡ ended_by came_back mv.step + ended_by did_not mv.step + length mv.after.on_the_way
  pub most : length mv.after.on_the_way ≤ MAX_ON_THE_WAY

-- a trip that ends either returned or was lost
one_of : (t : Trip) → came_back t + did_not t ≡ 1
one_of t = by (is_some t.back)
  where
    by : (b : Bool) → cond b 1 0 + cond b 0 1 ≡ 1
    by true = refl
    by false = refl

length-remove : {X : Type 0} (xs : List X) (i : ℕ) → i < length xs → length (remove xs i) + 1 ≡ length xs
length-remove xs i inside = grind (arith, length-append, length-take, length-drop)

module _ (p : Outline) (frame : List DatagramRecord) (s : TripsState)
    (few : length s.on_the_way ≤ MAX_ON_THE_WAY) where
  abbrev ts : List Trip
  ts = s.on_the_way

  abbrev d : Trip
  d = begun p frame

  ends_keeps : (i : ℕ) → i < length ts → KeepsTrips s (ends p frame s i)
  ends_keeps i inside =
      let e = length-remove ts i inside in
      let one = one_of (get_or ts i d) in
      record { count = omega (arith, e, one); most = omega (arith, e) }

  oldest_keeps : 0 < length ts → KeepsTrips s (oldest_ends p frame s)
  oldest_keeps some = ends_keeps (length ts - 1) (omega arith)

  begins_keeps : (told : Told) → KeepsTrips s (begins p frame s told)
  begins_keeps told = by (nat_lt (length ts) MAX_ON_THE_WAY) refl
    where
      by : (b : Bool) → nat_lt (length ts) MAX_ON_THE_WAY ≡ b → KeepsTrips s (begins p frame s told)
      by true e = rw e (record { count = omega arith; most = omega (arith, room e) })
        where
          room : nat_lt (length ts) MAX_ON_THE_WAY ≡ true → length ts + 1 ≤ MAX_ON_THE_WAY
          room e = grind (arith, nat_tests)
      by false e = rw e (oldest_keeps (some e))
        where
          some : nat_lt (length ts) MAX_ON_THE_WAY ≡ false → 0 < length ts
          some e = grind (arith, nat_tests)

  -- a trip is changed
  set_keeps : (i : ℕ) (t : Trip) → length (set ts i t) ≡ length ts
  set_keeps i t = length-set ts i t

  seconds_keeps : (told : Told) (i : ℕ) → KeepsTrips s (seconds p frame s told i)
  seconds_keeps told i =
      let e = set_keeps i (with_second p (get_or ts i d)) in
      record { count = omega (arith, e); most = omega (arith, e) }

  comes_back_keeps : (told : Told) (i : ℕ) → KeepsTrips s (comes_back p frame s told i)
  comes_back_keeps told i =
      let e = set_keeps i (with_return p frame (get_or ts i d)) in
      record { count = omega (arith, e); most = omega (arith, e) }

  closes_keeps : (told : Told) (i : ℕ) → i < length ts → KeepsTrips s (closes p frame s told i)
  closes_keeps told i inside = by (eqb (length ts) (i + 1)) refl
    where
      by : (b : Bool) → eqb (length ts) (i + 1) ≡ b → KeepsTrips s (closes p frame s told i)
      by true e = rw e
          (let g = length-remove ts i inside in
          let one = one_of (with_return p frame (get_or ts i d)) in
          record { count = omega (arith, g, one); most = omega (arith, g) })
      by false e = rw e (oldest_keeps (omega arith))

  strays_keeps : (told : Told) (at : Option ℕ) → KeepsTrips s (strays s told at)
  strays_keeps told None = record { count = omega arith; most = few }
  strays_keeps told (Some j) = record { count = omega arith; most = few }

  replaces_keeps : (told : Told) (i : ℕ) → i < length ts → KeepsTrips s (replaces p frame s told i)
  replaces_keeps told i inside =
      let e = length-remove ts i inside in
      let one = one_of (get_or ts i d) in
      record { count = omega (arith, e, one); most = omega (arith, e) }

  new_keeps : (told : Told) (at : Option ℕ) (numbered : Bool)
      → at ≡ cond numbered (position (asks_again frame) ts) None → KeepsTrips s (sent_new p frame s told at)
  new_keeps told None numbered e = begins_keeps told
  new_keeps told (Some j) false e = cc
  new_keeps told (Some j) true e =
      replaces_keeps told j (position-Some (asks_again frame) ts j d (sym e)).0

  sent_keeps : (m : Marks) (told : Told) (at : Option ℕ) → at ≡ position (bears_trip frame) ts
      → KeepsTrips s (sent m p frame s told at)
  sent_keeps m told None e = new_keeps told _ (is_some (number_behind frame)) refl
  sent_keeps m told (Some i) e = by (m.two && is_second p frame (get_or ts i d)) refl
    where
      by : (b : Bool) → (m.two && is_second p frame (get_or ts i d)) ≡ b
          → KeepsTrips s (sent m p frame s told (Some i))
      by true h = rw h (seconds_keeps told i)
      by false h = rw h (replaces_keeps told i (position-Some (bears_trip frame) ts i d (sym e)).0)

  returned_keeps : (m : Marks) (told : Told) (at : Option ℕ) → at ≡ position (bears_trip frame) ts
      → KeepsTrips s (returned m p frame s told at)
  returned_keeps m told None e = strays_keeps told _
  returned_keeps m told (Some i) e = by (has_room (get_or ts i d)) refl
    where
      again : (b : Bool) → KeepsTrips s (cond b (comes_back p frame s told i) (closes p frame s told i))
      again true = comes_back_keeps told i
      again false = closes_keeps told i (position-Some (bears_trip frame) ts i d (sym e)).0

      by : (b : Bool) → has_room (get_or ts i d) ≡ b → KeepsTrips s (returned m p frame s told (Some i))
      by true h = rw h (again _)
      by false h = rw h (strays_keeps told _)

  by_way_keeps : (m : Marks) (told : Told) (at : Option ℕ) (way : Way) → at ≡ position (bears_trip frame) ts
      → KeepsTrips s (by_way m p frame s told at way)
  by_way_keeps m told at Sent e = sent_keeps m told at e
  by_way_keeps m told at Returned e = returned_keeps m told at e

  step_keeps : (m : Marks) → KeepsTrips s (step m p frame s)
  step_keeps m = by_way_keeps m _ _ _ refl

-- over a run
pub runs_keep_trips : (m : Marks) (hs : List Happened) (s t : TripsState)
    → length s.on_the_way ≤ MAX_ON_THE_WAY → Runs m s hs t
    → (sum_by sent_trip hs + length s.on_the_way
    ≡ sum_by returned_trip hs + sum_by lost_trip hs + length t.on_the_way)
    × (length t.on_the_way ≤ MAX_ON_THE_WAY)
runs_keep_trips m [] s t few run =
    let same : length t.on_the_way ≡ length s.on_the_way = ap (λ (u : TripsState). length u.on_the_way) run in
    (omega (arith, same), omega (arith, same))
runs_keep_trips m (h ∷ hs) s t few run =
    let one = step_keeps h.packet h.frame s few m in
    let rest = runs_keep_trips m hs (step m h.packet h.frame s).after t one.most run.1 in
    let begun : sent_trip h ≡ begun_by (step m h.packet h.frame s).step = ap begun_by run.0 in
    let back : returned_trip h ≡ ended_by came_back (step m h.packet h.frame s).step
    = ap (ended_by came_back) run.0 in
    let gone : lost_trip h ≡ ended_by did_not (step m h.packet h.frame s).step
    = ap (ended_by did_not) run.0 in (
      omega (
        arith,
        one.count,
        rest.0,
        begun,
        back,
        gone,
        sum_by-cons sent_trip h hs,
        sum_by-cons returned_trip h hs,
        sum_by-cons lost_trip h hs,
      ),
      rest.1,
    )
