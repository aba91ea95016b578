-- One step keeps each packet.
use Rattle.std.proofs.Common.{◌≡◌, ℕ, suc, ◌+◌, ◌-◌, ◌<◌, ◌&&◌, Bool, true, false, cond}
use Rattle.std.proofs.Common.{Option, None, Some, is_none, is_some, List, [], ◌∷◌, length, get_or, refl, sym}
use Rattle.std.proofs.Common.{ap, arith, eqb, nat_lt, All, position, remove}
use Rattle.std.specs.List.{sum_by}
use Rattle.std.proofs.lemmas.Bool.{and_parts}
use Rattle.std.proofs.lemmas.Bool.Decides.{nat_tests}
use Rattle.std.proofs.lemmas.List.Sums.{sum_by-cons, sum_by-set, sum_by-remove}
use Rattle.std.proofs.lemmas.List.Elements.{All-cons, All-set, All-get_or, All-append, All-take, All-drop}
use Rattle.std.proofs.lemmas.List.Quantifiers.{position-Some}
use Rattle.ec_wire.specs.Datagram.{DatagramRecord}
use Rattle.ecat_trips.specs.declared.packet.Outline.{Outline}
use Rattle.ecat_trips.specs.declared.trip.Trip.{Trip}
use Rattle.ecat_trips.specs.declared.marks.Marks.{Marks}
use Rattle.ecat_trips.specs.declared.way.Told.{Told}
use Rattle.ecat_trips.specs.declared.way.Way.{Way}
use Rattle.ecat_trips.specs.declared.way.Way.TheVariants.{Sent, Returned}
use Rattle.ecat_trips.specs.declared.trips.TheConstants.{MAX_ON_THE_WAY}
use Rattle.ecat_trips.specs.Alike.{number_behind}
use Rattle.ecat_trips.specs.Trip.{asks_again, begun, has_room, is_second, with_second, with_return}
use Rattle.ecat_trips.specs.Steps.{TripsState, Move, bears_trip, ends, oldest_ends, begins, replaces}
use Rattle.ecat_trips.specs.Steps.{seconds}
use Rattle.ecat_trips.specs.Steps.{comes_back, closes, strays, sent_new, sent, returned, by_way, step}
use Rattle.ecat_trips.specs.Runs.{Happened, Runs, of_copies, of_taken, of_ended, of_astray, taken_by}
use Rattle.ecat_trips.specs.Runs.{astray_by, ended_by}
use Rattle.ecat_trips.proofs.CopyLemmas.{of_copies-begun, of_copies-second, of_copies-return}

-- no trip on the way has its second copy back
abbrev pub AwaitsOne : Trip → Type 0
AwaitsOne t = t.again ≡ None

-- a step of a packet keeps by this measure each packet
pub record Keeps (w : Outline → ℕ) (p : Outline) (s : TripsState) (mv : Move) : Type 0 where
  pub measure : taken_by (w p) mv.step + sum_by (of_copies w) s.on_the_way
      ≡ ended_by (of_copies w) mv.step + astray_by (w p) mv.step + sum_by (of_copies w) mv.after.on_the_way
  pub awaits : All AwaitsOne mv.after.on_the_way

is_none-None : {X : Type 0} (o : Option X) → is_none o ≡ true → o ≡ None
is_none-None None e = refl
is_none-None (Some x) e = cc

All-remove : {X : Type 0} (P : X → Type 0) (xs : List X) (i : ℕ) → All P xs → All P (remove xs i)
All-remove P xs i h = All-append P _ _ (All-take P i xs h) (All-drop P (suc i) xs h)

module _ (w : Outline → ℕ) (p : Outline) (frame : List DatagramRecord) (s : TripsState)
    (awaits : All AwaitsOne s.on_the_way) where
  abbrev f : Trip → ℕ
  f = of_copies w

  abbrev ts : List Trip
  ts = s.on_the_way

  abbrev d : Trip
  d = begun p frame

  ends_keeps : (i : ℕ) → i < length ts → Keeps w p s (ends p frame s i)
  ends_keeps i inside = record {
    measure = let e = sum_by-remove f ts i d inside in omega (arith, e);
    awaits = All-remove AwaitsOne ts i awaits;
  }

  oldest_keeps : 0 < length ts → Keeps w p s (oldest_ends p frame s)
  oldest_keeps some = ends_keeps (length ts - 1) (omega arith)

  begins_keeps : (told : Told) → Keeps w p s (begins p frame s told)
  begins_keeps told = by (nat_lt (length ts) MAX_ON_THE_WAY) refl
    where
      by : (b : Bool) → nat_lt (length ts) MAX_ON_THE_WAY ≡ b → Keeps w p s (begins p frame s told)
      by true e = rw e
          (record {
            measure =
                let g = of_copies-begun w p frame in
                let h = sum_by-cons f d ts in
                omega (arith, g, h);
            awaits = All-cons AwaitsOne d ts refl awaits;
          })
      by false e = rw e (oldest_keeps (some e))
        where
          some : nat_lt (length ts) MAX_ON_THE_WAY ≡ false → 0 < length ts
          some e = grind (arith, nat_tests)

  seconds_keeps : (told : Told) (i : ℕ) → i < length ts → (get_or ts i d).second ≡ None
      → Keeps w p s (seconds p frame s told i)
  seconds_keeps told i inside none = record {
    measure =
        let e = sum_by-set f ts i (with_second p (get_or ts i d)) d inside in
        let g = of_copies-second w p (get_or ts i d) none in
        omega (arith, e, g);
    awaits = All-set AwaitsOne ts i (with_second p (get_or ts i d))
        (All-get_or AwaitsOne ts i d inside awaits) awaits;
  }

  comes_back_keeps : (told : Told) (i : ℕ) → i < length ts → (get_or ts i d).back ≡ None
      → Keeps w p s (comes_back p frame s told i)
  comes_back_keeps told i inside none = record {
    measure =
        let e = sum_by-set f ts i (with_return p frame (get_or ts i d)) d inside in
        let g = of_copies-return w p frame (get_or ts i d) (All-get_or AwaitsOne ts i d inside awaits) in
        omega (arith, e, g);
    awaits = All-set AwaitsOne ts i (with_return p frame (get_or ts i d))
        (first_again (get_or ts i d) none (All-get_or AwaitsOne ts i d inside awaits)) awaits;
  }
    where
      first_again : (t : Trip) → t.back ≡ None → AwaitsOne t → AwaitsOne (with_return p frame t)
      first_again t none one = rw none one

  closes_keeps : (told : Told) (i : ℕ) → i < length ts → Keeps w p s (closes p frame s told i)
  closes_keeps told i inside = by (eqb (length ts) (i + 1)) refl
    where
      by : (b : Bool) → eqb (length ts) (i + 1) ≡ b → Keeps w p s (closes p frame s told i)
      by true e = rw e
          (record {
            measure =
                let e = sum_by-remove f ts i d inside in
                let one = All-get_or AwaitsOne ts i d inside awaits in
                let g = of_copies-return w p frame (get_or ts i d) one in
                omega (arith, e, g);
            awaits = All-remove AwaitsOne ts i awaits;
          })
      by false e = rw e (oldest_keeps (omega arith))

  strays_keeps : (told : Told) (at : Option ℕ) → Keeps w p s (strays s told at)
  strays_keeps told None = record { measure = omega arith; awaits = awaits }
  strays_keeps told (Some j) = record { measure = omega arith; awaits = awaits }

  replaces_keeps : (told : Told) (i : ℕ) → i < length ts → Keeps w p s (replaces p frame s told i)
  replaces_keeps told i inside = record {
    measure =
        let e = sum_by-remove f ts i d inside in
        let g = of_copies-begun w p frame in
        let h = sum_by-cons f d (remove ts i) in
        omega (arith, e, g, h);
    awaits = All-cons AwaitsOne d (remove ts i) refl (All-remove AwaitsOne ts i awaits);
  }

  -- a trip that a packet is the second copy of has none
  second_none : (t : Trip) → is_second p frame t ≡ true → t.second ≡ None
  second_none t e =
      is_none-None t.second (and_parts _ _ (and_parts _ _ e).0).0

  new_keeps : (told : Told) (at : Option ℕ) (numbered : Bool)
      → at ≡ cond numbered (position (asks_again frame) ts) None → Keeps w p s (sent_new p frame s told at)
  new_keeps told None numbered e = begins_keeps told
  new_keeps told (Some j) false e = cc
  new_keeps told (Some j) true e =
      replaces_keeps told j (position-Some (asks_again frame) ts j d (sym e)).0

  sent_keeps : (m : Marks) (told : Told) (at : Option ℕ) → at ≡ position (bears_trip frame) ts
      → Keeps w p s (sent m p frame s told at)
  sent_keeps m told None e = new_keeps told _ (is_some (number_behind frame)) refl
  sent_keeps m told (Some i) e = by (m.two && is_second p frame (get_or ts i d)) refl
    where
      inside : i < length ts
      inside = (position-Some (bears_trip frame) ts i d (sym e)).0

      by : (b : Bool) → (m.two && is_second p frame (get_or ts i d)) ≡ b
          → Keeps w p s (sent m p frame s told (Some i))
      by true h = rw h
          (seconds_keeps told i inside
          (second_none (get_or ts i d) (and_parts m.two (is_second p frame (get_or ts i d)) h).1))
      by false h = rw h (replaces_keeps told i inside)

  returned_keeps : (m : Marks) (told : Told) (at : Option ℕ) → at ≡ position (bears_trip frame) ts
      → Keeps w p s (returned m p frame s told at)
  returned_keeps m told None e = strays_keeps told _
  returned_keeps m told (Some i) e = by (has_room (get_or ts i d)) refl
    where
      inside : i < length ts
      inside = (position-Some (bears_trip frame) ts i d (sym e)).0

      again : (b : Bool) → (m.two && is_none (get_or ts i d).back) ≡ b
          → Keeps w p s (cond b (comes_back p frame s told i) (closes p frame s told i))
      again true h = comes_back_keeps told i inside
          (is_none-None _ (and_parts m.two (is_none (get_or ts i d).back) h).1)
      again false h = closes_keeps told i inside

      by : (b : Bool) → has_room (get_or ts i d) ≡ b → Keeps w p s (returned m p frame s told (Some i))
      by true h = rw h (again _ refl)
      by false h = rw h (strays_keeps told _)

  by_way_keeps : (m : Marks) (told : Told) (at : Option ℕ) (way : Way) → at ≡ position (bears_trip frame) ts
      → Keeps w p s (by_way m p frame s told at way)
  by_way_keeps m told at Sent e = sent_keeps m told at e
  by_way_keeps m told at Returned e = returned_keeps m told at e

  pub step_keeps : (m : Marks) → Keeps w p s (step m p frame s)
  step_keeps m = by_way_keeps m _ _ _ refl

-- over a run
module _ (w : Outline → ℕ) (m : Marks) where
  pub runs_keep : (hs : List Happened) (s t : TripsState) → All AwaitsOne s.on_the_way → Runs m s hs t
      → sum_by (of_taken w) hs + sum_by (of_copies w) s.on_the_way
      ≡ sum_by (of_ended w) hs + sum_by (of_astray w) hs + sum_by (of_copies w) t.on_the_way
  runs_keep [] s t awaits run =
      let same : sum_by (of_copies w) t.on_the_way ≡ sum_by (of_copies w) s.on_the_way
      = ap (λ (u : TripsState). sum_by (of_copies w) u.on_the_way) run in
      omega (arith, same)
  runs_keep (h ∷ hs) s t awaits run =
      let one = step_keeps w h.packet h.frame s awaits m in
      let rest = runs_keep hs (step m h.packet h.frame s).after t one.awaits run.1 in
      let taken : of_taken w h ≡ taken_by (w h.packet) (step m h.packet h.frame s).step
      = ap (taken_by (w h.packet)) run.0 in
      let ended : of_ended w h ≡ ended_by (of_copies w) (step m h.packet h.frame s).step
      = ap (ended_by (of_copies w)) run.0 in
      let astray : of_astray w h ≡ astray_by (w h.packet) (step m h.packet h.frame s).step
      = ap (astray_by (w h.packet)) run.0 in
      omega (
        arith,
        one.measure,
        rest,
        taken,
        ended,
        astray,
        sum_by-cons (of_taken w) h hs,
        sum_by-cons (of_ended w) h hs,
        sum_by-cons (of_astray w) h hs,
      )
