-- What trips leave of slaves: those that a copy reaches are after all items, each once, and each keeps its
-- station.
use Rattle.std.proofs.Common.{◌≡◌, ℕ, zero, suc, ◌-◌, ◌≤◌, Bool, true, false, cond, eqb}
use Rattle.std.proofs.Common.{List, [], ◌∷◌, ◌++◌, length, map, take, drop, Option, None, Some, append_assoc}
use Rattle.std.proofs.Common.{sym, subst, ◌∙◌, ap, refl, arith}
use Rattle.std.specs.List.{AllByRecursion}
use Rattle.std.specs.Option.{option_map}
use Rattle.std.proofs.lemmas.List.{map-append}
use Rattle.ec_regs.specs.declared.registers.TheConstants.{STATION_ADDRESS}
use Rattle.ec_regs.proofs.Laws.{each-append, each-front, each-back, each-map, each-both, each-take}
use Rattle.ec_regs.proofs.Laws.{each-drop}
use Rattle.ec_esc.specs.State.{ControllerState, IsController, word_at}
use Rattle.ec_app.specs.Lending.{with_controller}
use Rattle.ec_app.specs.State.{SlaveState}
use Rattle.ec_line.specs.Accepted.{Accepts, AcceptsAll}
use Rattle.ec_line.specs.After.{Entry, after, after_frame}
use Rattle.ec_line.specs.Memory.{reached_after}
use Rattle.ec_line.specs.Request.{SameAddress, OnWay}
use Rattle.ec_line.specs.Run.{trips_run, TripsReady, after_trips, visited_trips}
use Rattle.ec_line.specs.Trip.{Trip, front_after, back_after}
use Rattle.ec_wire.specs.declared.kind.Kind.{Kind}
use Rattle.ec_wire.specs.declared.kind.Kind.TheVariants.{Lrd, Lwr, Lrw, Brd, Fprd, Fpwr}
use Rattle.ec_line.specs.Steady.{IsLater}
use Rattle.ec_line.proofs.Laws.{trips_left, trips_steady, after_frame_steady, station_lasts}
use Rattle.ec_check.specs.Fit.{IsFit}
use Rattle.ec_check.specs.Line.{controllers}
use Rattle.ec_check.proofs.Laws.{IsFitLine-fit}
use Rattle.ec_map.specs.Item.{ItemRecord, IsItem, wire_address}
use Rattle.ec_map.specs.Place.{IsPlaced}
use Rattle.ec_map.proofs.Laws.{Accepts-IsPlaced}
use Rattle.ec_ring.specs.Reach.{front, back}
use Rattle.ec_ring.specs.Ring.{RingState, line_of, with_controllers}
use Rattle.ec_ring.specs.declared.links.Links.{Links}
use Rattle.ec_ring.specs.declared.weather.Weather.{Weather}
use Rattle.ec_ring.proofs.Laws.{front-le-back}
use Rattle.ec_master.specs.Cut.{concat, entries_from, fits_frame, cut_onto, cut, frames_of}
use Rattle.ec_master.specs.Travelled.{trips_of, trips_under, run_under, ring_under, reached}
use Rattle.ec_master.specs.Unordered.{ByStation, station, by_station, slave_after, slaves_after}
use Rattle.ec_master.specs.Unordered.{slaves_after_all, IsAccepted}

-- ---- frames put end to end

concat-cut_onto : (frame es : List Entry) → concat (cut_onto frame es) ≡ frame ++ es
unfolding cut_onto
concat-cut_onto frame [] = refl
concat-cut_onto frame (e ∷ es) =
    let P : Bool → Type 0 =
    λ b. concat (cond b (cut_onto (frame ++ e ∷ []) es) (frame ∷ cut_onto (e ∷ []) es)) ≡ frame ++ e ∷ es in
    elim (fits_frame (frame ++ e ∷ [])) as P [
      | true ↦ concat-cut_onto (frame ++ e ∷ []) es ∙ append_assoc frame (e ∷ []) es
      | false ↦ ap (λ (xs : List Entry). frame ++ xs) (concat-cut_onto (e ∷ []) es)
    ]

-- the frames of a work, end to end, are its entries
pub concat-cut : (es : List Entry) → concat (cut es) ≡ es
unfolding cut
concat-cut [] = refl
concat-cut (e ∷ es) = concat-cut_onto (e ∷ []) es

-- what holds of all entries holds of each frame's
pub each-concat : {S : Type 0} (P : S → Type 0) (fs : List (List S)) → AllByRecursion P (concat fs)
    → AllByRecursion (λ f. AllByRecursion P f) fs
each-concat P [] all = tt
each-concat P (f ∷ fs) all =
    (each-front P f (concat fs) all, each-concat P fs (each-back P f (concat fs) all))

-- a frame is left as its parts are, one after the other
pub after_frame-append : (es fs : List Entry) (c : ControllerState)
    → after_frame (es ++ fs) c ≡ after_frame fs (after_frame es c)
unfolding after_frame
after_frame-append [] fs c = refl
after_frame-append (e ∷ es) fs c = after_frame-append es fs (after e.request e.sent.payload c)

-- ---- a slave after all items

pub after_items : List ItemRecord → SlaveState → SlaveState
after_items [] s = s
after_items (r ∷ rs) s = after_items rs (slave_after r s)

-- its controller is after their entries, whatever their numbers
pub after_items-frame : (rs : List ItemRecord) (k : ℕ) (s : SlaveState)
    → after_items rs s ≡ with_controller s (after_frame (entries_from k rs) s.controller)
unfolding after_items after_frame entries_from
after_items-frame [] k s = refl
after_items-frame (r ∷ rs) k s = after_items-frame rs (suc k) (slave_after r s)

-- a slave that accepts the items, and what it keeps of itself
pub record TakesItems (rs : List ItemRecord) (s : SlaveState) : Type 0 where
  pub controller : IsController s.controller
  pub accepts : AcceptsAll (entries_from 0 rs) s.controller

pub station-after_items : (rs : List ItemRecord) (s : SlaveState) → TakesItems rs s
    → station (after_items rs s) ≡ station s
unfolding station
station-after_items rs s takes =
    let es = entries_from 0 rs in
    let c : ControllerState = s.controller in
    let kept = after_frame_steady es c takes.controller takes.accepts in
    ap (λ (t : SlaveState). word_at t.controller.memory STATION_ADDRESS) (after_items-frame rs 0 s)
    ∙ station_lasts c (after_frame es c) takes.controller kept

-- ---- slaves by their stations

-- slaves that change and keep their stations
pub by_station-map : (f : SlaveState → SlaveState) (ys : List SlaveState) (n : ℕ)
    → AllByRecursion (λ s. station (f s) ≡ station s) ys
    → by_station (map f ys) n ≡ option_map f (by_station ys n)
unfolding by_station
by_station-map f [] n same = refl
by_station-map f (y ∷ ys) n same =
    let rest : Option SlaveState = by_station (map f ys) n in
    let P : Bool → Type 0 =
    λ b. cond b (Some (f y)) rest ≡ option_map f (cond b (Some y) (by_station ys n)) in
    ap (λ (m : ℕ). cond (eqb m n) (Some (f y)) rest) same.0
    ∙ elim (eqb (station y) n) as P [ true ↦ refl | false ↦ by_station-map f ys n same.1 ]

slaves-none : (o : Option SlaveState) → o ≡ option_map (after_items []) o
unfolding after_items
slaves-none None = refl
slaves-none (Some s) = refl

slaves-more : (r : ItemRecord) (rs : List ItemRecord) (o : Option SlaveState)
    → option_map (after_items rs) (option_map (slave_after r) o) ≡ option_map (after_items (r ∷ rs)) o
unfolding after_items
slaves-more r rs None = refl
slaves-more r rs (Some s) = refl

-- the slave of a station after all items
pub slaves_after_all-at : (rs : List ItemRecord) (slaves : ByStation) (n : ℕ)
    → slaves_after_all rs slaves n ≡ option_map (after_items rs) (slaves n)
slaves_after_all-at [] slaves n = slaves-none (slaves n)
slaves_after_all-at (r ∷ rs) slaves n =
    slaves_after_all-at rs (slaves_after r slaves) n ∙ slaves-more r rs (slaves n)

-- slaves after all items, by their stations
pub by_station-after_items : (rs : List ItemRecord) (ys : List SlaveState) (n : ℕ)
    → AllByRecursion (TakesItems rs) ys
    → by_station (map (after_items rs) ys) n ≡ slaves_after_all rs (by_station ys) n
by_station-after_items rs ys n takes =
    by_station-map (after_items rs) ys n
    (each-map (TakesItems rs) (λ s. station (after_items rs s) ≡ station s) ys
    (λ s one. station-after_items rs s one) takes)
    ∙ sym (slaves_after_all-at rs (by_station ys) n)

-- ---- slaves with other controllers

with_controllers-map : (f : ControllerState → ControllerState) (ys : List SlaveState)
    → with_controllers ys (map f (controllers ys))
    ≡ map (λ (s : SlaveState). with_controller s (f s.controller)) ys
with_controllers-map f [] = refl
with_controllers-map f (y ∷ ys) =
    ap (λ (l : List SlaveState). with_controller y (f y.controller) ∷ l) (with_controllers-map f ys)

map-same : {S T : Type 0} (f g : S → T) (xs : List S) → ((x : S) → f x ≡ g x) → map f xs ≡ map g xs
map-same f g [] same = refl
map-same {S} {T} f g (x ∷ xs) same =
    ap (λ (y : T). y ∷ map f xs) (same x) ∙ ap (λ (l : List T). g x ∷ l) (map-same f g xs same)

map-map : {S : Type 0} (f g h : S → S) (xs : List S) → ((x : S) → g (f x) ≡ h x) → map g (map f xs) ≡ map h xs
map-map f g h [] same = refl
map-map {S} f g h (x ∷ xs) same =
    ap (λ (y : S). y ∷ map g (map f xs)) (same x) ∙ ap (λ (l : List S). h x ∷ l) (map-map f g h xs same)

-- everybody after every trip, as one frame of all entries leaves them
pub after_trips-concat : (ts : List Trip) (line : List ControllerState)
    → after_trips ts line ≡ map (after_frame (concat (map (λ (t : Trip). t.entries) ts))) line
unfolding after_frame
after_trips-concat [] [] = refl
after_trips-concat [] (c ∷ cs) = ap (λ (l : List ControllerState). c ∷ l) (after_trips-concat [] cs)
after_trips-concat (t ∷ ts) line =
    let es : List Entry = concat (map (λ (u : Trip). u.entries) ts) in
    after_trips-concat ts (map (after_frame t.entries) line)
    ∙ map-map (after_frame t.entries) (after_frame es) (after_frame (t.entries ++ es)) line
    (λ c. sym (after_frame-append t.entries es c))

-- each slave after all trips, where their entries are those of items
pub by_station-after_trips : (ts : List Trip) (rs : List ItemRecord) (ys : List SlaveState) (n : ℕ)
    → concat (map (λ (t : Trip). t.entries) ts) ≡ entries_from 0 rs → AllByRecursion (TakesItems rs) ys
    → by_station (with_controllers ys (after_trips ts (controllers ys))) n
    ≡ slaves_after_all rs (by_station ys) n
by_station-after_trips ts rs ys n entries takes =
    let es = entries_from 0 rs in
    let slaves : with_controllers ys (after_trips ts (controllers ys)) ≡ map (after_items rs) ys =
    ap (λ (l : List ControllerState). with_controllers ys l) (after_trips-concat ts (controllers ys))
    ∙ ap (λ (l : List Entry). with_controllers ys (map (after_frame l) (controllers ys))) entries
    ∙ with_controllers-map (after_frame es) ys
    ∙ map-same (λ (s : SlaveState). with_controller s (after_frame es s.controller)) (after_items rs) ys
    (λ s. sym (after_items-frame rs 0 s)) in
    ap (λ (l : List SlaveState). by_station l n) slaves ∙ by_station-after_items rs ys n takes

-- ---- a first and a last piece, each member once

with_controllers-reached : (f : ControllerState → ControllerState) (p q : ℕ) (ys : List SlaveState)
    → with_controllers ys (reached_after f p q (controllers ys))
    ≡ reached_after (λ (s : SlaveState). with_controller s (f s.controller)) p q ys
with_controllers-reached f p q [] = refl
with_controllers-reached f zero zero (y ∷ ys) =
    ap (λ (l : List SlaveState). with_controller y (f y.controller) ∷ l)
    (with_controllers-reached f zero zero ys)
with_controllers-reached f zero (suc q) (y ∷ ys) =
    ap (λ (l : List SlaveState). y ∷ l) (with_controllers-reached f zero q ys)
with_controllers-reached f (suc p) zero (y ∷ ys) =
    ap (λ (l : List SlaveState). with_controller y (f y.controller) ∷ l)
    (with_controllers-reached f p zero ys)
with_controllers-reached f (suc p) (suc q) (y ∷ ys) =
    ap (λ (l : List SlaveState). with_controller y (f y.controller) ∷ l) (with_controllers-reached f p q ys)

reached-ext : {S : Type 0} (f g : S → S) (p q : ℕ) (xs : List S) → ((x : S) → f x ≡ g x)
    → reached_after f p q xs ≡ reached_after g p q xs
reached-ext f g p q [] same = refl
reached-ext {S} f g zero zero (x ∷ xs) same =
    ap (λ (y : S). y ∷ reached_after f zero zero xs) (same x)
    ∙ ap (λ (l : List S). g x ∷ l) (reached-ext f g zero zero xs same)
reached-ext {S} f g zero (suc q) (x ∷ xs) same = ap (λ (l : List S). x ∷ l) (reached-ext f g zero q xs same)
reached-ext {S} f g (suc p) zero (x ∷ xs) same =
    ap (λ (y : S). y ∷ reached_after f p zero xs) (same x)
    ∙ ap (λ (l : List S). g x ∷ l) (reached-ext f g p zero xs same)
reached-ext {S} f g (suc p) (suc q) (x ∷ xs) same =
    ap (λ (y : S). y ∷ reached_after f p q xs) (same x)
    ∙ ap (λ (l : List S). g x ∷ l) (reached-ext f g p q xs same)

-- a change that is none
reached-same : {S : Type 0} (f : S → S) (p q : ℕ) (xs : List S) → ((x : S) → f x ≡ x)
    → reached_after f p q xs ≡ xs
reached-same f p q [] same = refl
reached-same {S} f zero zero (x ∷ xs) same =
    ap (λ (y : S). y ∷ reached_after f zero zero xs) (same x)
    ∙ ap (λ (l : List S). x ∷ l) (reached-same f zero zero xs same)
reached-same {S} f zero (suc q) (x ∷ xs) same = ap (λ (l : List S). x ∷ l) (reached-same f zero q xs same)
reached-same {S} f (suc p) zero (x ∷ xs) same =
    ap (λ (y : S). y ∷ reached_after f p zero xs) (same x)
    ∙ ap (λ (l : List S). x ∷ l) (reached-same f p zero xs same)
reached-same {S} f (suc p) (suc q) (x ∷ xs) same =
    ap (λ (y : S). y ∷ reached_after f p q xs) (same x)
    ∙ ap (λ (l : List S). x ∷ l) (reached-same f p q xs same)

-- one change after the other
reached-then : {S : Type 0} (f g h : S → S) (p q : ℕ) (xs : List S) → ((x : S) → g (f x) ≡ h x)
    → reached_after g p q (reached_after f p q xs) ≡ reached_after h p q xs
reached-then f g h p q [] same = refl
reached-then {S} f g h zero zero (x ∷ xs) same =
    ap (λ (y : S). y ∷ reached_after g zero zero (reached_after f zero zero xs)) (same x)
    ∙ ap (λ (l : List S). h x ∷ l) (reached-then f g h zero zero xs same)
reached-then {S} f g h zero (suc q) (x ∷ xs) same =
    ap (λ (l : List S). x ∷ l) (reached-then f g h zero q xs same)
reached-then {S} f g h (suc p) zero (x ∷ xs) same =
    ap (λ (y : S). y ∷ reached_after g p zero (reached_after f p zero xs)) (same x)
    ∙ ap (λ (l : List S). h x ∷ l) (reached-then f g h p zero xs same)
reached-then {S} f g h (suc p) (suc q) (x ∷ xs) same =
    ap (λ (y : S). y ∷ reached_after g p q (reached_after f p q xs)) (same x)
    ∙ ap (λ (l : List S). h x ∷ l) (reached-then f g h p q xs same)

length-reached : {S : Type 0} (f : S → S) (p q : ℕ) (xs : List S)
    → length (reached_after f p q xs) ≡ length xs
length-reached f p q [] = refl
length-reached f zero zero (x ∷ xs) = ap (λ (n : ℕ). suc n) (length-reached f zero zero xs)
length-reached f zero (suc q) (x ∷ xs) = ap (λ (n : ℕ). suc n) (length-reached f zero q xs)
length-reached f (suc p) zero (x ∷ xs) = ap (λ (n : ℕ). suc n) (length-reached f p zero xs)
length-reached f (suc p) (suc q) (x ∷ xs) = ap (λ (n : ℕ). suc n) (length-reached f p q xs)

-- its pieces
take-reached : {S : Type 0} (f : S → S) (p q : ℕ) (xs : List S)
    → take p (reached_after f p q xs) ≡ map f (take p xs)
take-reached f zero q xs = refl
take-reached f (suc p) q [] = refl
take-reached {S} f (suc p) zero (x ∷ xs) = ap (λ (l : List S). f x ∷ l) (take-reached f p zero xs)
take-reached {S} f (suc p) (suc q) (x ∷ xs) = ap (λ (l : List S). f x ∷ l) (take-reached f p q xs)

back-all : {S : Type 0} (f : S → S) (p : ℕ) (xs : List S) → reached_after f p zero xs ≡ map f xs
back-all f p [] = refl
back-all {S} f zero (x ∷ xs) = ap (λ (l : List S). f x ∷ l) (back-all f zero xs)
back-all {S} f (suc p) (x ∷ xs) = ap (λ (l : List S). f x ∷ l) (back-all f p xs)

drop-reached : {S : Type 0} (f : S → S) (p q : ℕ) (xs : List S)
    → drop q (reached_after f p q xs) ≡ map f (drop q xs)
drop-reached f p zero xs = back-all f p xs
drop-reached f p (suc q) [] = refl
drop-reached f zero (suc q) (x ∷ xs) = drop-reached f zero q xs
drop-reached f (suc p) (suc q) (x ∷ xs) = drop-reached f p q xs

front-kept : {S : Type 0} (f : S → S) (q : ℕ) (xs : List S) → take q (reached_after f zero q xs) ≡ take q xs
front-kept f zero xs = refl
front-kept f (suc q) [] = refl
front-kept {S} f (suc q) (x ∷ xs) = ap (λ (l : List S). x ∷ l) (front-kept f q xs)

-- and what lies between them stays
between-reached : {S : Type 0} (f : S → S) (p q : ℕ) (xs : List S)
    → take (q - p) (drop p (reached_after f p q xs)) ≡ take (q - p) (drop p xs)
between-reached f p q [] = refl
between-reached f zero q (x ∷ xs) =
    let e : q - 0 ≡ q = omega arith in rw e (front-kept f q (x ∷ xs))
between-reached f (suc p) zero (x ∷ xs) = let e : 0 - suc p ≡ 0 = omega arith in rw e refl
between-reached f (suc p) (suc q) (x ∷ xs) =
    let e : suc q - suc p ≡ q - p = omega arith in rw e (between-reached f p q xs)

-- two copies one after the other whose pieces do not meet
visited-apart : {S : Type 0} (f : S → S) (p q : ℕ) (xs : List S) → p ≤ q
    → back_after f q (front_after f p xs) ≡ reached_after f p q xs
visited-apart f zero zero [] apart = refl
visited-apart f zero (suc q) [] apart = refl
visited-apart f (suc p) zero [] apart = refl
visited-apart f (suc p) (suc q) [] apart = refl
visited-apart {S} f zero zero (x ∷ xs) apart =
    ap (λ (l : List S). f x ∷ l) (visited-apart f zero zero xs (omega arith))
visited-apart {S} f zero (suc q) (x ∷ xs) apart =
    ap (λ (l : List S). x ∷ l) (visited-apart f zero q xs (omega arith))
visited-apart f (suc p) zero (x ∷ xs) apart = absurd (omega arith)
visited-apart {S} f (suc p) (suc q) (x ∷ xs) apart =
    ap (λ (l : List S). f x ∷ l) (visited-apart f p q xs (omega arith))

-- ---- the trips of a ring

-- its trips leave those that a copy reaches as one frame of all entries does
visited_trips-concat : (links : Links) (n : ℕ) (fs : List (List Entry)) (line : List ControllerState)
    → visited_trips (trips_of [] links n fs) line
    ≡ reached_after (after_frame (concat fs)) (front links n) (back links n) line
unfolding trips_of after_frame
visited_trips-concat links n [] line =
    sym (reached-same (after_frame []) (front links n) (back links n) line (λ c. refl))
visited_trips-concat links n (f ∷ fs) line =
    let p = front links n in
    let q = back links n in
    ap (λ (l : List ControllerState). visited_trips (trips_of [] links n fs) l)
    (visited-apart (after_frame f) p q line (front-le-back links n))
    ∙ visited_trips-concat links n fs (reached_after (after_frame f) p q line)
    ∙ reached-then (after_frame f) (after_frame (concat fs)) (after_frame (f ++ concat fs)) p q line
    (λ c. sym (after_frame-append f (concat fs) c))

-- what holds of each frame holds of each trip's
pub each-trip : (P : List Entry → Type 0) (ws : List Weather) (links : Links) (n : ℕ) (fs : List (List Entry))
    → AllByRecursion P fs → AllByRecursion (λ t. P t.entries) (trips_of ws links n fs)
unfolding trips_of
each-trip P ws links n [] all = tt
each-trip P [] links n (f ∷ fs) all = (all.0, each-trip P [] links n fs all.1)
each-trip P (w ∷ ws) links n (f ∷ fs) all = (all.0, each-trip P ws links n fs all.1)

-- the trips carry the frames
pub entries-trips_of : (ws : List Weather) (links : Links) (n : ℕ) (fs : List (List Entry))
    → map (λ (t : Trip). t.entries) (trips_of ws links n fs) ≡ fs
unfolding trips_of
entries-trips_of ws links n [] = refl
entries-trips_of [] links n (f ∷ fs) = ap (λ (l : List (List Entry)). f ∷ l) (entries-trips_of [] links n fs)
entries-trips_of (w ∷ ws) links n (f ∷ fs) =
    ap (λ (l : List (List Entry)). f ∷ l) (entries-trips_of ws links n fs)

-- ---- what an accepted line and accepted items give

same_address : (k : Kind) (a : ℕ) → SameAddress k a a
same_address Lrd a = refl
same_address Lwr a = refl
same_address Lrw a = refl
same_address Brd a = refl
same_address Fprd a = refl
same_address Fpwr a = refl

pub entries-on_way : (k : ℕ) (rs : List ItemRecord) → AllByRecursion IsItem rs
    → AllByRecursion (λ e. OnWay e.request e.sent) (entries_from k rs)
unfolding entries_from
entries-on_way k [] items = tt
entries-on_way k (r ∷ rs) items = (
  record {
    command = refl;
    size = refl;
    address = same_address r.kind (wire_address r);
    counter = items.0.counter;
  },
  entries-on_way (suc k) rs items.1,
)

entries-accepted : (k : ℕ) (line : List ControllerState) (rs : List ItemRecord) → IsFit line
    → AllByRecursion IsItem rs → AllByRecursion (IsPlaced line) rs
    → AllByRecursion (λ e. AllByRecursion (Accepts e.request) line) (entries_from k rs)
unfolding entries_from
entries-accepted k line [] fit items placed = tt
entries-accepted k line (r ∷ rs) fit items placed =
    (Accepts-IsPlaced line r fit items.0 placed.0, entries-accepted (suc k) line rs fit items.1 placed.1)

-- what each member accepts of each entry
swap-accepts : (es : List Entry) (line : List ControllerState)
    → AllByRecursion (λ e. AllByRecursion (Accepts e.request) line) es → AllByRecursion (AcceptsAll es) line
swap-accepts [] [] all = tt
swap-accepts [] (c ∷ cs) all = (tt, swap-accepts [] cs tt)
swap-accepts (e ∷ es) line all =
    each-both (Accepts e.request) (AcceptsAll es) (AcceptsAll (e ∷ es)) line (λ c one rest. (one, rest)) all.0
    (swap-accepts es line all.1)

pub trips_ready : (ws : List Weather) (r : RingState) (items : List ItemRecord) → IsAccepted r.slaves items
    → AllByRecursion IsItem items → TripsReady (trips_under ws r items) (line_of r)
trips_ready ws r items accepted are_items =
    let line : List ControllerState = line_of r in
    let fs : List (List Entry) = frames_of items in
    let n : ℕ = length r.slaves in
    let es : List Entry = entries_from 0 items in
    let E : Entry → Type 0 = λ e. AllByRecursion (Accepts e.request) line in
    let W : Entry → Type 0 = λ e. OnWay e.request e.sent in
    let accepts : AllByRecursion E (concat fs) =
    subst (λ (l : List Entry). AllByRecursion E l) (sym (concat-cut es))
    (entries-accepted 0 line items accepted.fit are_items accepted.placed) in
    let ways : AllByRecursion W (concat fs) =
    subst (λ (l : List Entry). AllByRecursion W l) (sym (concat-cut es)) (entries-on_way 0 items are_items) in
    record {
      fit = IsFitLine-fit line accepted.are accepted.fit;
      accepts =
          each-trip (λ f. AllByRecursion (AcceptsAll f) line) ws r.links n fs
          (each-map (λ f. AllByRecursion E f) (λ f. AllByRecursion (AcceptsAll f) line) fs
          (λ f all. swap-accepts f line all) (each-concat E fs accepts));
      entries = each-trip (λ f. AllByRecursion W f) ws r.links n fs (each-concat W fs ways);
    }

-- each slave accepts the items
takes-each : (rs : List ItemRecord) (ys : List SlaveState) → AllByRecursion IsController (controllers ys)
    → AllByRecursion (AcceptsAll (entries_from 0 rs)) (controllers ys) → AllByRecursion (TakesItems rs) ys
takes-each rs [] are accept = tt
takes-each rs (y ∷ ys) are accept =
    (record { controller = are.0; accepts = accept.0 }, takes-each rs ys are.1 accept.1)

-- each controller of a line does
pub accepts_items : (line : List ControllerState) (items : List ItemRecord) → IsFit line
    → AllByRecursion (IsPlaced line) items → AllByRecursion IsItem items
    → AllByRecursion (AcceptsAll (entries_from 0 items)) line
accepts_items line items fit placed are_items =
    swap-accepts (entries_from 0 items) line (entries-accepted 0 line items fit are_items placed)

pub takes_items : (ys : List SlaveState) (items : List ItemRecord) → IsAccepted ys items
    → AllByRecursion IsItem items → AllByRecursion (TakesItems items) ys
takes_items ys items accepted are_items =
    takes-each items ys accepted.are
    (accepts_items (controllers ys) items accepted.fit accepted.placed are_items)

-- ---- the slaves of a ring after a cycle under its own links

pub ring_slaves : (r : RingState) (items : List ItemRecord) → IsAccepted r.slaves items
    → AllByRecursion IsItem items
    → (ring_under [] r items).slaves
    ≡ reached_after (after_items items) (front r.links (length r.slaves)) (back r.links (length r.slaves))
    r.slaves
ring_slaves r items accepted are_items =
    let ys : List SlaveState = r.slaves in
    let line : List ControllerState = line_of r in
    let n : ℕ = length ys in
    let p : ℕ = front r.links n in
    let q : ℕ = back r.links n in
    let es : List Entry = entries_from 0 items in
    let ts : List Trip = trips_under [] r items in
    let ready = trips_ready [] r items accepted are_items in
    let left : (trips_run ts line).line ≡ visited_trips ts line =
    trips_left ts line ready in
    ap (λ (l : List ControllerState). with_controllers ys l)
    (left ∙ visited_trips-concat r.links n (frames_of items) line
    ∙ ap (λ (l : List Entry). reached_after (after_frame l) p q line) (concat-cut es))
    ∙ with_controllers-reached (after_frame es) p q ys
    ∙ reached-ext (λ (s : SlaveState). with_controller s (after_frame es s.controller)) (after_items items) p
    q ys
    (λ s. sym (after_items-frame items 0 s))

-- those that a copy reaches, each after all items once
pub ring_reached : (r : RingState) (items : List ItemRecord) → IsAccepted r.slaves items
    → AllByRecursion IsItem items → reached (ring_under [] r items) ≡ map (after_items items) (reached r)
ring_reached r items accepted are_items =
    let ys : List SlaveState = r.slaves in
    let n : ℕ = length ys in
    let p : ℕ = front r.links n in
    let q : ℕ = back r.links n in
    let g : SlaveState → SlaveState = after_items items in
    let zs : List SlaveState = reached_after g p q ys in
    ap (λ (l : List SlaveState). take (front r.links (length l)) l ++ drop (back r.links (length l)) l)
    (ring_slaves r items accepted are_items)
    ∙ ap (λ (m : ℕ). take (front r.links m) zs ++ drop (back r.links m) zs) (length-reached g p q ys)
    ∙ ap (λ (l : List SlaveState). l ++ drop q zs) (take-reached g p q ys)
    ∙ ap (λ (l : List SlaveState). map g (take p ys) ++ l) (drop-reached g p q ys)
    ∙ sym (map-append g (take p ys) (drop q ys))

-- of each station among them, the slave after all items
pub reached_by_station : (r : RingState) (items : List ItemRecord) (n : ℕ) → IsAccepted r.slaves items
    → AllByRecursion IsItem items
    → by_station (reached (ring_under [] r items)) n ≡ slaves_after_all items (by_station (reached r)) n
reached_by_station r items n accepted are_items =
    let ys : List SlaveState = r.slaves in
    let p : ℕ = front r.links (length ys) in
    let q : ℕ = back r.links (length ys) in
    let takes : AllByRecursion (TakesItems items) ys = takes_items ys items accepted are_items in
    ap (λ (l : List SlaveState). by_station l n) (ring_reached r items accepted are_items)
    ∙ by_station-after_items items (reached r) n
    (each-append (TakesItems items) (take p ys) (drop q ys) (each-take (TakesItems items) p ys takes)
    (each-drop (TakesItems items) q ys takes))

-- the others are as they were
pub unreached_kept : (r : RingState) (items : List ItemRecord) → IsAccepted r.slaves items
    → AllByRecursion IsItem items
    → (let p = front r.links (length r.slaves) in let q = back r.links (length r.slaves)
    in take (q - p) (drop p (ring_under [] r items).slaves) ≡ take (q - p) (drop p r.slaves))
unreached_kept r items accepted are_items =
    let p : ℕ = front r.links (length r.slaves) in
    let q : ℕ = back r.links (length r.slaves) in
    ap (λ (l : List SlaveState). take (q - p) (drop p l)) (ring_slaves r items accepted are_items)
    ∙ between-reached (after_items items) p q r.slaves

-- ---- stations, in any weather

stations-later : (ys : List SlaveState) (cs : List ControllerState)
    → AllByRecursion IsController (controllers ys)
    → IsLater (controllers ys) cs → map station (with_controllers ys cs) ≡ map station ys
unfolding station
stations-later [] cs are later = refl
stations-later (y ∷ ys) [] are later = absurd later
stations-later (y ∷ ys) (c ∷ cs) are later =
    ap (λ (m : ℕ). m ∷ map station (with_controllers ys cs)) (station_lasts y.controller c are.0 later.0.0)
    ∙ ap (λ (l : List ℕ). station y ∷ l) (stations-later ys cs are.1 later.1)

-- each slave keeps its station
pub stations_kept : (ws : List Weather) (r : RingState) (items : List ItemRecord) → IsAccepted r.slaves items
    → AllByRecursion IsItem items → map station (ring_under ws r items).slaves ≡ map station r.slaves
stations_kept ws r items accepted are_items =
    let line : List ControllerState = line_of r in
    let ready = trips_ready ws r items accepted are_items in
    stations-later r.slaves (run_under ws r items).line accepted.are
    (trips_steady (trips_under ws r items) line ready)
