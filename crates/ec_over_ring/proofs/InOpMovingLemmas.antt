-- What a broadcast read of AL status tells of slaves that move: it went out as the last item of the last
-- frame; each slave counts it, and so one copy alone that came back passed the slave, and each was in Op as
-- that copy met it.
use Rattle.std.proofs.Common.{◌≡◌, ◌≢◌, ℕ, zero, suc, ◌+◌, ◌*◌, ◌<◌, ◌≤◌, true, false, eqb}
use Rattle.std.proofs.Common.{List, [], ◌∷◌, ◌++◌, length, map, take, drop, Some, inl, inr}
use Rattle.std.proofs.Common.{refl, sym, ap, ◌∙◌, subst, arith, ⊎_elim}
use Rattle.std.specs.Prelude.{slice_get}
use Rattle.std.specs.List.{AllByRecursion}
use Rattle.std.specs.Option.{option_map}
use Rattle.std.proofs.Math.Seq.{drop-nil}
use Rattle.std.proofs.lemmas.Bool.{cases_Bool, cases_lt, eq-eqb, ne_eqb}
use Rattle.std.proofs.lemmas.List.{append-nil, take-append-drop}
use Rattle.std.proofs.lemmas.Option.{slice_get-map, slice_get_within}
use Rattle.ec_regs.specs.declared.al.AlState.TheVariants.{Op}
use Rattle.ec_regs.proofs.Laws.{each-both, each-drop, each-map}
use Rattle.ec_esc.specs.Application.{al_status}
use Rattle.ec_esc.specs.State.{ControllerState, IsController, NamesState}
use Rattle.ec_app.specs.State.{SlaveState}
use Rattle.ec_line.specs.Accepted.{Accepts}
use Rattle.ec_line.specs.After.{Entry}
use Rattle.ec_line.specs.Claims.{gain}
use Rattle.ec_line.specs.Fit.{AllApart, AreApart, IsFitAlone, IsFitLine}
use Rattle.ec_line.specs.Mapping.{Mapping, mapping, mapping_of}
use Rattle.ec_line.specs.Memory.{AllBetween}
use Rattle.ec_line.specs.Moving.{AllAlike, IsPassedOnce, Visit, back_of, front_of, seen}
use Rattle.ec_line.specs.Request.{Request}
use Rattle.ec_line.specs.Trip.{Trip}
use Rattle.ec_line.proofs.Laws.{alike_fit, alike_length, broadcast_gain}
use Rattle.ec_check.specs.Line.{controllers}
use Rattle.ec_check.proofs.Laws.{IsFitLine-fit, fit_by_mapping}
use Rattle.ec_map.specs.Item.{AsksTheSame, IsItem, ItemRecord}
use Rattle.ec_map.specs.Place.{IsPlaced}
use Rattle.ec_map.specs.Share.{request_of}
use Rattle.ec_map.proofs.Laws.{Accepts-IsPlaced, placed_by_mapping}
use Rattle.ec_ring.specs.Ring.{RingState, with_controllers}
use Rattle.ec_ring.specs.declared.links.Links.{Links}
use Rattle.ec_ring.specs.declared.weather.Weather.{Weather}
use Rattle.ec_master.specs.Again.{AskTheSame}
use Rattle.ec_master.specs.Cut.{IsCut, concat, entries_from, entry_of, frames_of}
use Rattle.ec_master.specs.Moments.{FramesAtMoments, IsFrameAtMoments, slaves_seen}
use Rattle.ec_master.specs.Travelled.{trips_of, trips_under}
use Rattle.ec_master.specs.Unordered.{AreAnswers, ByStation, IsAccepted, by_station, station}
use Rattle.ec_run.specs.States.{states_item, tells_all_in_op}
use Rattle.ec_over_ring.specs.InOpMoving.{WasInOp, WasMet, WereInOp}
use Rattle.ec_over_ring.proofs.InOpLemmas.{Passes, accepting, all_silent, asked_states, read_request}
use Rattle.ec_over_ring.proofs.InOpLemmas.{some_item, status_says, tells_behind}

-- ---- the member at a place

-- what holds of each member of a list holds of the one at a place
at_place : {S : Type 0} (P : S → Type 0) (xs : List S) (k : ℕ) (x : S) → AllByRecursion P xs
    → slice_get xs k ≡ Some x → P x
at_place P [] k x all is = absurd (cc)
at_place P (y ∷ ys) zero x all is = let same : y ≡ x = cc in subst P same all.0
at_place P (y ∷ ys) (suc k) x all is = at_place P ys k x all.1 is

-- what holds between two numbers and of no member: there is no place between them
none_between : {S : Type 0} (P : S → Type 0) (front back : ℕ) (xs : List S) (k : ℕ)
    → AllByRecursion (λ x. ¬ P x) xs → AllBetween P front back xs → front ≤ k → k < back → k < length xs → ⊥
none_between P front back [] k none all from to inside = omega arith
none_between P zero zero (x ∷ xs) k none all from to inside = omega arith
none_between P zero (suc back) (x ∷ xs) zero none all from to inside = none.0 all.0
none_between P zero (suc back) (x ∷ xs) (suc k) none all from to inside =
    none_between P zero back xs k none.1 all.1 (omega arith) (omega arith) (omega arith)
none_between P (suc front) zero (x ∷ xs) k none all from to inside = omega arith
none_between P (suc front) (suc back) (x ∷ xs) zero none all from to inside = omega arith
none_between P (suc front) (suc back) (x ∷ xs) (suc k) none all from to inside =
    none_between P front back xs k none.1 all (omega arith) (omega arith) (omega arith)

-- the first slaves are seen as copy A met them
seen_by_a : (n : ℕ) (vs : List Visit) (k : ℕ) (v : Visit) → k < n → slice_get vs k ≡ Some v
    → slice_get (seen n vs) k ≡ Some v.at_a
seen_by_a n [] k v below is = absurd (cc)
seen_by_a zero (w ∷ vs) k v below is = absurd (omega arith)
seen_by_a (suc n) (w ∷ vs) zero v below is =
    let same : w ≡ v = cc in ap (λ (x : Visit). Some x.at_a) same
seen_by_a (suc n) (w ∷ vs) (suc k) v below is = seen_by_a n vs k v (omega arith) is

-- and the others as copy B did
seen_by_b : (n : ℕ) (vs : List Visit) (k : ℕ) (v : Visit) → n ≤ k → slice_get vs k ≡ Some v
    → slice_get (seen n vs) k ≡ Some v.at_b
seen_by_b n [] k v from is = absurd (cc)
seen_by_b zero (w ∷ vs) zero v from is =
    let same : w ≡ v = cc in ap (λ (x : Visit). Some x.at_b) same
seen_by_b zero (w ∷ vs) (suc k) v from is = seen_by_b zero vs k v (omega arith) is
seen_by_b (suc n) (w ∷ vs) zero v from is = absurd (omega arith)
seen_by_b (suc n) (w ∷ vs) (suc k) v from is = seen_by_b n vs k v (omega arith) is

length-seen : (n : ℕ) (vs : List Visit) → length (seen n vs) ≡ length vs
length-seen n [] = refl
length-seen zero (v ∷ vs) = ap suc (length-seen zero vs)
length-seen (suc n) (v ∷ vs) = ap suc (length-seen n vs)

-- ---- slaves with the controllers that were seen

-- they have those controllers
controllers-seen : (ss : List SlaveState) (cs : List ControllerState) → AllAlike (controllers ss) cs
    → controllers (with_controllers ss cs) ≡ cs
controllers-seen [] [] alike = refl
controllers-seen [] (c ∷ cs) alike = absurd alike
controllers-seen (s ∷ ss) [] alike = absurd alike
controllers-seen (s ∷ ss) (c ∷ cs) alike =
    ap (λ (l : List ControllerState). c ∷ l) (controllers-seen ss cs alike.1)

-- alike lines have one mapping
mapping-alike : (xs ys : List ControllerState) → AllAlike xs ys → mapping ys ≡ mapping xs
mapping-alike [] [] alike = refl
mapping-alike [] (y ∷ ys) alike = absurd alike
mapping-alike (x ∷ xs) [] alike = absurd alike
mapping-alike (x ∷ xs) (y ∷ ys) alike =
    ap (λ (m : Mapping). m ∷ mapping ys) alike.0.mapping
    ∙ ap (λ (ms : List Mapping). mapping_of x ∷ ms) (mapping-alike xs ys alike.1)

-- so what the slaves accept, these do
accepted-seen : (ss : List SlaveState) (cs : List ControllerState) (sent : List ItemRecord)
    → AllAlike (controllers ss) cs → IsAccepted ss sent → IsAccepted (with_controllers ss cs) sent
accepted-seen ss cs sent alike accepted =
    let line : List ControllerState = controllers ss in
    let zs : List SlaveState = with_controllers ss cs in
    let are : controllers zs ≡ cs = controllers-seen ss cs alike in
    let same : mapping (controllers zs) ≡ mapping line = ap mapping are ∙ mapping-alike line cs alike in
    let fit : IsFitLine cs = alike_fit line cs alike (IsFitLine-fit line accepted.are accepted.fit) in
    record {
      are = subst (AllByRecursion IsController) (sym are)
          (each-map IsFitAlone IsController cs (λ c alone. alone.controller) fit.alone);
      fit = fit_by_mapping line (controllers zs) same accepted.fit;
      placed = each-map (IsPlaced line) (IsPlaced (controllers zs)) sent
          (λ r placed. placed_by_mapping line (controllers zs) r r same
          (record { kind = refl; address = refl; size = refl }) placed)
          accepted.placed;
    }

-- a controller at a place is that of a slave
slave_at : (zs : List SlaveState) (k : ℕ) (c : ControllerState) → slice_get (controllers zs) k ≡ Some c
    → (s : SlaveState) × (slice_get zs k ≡ Some s) × (s.controller ≡ c)
slave_at [] k c is = absurd (cc)
slave_at (z ∷ zs) zero c is = (z, refl, cc)
slave_at (z ∷ zs) (suc k) c is = slave_at zs k c is

-- stations that differ
station_differs : (z s : SlaveState) → AreApart z.controller s.controller → station z ≢ station s
unfolding station
station_differs z s apart = apart.stations

-- a slave of a fit line is the one of its station
own_station : (zs : List SlaveState) (k : ℕ) (s : SlaveState) → AllApart (controllers zs)
    → slice_get zs k ≡ Some s → by_station zs (station s) ≡ Some s
unfolding by_station
own_station [] k s apart is = absurd (cc)
own_station (z ∷ zs) zero s apart is =
    let same : z ≡ s = cc in
    let own : eqb (station z) (station s) ≡ true = eq-eqb (station z) (station s) (ap station same) in
    rw own (ap (λ (x : SlaveState). Some x) same)
own_station (z ∷ zs) (suc k) s apart is =
    let there : slice_get (controllers zs) k ≡ Some s.controller =
    slice_get-map (λ (x : SlaveState). x.controller) zs k
    ∙ ap (option_map (λ (x : SlaveState). x.controller)) is in
    let differs = station_differs z s
    (at_place (λ y. AreApart z.controller y) (controllers zs) k s.controller apart.0 there) in
    let other : eqb (station z) (station s) ≡ false = ne_eqb (station z) (station s) differs in
    rw other (own_station zs k s apart.1 is)

-- ---- the frame with the item that reads the states

-- a frame of which this item is the last, as slaves answered it at their moments
record ReadsStates (ss : List SlaveState) (t : Trip) (vs : List Visit) : Type 0 where
  items : List ItemRecord
  mine : List ItemRecord
  gots : List ItemRecord
  number : ℕ
  asks : AskTheSame (items ++ states_item ∷ []) mine
  accepted : IsAccepted ss mine
  each : AllByRecursion IsItem mine
  entries : t.entries ≡ entries_from number mine
  frame : IsFrameAtMoments ss t vs mine gots
  tells : tells_all_in_op gots ≡ true

-- each slave was in Op as it was seen
op_seen : (ss : List SlaveState) (t : Trip) (vs : List Visit) (k : ℕ) (c : ControllerState)
    → ReadsStates ss t vs → slice_get (seen (front_of t) vs) k ≡ Some c → NamesState c.memory
    → al_status c ≡ record { state = Op; error = false }
op_seen ss t vs k c reads there =
    let cs : List ControllerState = seen (front_of t) vs in
    let zs : List SlaveState = slaves_seen t vs ss in
    let are : controllers zs ≡ cs = controllers-seen ss cs reads.frame.alike in
    let accepted : IsAccepted zs reads.mine =
    accepted-seen ss cs reads.mine reads.frame.alike reads.accepted in
    let fit : IsFitLine (controllers zs) = IsFitLine-fit (controllers zs) accepted.are accepted.fit in
    let slave = slave_at zs k c (ap (λ (l : List ControllerState). slice_get l k) are ∙ there) in
    let s : SlaveState = slave.0 in
    let own : by_station zs (station s) ≡ Some s = own_station zs k s fit.apart slave.1 in
    let passes : Passes reads.mine s = accepting zs reads.mine (station s) s accepted reads.each own in
    subst (λ (d : ControllerState). NamesState d.memory → al_status d ≡ record { state = Op; error = false })
    slave.2
    (status_says s.controller
    (all_silent reads.items reads.mine reads.gots (by_station zs) (station s) s reads.asks reads.each
    reads.frame.answers reads.tells own passes))

-- ---- one copy alone

-- what holds of each item holds of the last one, which reads the states
at_last : (P : ItemRecord → Type 0) (items sent : List ItemRecord)
    → AskTheSame (items ++ states_item ∷ []) sent → AllByRecursion P sent
    → (last : ItemRecord) × AsksTheSame states_item last × P last
at_last P items [] asks all = absurd (some_item items asks)
at_last P [] (x ∷ xs) asks all = (x, asks.0, all.0)
at_last P (r ∷ rs) (x ∷ xs) asks all = at_last P rs xs asks.1 all.1

-- of an item: no slave that counts it is passed by none of the copies that came back, or by both
record IsItemOnce (t : Trip) (line : List ControllerState) (r : ItemRecord) : Type 0 where
  some : AllBetween (λ x. gain (request_of r) x ≡ 0) (front_of t) (back_of t (length line)) line
  one : AllBetween (λ x. gain (request_of r) x ≡ 0) (back_of t (length line)) (front_of t) line

items_once : (t : Trip) (line : List ControllerState) (k : ℕ) (sent : List ItemRecord)
    → AllByRecursion (IsPassedOnce t line) (entries_from k sent) → AllByRecursion (IsItemOnce t line) sent
unfolding entries_from
items_once t line k [] all = tt
items_once t line k (r ∷ rs) all =
    (record { some = all.0.some; one = all.0.one }, items_once t line (suc k) rs all.1)

-- an item of a frame that each slave accepts and that is passed so
record IsTaken (t : Trip) (line : List ControllerState) (r : ItemRecord) : Type 0 where
  accepts : AllByRecursion (Accepts (request_of r)) line
  once : IsItemOnce t line r

-- no slave counts the read of the states by nothing
all_count : (line : List ControllerState) (r : ItemRecord) → AsksTheSame states_item r
    → AllByRecursion (Accepts (request_of r)) line
    → AllByRecursion (λ (x : ControllerState). ¬ (gain (request_of r) x ≡ 0)) line
all_count line r asks accepts =
    each-map (Accepts (request_of r)) (λ (x : ControllerState). ¬ (gain (request_of r) x ≡ 0)) line
    (λ x one none.
    let is : request_of r ≡ read_request r.adp = asked_states r asks in
    let counts : gain (request_of r) x ≡ 1 =
    ap (λ (q : Request). gain q x) is
    ∙ broadcast_gain (r.adp + 65536 * 304) 1 x (subst (λ (q : Request). Accepts q x) is one) in
    omega (arith, counts, none))
    accepts

-- the first members that a copy A which came back passed are some of those that copy A passed
came_by_a : (t : Trip) (k : ℕ) → k < front_of t → (t.lost_a ≡ false) × (k < t.front)
came_by_a t k below =
    ⊎_elim
    (λ (lost : t.lost_a ≡ true).
    let none : front_of t ≡ 0 = rw lost refl in absurd (omega (arith, below, none)))
    (λ (came : t.lost_a ≡ false).
    let all : front_of t ≡ t.front = rw came refl in (came, omega (arith, below, all)))
    (cases_Bool t.lost_a)

is_by_a : (t : Trip) (k : ℕ) → t.lost_a ≡ false → k < t.front → k < front_of t
is_by_a t k came below =
    let all : front_of t ≡ t.front = rw came refl in omega (arith, below, all)

came_by_b : (t : Trip) (n k : ℕ) → k < n → back_of t n ≤ k → (t.lost_b ≡ false) × (t.back ≤ k)
came_by_b t n k inside from =
    ⊎_elim
    (λ (lost : t.lost_b ≡ true).
    let none : back_of t n ≡ n + t.back = rw lost refl in absurd (omega (arith, inside, from, none)))
    (λ (came : t.lost_b ≡ false).
    let all : back_of t n ≡ t.back = rw came refl in (came, omega (arith, from, all)))
    (cases_Bool t.lost_b)

is_by_b : (t : Trip) (n k : ℕ) → t.lost_b ≡ false → t.back ≤ k → back_of t n ≤ k
is_by_b t n k came from =
    let all : back_of t n ≡ t.back = rw came refl in omega (arith, from, all)

-- each slave was passed by exactly one copy that came back, and is seen as that one met it
record IsMetSo (t : Trip) (vs : List Visit) (k : ℕ) (v : Visit) : Type 0 where
  met : ControllerState
  seen_so : slice_get (seen (front_of t) vs) k ≡ Some met
  moment : WasMet t k v met

met_so : (ss : List SlaveState) (t : Trip) (vs : List Visit) (k : ℕ) (v : Visit) → ReadsStates ss t vs
    → slice_get vs k ≡ Some v → IsMetSo t vs k v
met_so ss t vs k v reads is =
    let line : List ControllerState = controllers ss in
    let n : ℕ = length line in
    let front : ℕ = front_of t in
    let back : ℕ = back_of t n in
    let accepts : AllByRecursion (λ (r : ItemRecord). AllByRecursion (Accepts (request_of r)) line)
    reads.mine =
    each-both IsItem (IsPlaced line) (λ (r : ItemRecord). AllByRecursion (Accepts (request_of r)) line)
    reads.mine (λ r item one. Accepts-IsPlaced line r reads.accepted.fit item one) reads.each
    reads.accepted.placed in
    let once : AllByRecursion (IsItemOnce t line) reads.mine =
    items_once t line reads.number reads.mine
    (subst (AllByRecursion (IsPassedOnce t line)) reads.entries reads.frame.once) in
    let last = at_last (IsTaken t line) reads.items reads.mine reads.asks
    (each-both (λ (r : ItemRecord). AllByRecursion (Accepts (request_of r)) line) (IsItemOnce t line)
    (IsTaken t line) reads.mine (λ r all one. record { accepts = all; once = one }) accepts once) in
    let r : ItemRecord = last.0 in
    let taken : IsTaken t line r = last.2 in
    let count = all_count line r last.1 taken.accepts in
    let P : ControllerState → Type 0 = λ x. gain (request_of r) x ≡ 0 in
    let size : length vs ≡ n =
    sym (length-seen front vs) ∙ alike_length line (seen front vs) reads.frame.alike in
    let inside : k < n = omega (arith, size, slice_get_within vs k v is) in
    let some : front ≤ k → k < back → ⊥ =
    λ from to. none_between P front back line k count taken.once.some from to inside in
    let one : back ≤ k → k < front → ⊥ =
    λ from to. none_between P back front line k count taken.once.one from to inside in
    ⊎_elim
    (λ (below : k < front). record {
      met = v.at_a;
      seen_so = seen_by_a front vs k v below is;
      moment = inl (came_by_a t k below, λ other. one (is_by_b t n k other.0 other.1) below, refl);
    })
    (λ (from : front ≤ k).
    ⊎_elim
    (λ (to : k < back). absurd (some from to))
    (λ (there : back ≤ k). record {
      met = v.at_b;
      seen_so = seen_by_b front vs k v from is;
      moment = inr (
        came_by_b t n k inside there,
        λ other. let again : k < front = is_by_a t k other.0 other.1 in omega (arith, again, from),
        refl,
      );
    })
    (cases_lt k back))
    (cases_lt k front)

-- so each was in Op at its moment
frame_in_op : (ss : List SlaveState) (t : Trip) (vs : List Visit) (k : ℕ) (v : Visit) → ReadsStates ss t vs
    → slice_get vs k ≡ Some v → WasInOp t k v
frame_in_op ss t vs k v reads is =
    let so : IsMetSo t vs k v = met_so ss t vs k v reads is in
    record {
      met = so.met;
      moment = so.moment;
      in_op = op_seen ss t vs k so.met reads so.seen_so;
    }

-- ---- frame after frame

-- what is left of items behind some of them asks for the states last, if something is left
asks-drop : (n : ℕ) (items sent : List ItemRecord) → AskTheSame (items ++ states_item ∷ []) sent
    → drop n sent ≢ [] → AskTheSame (drop n items ++ states_item ∷ []) (drop n sent)
asks-drop zero items sent asks some = asks
asks-drop (suc n) items [] asks some = absurd (some refl)
asks-drop (suc n) [] (x ∷ []) asks some = absurd (some (drop-nil n))
asks-drop (suc n) [] (x ∷ y ∷ ys) asks some = absurd asks.1
asks-drop (suc n) (r ∷ rs) (x ∷ xs) asks some = asks-drop n rs xs asks.1 some

-- and tells what all tell
tells-drop : (n : ℕ) (gots : List ItemRecord) → drop n gots ≢ []
    → tells_all_in_op (drop n gots) ≡ tells_all_in_op gots
tells-drop zero gots some = refl
tells-drop (suc n) [] some = absurd (some refl)
tells-drop (suc n) (g ∷ []) some = absurd (some (drop-nil n))
tells-drop (suc n) (g ∷ h ∷ gots) some =
    tells-drop n (h ∷ gots) some ∙ sym (tells_behind g h gots)

-- entries behind some of those of items are those of the items that are left
entries-drop : (es rest : List Entry) (k : ℕ) (items : List ItemRecord) → es ++ rest ≡ entries_from k items
    → (j : ℕ) × (rest ≡ entries_from j (drop (length es) items))
unfolding entries_from
entries-drop [] rest k items whole = (k, whole)
entries-drop (e ∷ es) rest k [] whole = absurd (let no : e ∷ (es ++ rest) ≡ [] = whole in cc)
entries-drop (e ∷ es) rest k (r ∷ rs) whole =
    let all : e ∷ (es ++ rest) ≡ entry_of r k ∷ entries_from (suc k) rs = whole in
    let more : es ++ rest ≡ entries_from (suc k) rs = cc in
    entries-drop es rest (suc k) rs more

-- where there is an entry there is an item
some_left : (es rest : List Entry) (k : ℕ) (items : List ItemRecord) → es ≢ []
    → es ++ rest ≡ entries_from k items → items ≢ []
unfolding entries_from
some_left [] rest k items some whole = absurd (some refl)
some_left (e ∷ es) rest k [] some whole = absurd (let no : e ∷ (es ++ rest) ≡ [] = whole in cc)
some_left (e ∷ es) rest k (r ∷ rs) some whole = λ none. absurd (cc)

-- and an answer
some_answer : (slaves : ByStation) (es : List Entry) (sent gots : List ItemRecord) → es ≢ [] → sent ≢ []
    → AreAnswers slaves (take (length es) sent) (take (length es) gots) → gots ≢ []
some_answer slaves [] sent gots entry item answers = absurd (entry refl)
some_answer slaves (e ∷ es) [] gots entry item answers = absurd (item refl)
some_answer slaves (e ∷ es) (x ∷ xs) [] entry item answers = absurd answers
some_answer slaves (e ∷ es) (x ∷ xs) (g ∷ gs) entry item answers = λ none. absurd (cc)

-- behind the last trip nothing is left
none_left : (ss : List SlaveState) (sent gots : List ItemRecord) → FramesAtMoments ss [] [] sent gots
    → (sent ≡ []) × (gots ≡ [])
none_left ss [] [] frames = (refl, refl)
none_left ss [] (g ∷ gs) frames = absurd frames
none_left ss (x ∷ xs) gots frames = absurd frames

abbrev entries_of : List Trip → List (List Entry)
entries_of ts = map (λ (t : Trip). t.entries) ts

-- what trips carry, the item that reads the states as the last, and what came back
record Carries (ss : List SlaveState) (ts : List Trip) (runs : List (List Visit)) : Type 0 where
  items : List ItemRecord
  sent : List ItemRecord
  gots : List ItemRecord
  number : ℕ
  asks : AskTheSame (items ++ states_item ∷ []) sent
  accepted : IsAccepted ss sent
  each : AllByRecursion IsItem sent
  entries : concat (entries_of ts) ≡ entries_from number sent
  some : AllByRecursion (λ (t : Trip). t.entries ≢ []) ts
  frames : FramesAtMoments ss ts runs sent gots
  tells : tells_all_in_op gots ≡ true

-- of one trip
one_trip : (ss : List SlaveState) (t : Trip) (vs : List Visit) → Carries ss (t ∷ []) (vs ∷ [])
    → ReadsStates ss t vs
one_trip ss t vs carries =
    let n : ℕ = length t.entries in
    let left = none_left ss (drop n carries.sent) (drop n carries.gots) carries.frames.1 in
    let all_sent : take n carries.sent ≡ carries.sent =
    sym (append-nil (take n carries.sent))
    ∙ ap (λ (xs : List ItemRecord). take n carries.sent ++ xs) (sym left.0)
    ∙ take-append-drop n carries.sent in
    let all_gots : take n carries.gots ≡ carries.gots =
    sym (append-nil (take n carries.gots))
    ∙ ap (λ (xs : List ItemRecord). take n carries.gots ++ xs) (sym left.1)
    ∙ take-append-drop n carries.gots in
    record {
      items = carries.items;
      mine = carries.sent;
      gots = carries.gots;
      number = carries.number;
      asks = carries.asks;
      accepted = carries.accepted;
      each = carries.each;
      entries = sym (append-nil t.entries) ∙ carries.entries;
      frame = subst (λ (xs : List ItemRecord). IsFrameAtMoments ss t vs xs carries.gots) all_sent
          (subst (λ (xs : List ItemRecord). IsFrameAtMoments ss t vs (take n carries.sent) xs) all_gots
          carries.frames.0);
      tells = carries.tells;
    }

-- the trips behind the first one carry it where there are some
others_carry : (ss : List SlaveState) (t u : Trip) (ts : List Trip) (vs us : List Visit)
    (rest : List (List Visit)) → Carries ss (t ∷ u ∷ ts) (vs ∷ us ∷ rest) → Carries ss (u ∷ ts) (us ∷ rest)
others_carry ss t u ts vs us rest carries =
    let n : ℕ = length t.entries in
    let sent : List ItemRecord = drop n carries.sent in
    let gots : List ItemRecord = drop n carries.gots in
    let behind =
    entries-drop t.entries (concat (entries_of (u ∷ ts))) carries.number carries.sent carries.entries in
    let item : sent ≢ [] =
    some_left u.entries (concat (entries_of ts)) behind.0 sent carries.some.1.0 behind.1 in
    let answer : gots ≢ [] =
    some_answer (by_station (slaves_seen u us ss)) u.entries sent gots carries.some.1.0 item
    carries.frames.1.0.answers in
    record {
      items = drop n carries.items;
      sent = sent;
      gots = gots;
      number = behind.0;
      asks = asks-drop n carries.items carries.sent carries.asks item;
      accepted = record {
        are = carries.accepted.are;
        fit = carries.accepted.fit;
        placed = each-drop (IsPlaced (controllers ss)) n carries.sent carries.accepted.placed;
      };
      each = each-drop IsItem n carries.sent carries.each;
      entries = behind.1;
      some = carries.some.1;
      frames = carries.frames.1;
      tells = tells-drop n carries.gots answer ∙ carries.tells;
    }

-- no trip, or visits of other trips, carry nothing
none_carries : (ss : List SlaveState) (runs : List (List Visit)) → Carries ss [] runs → ⊥
none_carries ss runs carries =
    no_frames runs carries.items carries.sent carries.gots carries.asks carries.frames
  where
    no_frames : (runs : List (List Visit)) (items sent gots : List ItemRecord)
        → AskTheSame (items ++ states_item ∷ []) sent → FramesAtMoments ss [] runs sent gots → ⊥
    no_frames [] items [] gots asks frames = some_item items asks
    no_frames [] items (x ∷ xs) gots asks frames = frames
    no_frames (vs ∷ rest) items sent gots asks frames = frames

-- on the last of them each slave was in Op at its moment
carried_in_op : (ss : List SlaveState) (ts : List Trip) (runs : List (List Visit)) → Carries ss ts runs
    → WereInOp ts runs
carried_in_op ss [] runs carries = absurd (none_carries ss runs carries)
carried_in_op ss (t ∷ ts) [] carries = absurd carries.frames
carried_in_op ss (t ∷ []) (vs ∷ []) carries =
    λ k v is. frame_in_op ss t vs k v (one_trip ss t vs carries) is
carried_in_op ss (t ∷ []) (vs ∷ us ∷ rest) carries = absurd carries.frames.1
carried_in_op ss (t ∷ u ∷ ts) (vs ∷ []) carries = absurd carries.frames.1
carried_in_op ss (t ∷ u ∷ ts) (vs ∷ us ∷ rest) carries =
    carried_in_op ss (u ∷ ts) (us ∷ rest) (others_carry ss t u ts vs us rest carries)

-- ---- the trips of a work

-- they carry its frames
trips-entries : (ws : List Weather) (links : Links) (n : ℕ) (fs : List (List Entry))
    → entries_of (trips_of ws links n fs) ≡ fs
unfolding trips_of
trips-entries ws links n [] = none ws
  where
    none : (us : List Weather) → entries_of (trips_of us links n []) ≡ []
    none [] = refl
    none (u ∷ us) = refl
trips-entries [] links n (f ∷ fs) = ap (λ (l : List (List Entry)). f ∷ l) (trips-entries [] links n fs)
trips-entries (w ∷ ws) links n (f ∷ fs) = ap (λ (l : List (List Entry)). f ∷ l) (trips-entries ws links n fs)

each-entries : (P : List Entry → Type 0) (ts : List Trip) → AllByRecursion P (entries_of ts)
    → AllByRecursion (λ (t : Trip). P t.entries) ts
each-entries P [] all = tt
each-entries P (t ∷ ts) all = (all.0, each-entries P ts all.1)

-- so where such a work is answered frame by frame, each slave was in Op at its moment of the last one
pub work_in_op : (ws : List Weather) (r : RingState) (items sent image : List ItemRecord)
    (runs : List (List Visit)) → AskTheSame (items ++ states_item ∷ []) sent → IsAccepted r.slaves sent
    → AllByRecursion IsItem sent → IsCut (entries_from 0 sent) (frames_of sent)
    → FramesAtMoments r.slaves (trips_under ws r sent) runs sent image → tells_all_in_op image ≡ true
    → WereInOp (trips_under ws r sent) runs
work_in_op ws r items sent image runs asks accepted each is_cut frames tells =
    let ts : List Trip = trips_under ws r sent in
    let are : entries_of ts ≡ frames_of sent =
    trips-entries ws r.links (length r.slaves) (frames_of sent) in
    carried_in_op r.slaves ts runs (record {
      items = items;
      sent = sent;
      gots = image;
      number = 0;
      asks = asks;
      accepted = accepted;
      each = each;
      entries = ap concat are ∙ is_cut.whole;
      some = each-entries (λ (f : List Entry). f ≢ []) ts
          (subst (AllByRecursion (λ (f : List Entry). f ≢ [])) (sym are) is_cut.some);
      frames = frames;
      tells = tells;
    })
