-- The answers of trips, item after item, are those of the unordered cycle on the slaves as they then are.
use Rattle.std.proofs.Common.{◌≡◌, ℕ, suc, ◌+◌, ◌*◌, ◌%◌, ◌<◌, Bool, true, false, cond, Option, None, Some}
use Rattle.std.proofs.Common.{List, [], ◌∷◌, ◌++◌, length, map}
use Rattle.std.proofs.Common.{sym, subst, ◌∙◌, ap, refl, arith}
use Rattle.std.specs.List.{AllByRecursion, sum_by}
use Rattle.std.proofs.lemmas.List.Sums.{sum_by-cons}
use Rattle.ec_regs.specs.Bits.{bit}
use Rattle.ec_regs.proofs.Laws.{each-map}
use Rattle.ec_wire.specs.Datagram.{DatagramRecord, adp_of}
use Rattle.ec_esc.specs.State.{ControllerState, IsController}
use Rattle.ec_app.specs.State.{SlaveState}
use Rattle.ec_line.specs.Accepted.{Accepts, AcceptsAll}
use Rattle.ec_line.specs.After.{Entry, after}
use Rattle.ec_line.specs.Answered.{moved_address, Answered, AnsweredFrame}
use Rattle.ec_line.specs.Answers.{Meets}
use Rattle.ec_line.specs.Steady.{SameSteady, IsLater}
use Rattle.ec_line.specs.Claims.{claim, gain}
use Rattle.ec_line.specs.Fit.{IsFitAlone, AllApart, IsFitLine}
use Rattle.ec_line.specs.Request.{Request}
use Rattle.ec_line.specs.Run.{AnsweredTrips}
use Rattle.ec_line.specs.Trip.{Trip}
use Rattle.ec_wire.specs.declared.kind.Kind.{Kind}
use Rattle.ec_wire.specs.declared.kind.Kind.TheVariants.{Lrd, Lwr, Lrw, Brd, Fprd, Fpwr}
use Rattle.ec_line.proofs.Laws.{later-refl, after_steady, after_controller, accepts_lasts, claim_lasts}
use Rattle.ec_line.proofs.Laws.{gain_lasts, same_steady_trans}
use Rattle.ec_check.specs.Line.{controllers}
use Rattle.ec_map.specs.Item.{ItemRecord, IsItem, is_broadcast, with_adp, datagram_of}
use Rattle.ec_map.specs.Share.{share, request_of}
use Rattle.ec_ring.proofs.Laws.{length-controllers}
use Rattle.ec_master.specs.Cut.{concat, entries_from}
use Rattle.ec_master.specs.Unordered.{ByStation, station, by_station, slave_after, IsAnswer, AreAnswers}
use Rattle.ec_master.specs.Work.{with_answer, with_answers}
use Rattle.ec_master.proofs.StationLemmas.{StationsApart, each-controller, each-slave, station_below}
use Rattle.ec_master.proofs.StationLemmas.{by_station_each, each_by_station, sum_of_stations-sum_by}
use Rattle.ec_master.proofs.StationLemmas.{sum_of_ones, slaves_after-map, stations_apart, later_controllers}

-- ---- controllers as they are now

-- what is met at first is met now
meets_later : (r : Request) (i g : ℕ) (xs ys : List ControllerState) → AllByRecursion IsFitAlone xs
    → AllByRecursion (Accepts r) xs → IsLater xs ys
    → AllByRecursion (λ x. Meets g (claim r x i)) xs → AllByRecursion (λ y. Meets g (claim r y i)) ys
meets_later r i g [] [] fit accept later all = tt
meets_later r i g [] (y ∷ ys) fit accept later all = absurd later
meets_later r i g (x ∷ xs) [] fit accept later all = absurd later
meets_later r i g (x ∷ xs) (y ∷ ys) fit accept later all = (
  subst (λ (o : Option ℕ). Meets g o) (sym (claim_lasts r x y i fit.0 accept.0 later.0.0)) all.0,
  meets_later r i g xs ys fit.1 accept.1 later.1 all.1,
)

-- what nobody claims now nobody claimed at first
silent_later : (r : Request) (i : ℕ) (xs ys : List ControllerState) → AllByRecursion IsFitAlone xs
    → AllByRecursion (Accepts r) xs → IsLater xs ys
    → AllByRecursion (λ y. claim r y i ≡ None) ys → AllByRecursion (λ x. claim r x i ≡ None) xs
silent_later r i [] [] fit accept later all = tt
silent_later r i [] (y ∷ ys) fit accept later all = absurd later
silent_later r i (x ∷ xs) [] fit accept later all = absurd later
silent_later r i (x ∷ xs) (y ∷ ys) fit accept later all = (
  sym (claim_lasts r x y i fit.0 accept.0 later.0.0) ∙ all.0,
  silent_later r i xs ys fit.1 accept.1 later.1 all.1,
)

-- they gain what they gained
gains_later : (r : Request) (xs ys : List ControllerState) → AllByRecursion IsFitAlone xs → IsLater xs ys
    → sum_by (gain r) ys ≡ sum_by (gain r) xs
gains_later r [] [] fit later = refl
gains_later r [] (y ∷ ys) fit later = absurd later
gains_later r (x ∷ xs) [] fit later = absurd later
gains_later r (x ∷ xs) (y ∷ ys) fit later =
    sum_by-cons (gain r) y ys
    ∙ ap (λ n. n + sum_by (gain r) ys) (gain_lasts r x y fit.0.controller later.0.0)
    ∙ ap (λ n. gain r x + n) (gains_later r xs ys fit.1 later.1)
    ∙ sym (sum_by-cons (gain r) x xs)

-- there are as many
length_later : (xs ys : List ControllerState) → IsLater xs ys → length ys ≡ length xs
length_later [] [] later = refl
length_later [] (y ∷ ys) later = absurd later
length_later (x ∷ xs) [] later = absurd later
length_later (x ∷ xs) (y ∷ ys) later = ap suc (length_later xs ys later.1)

-- so what the controllers made of a datagram as they were at first is what they make of it now
pub answered_later : (r : Request) (xs ys : List ControllerState) (d e : DatagramRecord)
    → AllByRecursion IsFitAlone xs → AllByRecursion (Accepts r) xs
    → IsLater xs ys → Answered r xs d e → Answered r ys d e
answered_later r xs ys d e fit accept later answer = record {
  way = answer.way;
  index = answer.index;
  irq = answer.irq;
  bits = record {
    claimed = λ i. meets_later r i (bit e.payload i) xs ys fit accept later (answer.bits.claimed i);
    rest = λ i none. answer.bits.rest i (silent_later r i xs ys fit accept later none);
  };
  counter = answer.counter ∙ ap (λ n. (d.counter + n) % 65536) (sym (gains_later r xs ys fit later));
  address = answer.address ∙ ap (λ n. moved_address r.kind n d.address) (sym (length_later xs ys later));
}

-- ---- one item

-- the controllers' shares are those of their slaves
shares : (r : ItemRecord) (ss : List SlaveState) → sum_by (share r) (controllers ss)
    ≡ sum_by (λ s. share r s.controller) ss
shares r [] = refl
shares r (s ∷ ss) =
    sum_by-cons (share r) s.controller (controllers ss)
    ∙ ap (λ n. share r s.controller + n) (shares r ss)
    ∙ sym (sum_by-cons (λ (s : SlaveState). share r s.controller) s ss)

-- the ADP of a broadcast read, and of every other item the one that it had
adp_moved : (k : Kind) (address adp n : ℕ) → adp < 65536
    → cond (is_broadcast k)
    (adp_of (moved_address k n (cond (is_broadcast k) (adp + 65536 * address) address))) adp
    ≡ cond (is_broadcast k) ((adp + n) % 65536) adp
adp_moved Lrd address adp n below = refl
adp_moved Lwr address adp n below = refl
adp_moved Lrw address adp n below = refl
adp_moved Brd address adp n below = omega arith
adp_moved Fprd address adp n below = refl
adp_moved Fpwr address adp n below = refl

-- an item with an ADP, field by field
with_adp_is : (r : ItemRecord) (adp : ℕ)
    → with_adp r adp ≡ record r { adp = cond (is_broadcast r.kind) adp r.adp }
with_adp_is r adp =
    let P : Bool → Type 0 = λ b. cond b (record r { adp = adp }) r ≡ record r { adp = cond b adp r.adp } in
    elim (is_broadcast r.kind) as P [ true ↦ refl | false ↦ refl ]

-- what slaves, as their stations tell, answer to an item is what their controllers made of its datagram
pub answer_by_station : (r : ItemRecord) (k : ℕ) (ss : List SlaveState) (g : DatagramRecord) → IsItem r
    → StationsApart ss
    → AllByRecursion (λ s. IsController s.controller) ss
    → Answered (request_of r) (controllers ss) (datagram_of r k) g
    → IsAnswer (by_station ss) r (with_answer r g)
answer_by_station r k ss g item apart are answer =
    let q = request_of r in
    let below : AllByRecursion (λ s. station s < 65536) ss =
    each-map (λ (s : SlaveState). IsController s.controller) (λ s. station s < 65536) ss
    (λ s is. station_below s is) are in
    let found : AllByRecursion (λ s. by_station ss (station s) ≡ Some s) ss = each_by_station ss apart in
    let is : with_answer r g
    ≡ record r {
      payload = g.payload;
      counter = g.counter;
      adp = cond (is_broadcast r.kind) (adp_of g.address) r.adp;
    } =
    with_adp_is (record r { payload = g.payload; counter = g.counter }) (adp_of g.address) in
    let fields : IsAnswer (by_station ss) r
    (record r {
      payload = g.payload;
      counter = g.counter;
      adp = cond (is_broadcast r.kind) (adp_of g.address) r.adp;
    }) =
    record {
      kind = refl;
      address = refl;
      size = answer.way.size;
      claimed = λ i value claims.
          let meets : AllByRecursion (λ s. Meets (bit g.payload i) (claim q s.controller i)) ss =
          each-controller (λ x. Meets (bit g.payload i) (claim q x i)) ss (answer.bits.claimed i) in
          subst (λ (o : Option ℕ). Meets (bit g.payload i) o) claims.claims
          (by_station_each (λ s. Meets (bit g.payload i) (claim q s.controller i)) ss claims.station
          claims.slave claims.there meets).0;
      rest = λ i none.
          answer.bits.rest i
          (each-slave (λ x. claim q x i ≡ None) ss
          (each-map (λ s. by_station ss (station s) ≡ Some s) (λ s. claim q s.controller i ≡ None) ss
          (λ s there.
          let P : Option ℕ → Type 0 = λ o. claim q s.controller i ≡ o → o ≡ None in
          elim (claim q s.controller i) as P [
            | None ↦ λ _. refl
            | Some v ↦ λ some.
                absurd (none v (record { station = station s; slave = s; there = there; claims = some }))
          ] refl)
          found));
      counter =
          answer.counter
          ∙ ap (λ n. (r.counter + n) % 65536)
          (shares r ss ∙ sym (sum_of_stations-sum_by (λ s. share r s.controller) ss 65536 apart below));
      adp =
          ap (λ a. cond (is_broadcast r.kind) (adp_of a) r.adp) answer.address
          ∙ adp_moved r.kind r.address r.adp (length (controllers ss)) item.adp
          ∙ ap (λ n. cond (is_broadcast r.kind) ((r.adp + n) % 65536) r.adp)
          (length-controllers ss
          ∙ sym (sum_of_ones ss)
          ∙ sym (sum_of_stations-sum_by (λ (s : SlaveState). 1) ss 65536 apart below));
    } in
    subst (λ (got : ItemRecord). IsAnswer (by_station ss) r got) (sym is) fields

-- ---- item after item

-- each slave accepts now what its controller accepted at first
accepts_now : (q : Request) (xs : List ControllerState) (ss : List SlaveState) → AllByRecursion IsFitAlone xs
    → AllByRecursion (Accepts q) xs
    → IsLater xs (controllers ss) → AllByRecursion (λ s. Accepts q s.controller) ss
accepts_now q [] [] fit accept later = tt
accepts_now q [] (s ∷ ss) fit accept later = absurd later
accepts_now q (x ∷ xs) [] fit accept later = absurd later
accepts_now q (x ∷ xs) (s ∷ ss) fit accept later = (
  accepts_lasts q x s.controller fit.0.controller later.0.0 accept.0,
  accepts_now q xs ss fit.1 accept.1 later.1,
)

-- after an item the line is still a later one
later_after : (r : ItemRecord) (xs : List ControllerState) (ss : List SlaveState)
    → AllByRecursion IsFitAlone xs
    → AllByRecursion (λ s. Accepts (request_of r) s.controller) ss → IsLater xs (controllers ss)
    → IsLater xs (controllers (map (slave_after r) ss))
later_after r [] [] fit accept later = tt
later_after r [] (s ∷ ss) fit accept later = absurd later
later_after r (x ∷ xs) [] fit accept later = absurd later
later_after r (x ∷ xs) (s ∷ ss) fit accept later =
    let q = request_of r in
    let next : ControllerState = after q r.payload s.controller in
    let steady : SameSteady s.controller next = after_steady q r.payload s.controller later.0.1 accept.0 in
    let same : SameSteady x next = same_steady_trans x s.controller next fit.0.controller later.0.0 steady in
    ((same, after_controller q r.payload s.controller later.0.1), later_after r xs ss fit.1 accept.1 later.1)

-- what controllers as they were at first made of the items' datagrams is what the slaves that the items
-- before left answer
answers_later : (xs : List ControllerState) (ss : List SlaveState) (items : List ItemRecord) (k : ℕ)
    (gots : List DatagramRecord)
    → AllByRecursion IsFitAlone xs → AllApart xs → AllByRecursion (AcceptsAll (entries_from k items)) xs
    → AllByRecursion IsItem items
    → IsLater xs (controllers ss) → AnsweredFrame (entries_from k items) xs gots
    → AreAnswers (by_station ss) items (with_answers items gots)
unfolding entries_from
answers_later xs ss [] k [] fit apart accept items_are later answered = tt
answers_later xs ss [] k (g ∷ gs) fit apart accept items_are later answered = absurd answered
answers_later xs ss (r ∷ rs) k [] fit apart accept items_are later answered = absurd answered
answers_later xs ss (r ∷ rs) k (g ∷ gs) fit apart accept items_are later answered =
    let q = request_of r in
    let es : List Entry = entries_from (suc k) rs in
    let accept_first : AllByRecursion (Accepts q) xs =
    each-map (AcceptsAll (entries_from k (r ∷ rs))) (Accepts q) xs (λ x all. all.0) accept in
    let accept_rest : AllByRecursion (AcceptsAll es) xs =
    each-map (AcceptsAll (entries_from k (r ∷ rs))) (AcceptsAll es) xs (λ x all. all.1) accept in
    let are = later_controllers xs ss later in
    let accept_now = accepts_now q xs ss fit accept_first later in
    let first = answered_later q xs (controllers ss) (datagram_of r k) g fit accept_first later answered.0 in
    let rest = answers_later xs (map (slave_after r) ss) rs (suc k) gs fit apart accept_rest items_are.1
    (later_after r xs ss fit accept_now later) answered.1 in (
      answer_by_station r k ss g items_are.0 (stations_apart xs ss fit apart later) are first,
      subst (λ (slaves : ByStation). AreAnswers slaves rs (with_answers rs gs))
          (sym (slaves_after-map r ss are accept_now)) rest,
    )

-- what the controllers of a fit line made of the datagrams of items are the answers of the unordered cycle
pub answers_over : (ss : List SlaveState) (items : List ItemRecord) (k : ℕ) (gots : List DatagramRecord)
    → IsFitLine (controllers ss)
    → AllByRecursion (AcceptsAll (entries_from k items)) (controllers ss) → AllByRecursion IsItem items
    → AnsweredFrame (entries_from k items) (controllers ss) gots
    → AreAnswers (by_station ss) items (with_answers items gots)
answers_over ss items k gots fit accept are answered =
    answers_later (controllers ss) ss items k gots fit.alone fit.apart accept are
    (later-refl (controllers ss) fit.alone) answered

-- ---- frame after frame

-- two frames' answers are those of both
answered-append : (es fs : List Entry) (xs : List ControllerState) (gs hs : List DatagramRecord)
    → AnsweredFrame es xs gs → AnsweredFrame fs xs hs
    → AnsweredFrame (es ++ fs) xs (gs ++ hs)
answered-append [] fs xs [] hs front back = back
answered-append [] fs xs (g ∷ gs) hs front back = absurd front
answered-append (e ∷ es) fs xs [] hs front back = absurd front
answered-append (e ∷ es) fs xs (g ∷ gs) hs front back = (front.0, answered-append es fs xs gs hs front.1 back)

-- the entries of trips
abbrev pub entries_of : List Trip → List (List Entry)
entries_of ts = map (λ (t : Trip). t.entries) ts

-- the frames' answers, one after the other, are those of all entries
pub answered-concat : (ts : List Trip) (xs : List ControllerState) (joined : List (List DatagramRecord))
    → AnsweredTrips ts (λ t. xs) joined
    → AnsweredFrame (concat (entries_of ts)) xs (concat joined)
answered-concat [] xs [] answered = tt
answered-concat [] xs (g ∷ gs) answered = absurd answered
answered-concat (t ∷ ts) xs [] answered = absurd answered
answered-concat (t ∷ ts) xs (g ∷ gs) answered =
    answered-append t.entries (concat (entries_of ts)) xs g (concat gs) answered.0
    (answered-concat ts xs gs answered.1)

-- trips that were answered by the same controllers
pub answered-same : (ts : List Trip) (who : Trip → List ControllerState) (xs : List ControllerState)
    (joined : List (List DatagramRecord))
    → AllByRecursion (λ t. who t ≡ xs) ts → AnsweredTrips ts who joined → AnsweredTrips ts (λ t. xs) joined
answered-same [] who xs [] same answered = tt
answered-same [] who xs (g ∷ gs) same answered = absurd answered
answered-same (t ∷ ts) who xs [] same answered = absurd answered
answered-same (t ∷ ts) who xs (g ∷ gs) same answered = (
  subst (λ (ys : List ControllerState). AnsweredFrame t.entries ys g) same.0 answered.0,
  answered-same ts who xs gs same.1 answered.1,
)

-- so the answers of trips whose entries are those of items are those of the unordered cycle
pub answers_of_trips : (ts : List Trip) (ss : List SlaveState) (items : List ItemRecord)
    (joined : List (List DatagramRecord)) → IsFitLine (controllers ss)
    → AllByRecursion (AcceptsAll (entries_from 0 items)) (controllers ss) → AllByRecursion IsItem items
    → concat (entries_of ts) ≡ entries_from 0 items
    → AnsweredTrips ts (λ t. controllers ss) joined
    → AreAnswers (by_station ss) items (with_answers items (concat joined))
answers_of_trips ts ss items joined fit accept are whole answered =
    answers_over ss items 0 (concat joined) fit accept are
    (subst (λ (es : List Entry). AnsweredFrame es (controllers ss) (concat joined)) whole
    (answered-concat ts (controllers ss) joined answered))
