-- A cycle of a ring under its own links is the unordered cycle of the slaves that a copy reaches.
use Rattle.std.proofs.Common.{◌≡◌, ℕ, zero, suc, ◌-◌, ◌≤◌, cond, Option, None, Some, List, [], ◌∷◌, ◌++◌}
use Rattle.std.proofs.Common.{length, map, take, drop}
use Rattle.std.proofs.Common.{sym, subst, ◌∙◌, ap, refl, arith}
use Rattle.std.specs.Prelude.{is_none}
use Rattle.std.specs.List.{AllByRecursion}
use Rattle.std.proofs.lemmas.List.{take-append-drop, take-map, drop-map, drop_all, map-append}
use Rattle.ec_regs.proofs.Laws.{each-append, each-map, each-take, each-drop}
use Rattle.ec_wire.specs.Datagram.{DatagramRecord}
use Rattle.ec_esc.specs.State.{ControllerState}
use Rattle.ec_app.specs.State.{SlaveState}
use Rattle.ec_line.specs.Accepted.{AcceptsAll}
use Rattle.ec_line.specs.After.{Entry}
use Rattle.ec_line.specs.Fit.{IsFitAlone, AreApart, AllApart, IsFitLine}
use Rattle.ec_line.specs.Run.{trips_run, TripsReady, AnsweredTrips}
use Rattle.ec_line.specs.Trip.{Trip, returned}
use Rattle.ec_line.proofs.Laws.{trips_answered, apart-drop}
use Rattle.ec_check.specs.Line.{controllers}
use Rattle.ec_map.specs.Item.{ItemRecord, IsItem}
use Rattle.ec_ring.specs.Links.{IsOnlyDown}
use Rattle.ec_ring.specs.Reach.{front, back, arrival_a, arrival_b}
use Rattle.ec_ring.specs.Ring.{RingState, line_of}
use Rattle.ec_ring.specs.Travel.{trip_of}
use Rattle.ec_ring.specs.declared.links.Links.{Links}
use Rattle.ec_ring.specs.declared.port.Port.{Port}
use Rattle.ec_ring.proofs.Laws.{front-le-back, front-is-back, lost-front, lost-back, length-controllers}
use Rattle.ec_ring.proofs.Laws.{length-with_controllers}
use Rattle.ec_master.specs.Cut.{concat, entries_from, frames_of}
use Rattle.ec_master.specs.Travelled.{trips_of, trips_under, run_under, answers_under, ring_under}
use Rattle.ec_ring.specs.Weather.{calm}
use Rattle.ec_master.specs.Travelled.{reached, unreached}
use Rattle.ec_master.specs.Unordered.{by_station, AreAnswers, IsCycle, IsAccepted}
use Rattle.ec_master.specs.Work.{with_answers}
use Rattle.ec_master.proofs.AnswerLemmas.{answered-same, answers_of_trips}
use Rattle.ec_master.proofs.SlaveLemmas.{TakesItems, concat-cut, entries-trips_of, trips_ready, takes_items}
use Rattle.ec_master.proofs.SlaveLemmas.{reached_by_station, unreached_kept}
use Rattle.ec_master.proofs.StationLemmas.{each-slave}

-- ---- a first and a last piece of a list

-- what holds of each holds of each of both pieces
each-pieces : {S : Type 0} (P : S → Type 0) (p q : ℕ) (xs : List S) → AllByRecursion P xs
    → AllByRecursion P (take p xs ++ drop q xs)
each-pieces P p q xs all = each-append P (take p xs) (drop q xs) (each-take P p xs all) (each-drop P q xs all)

apart-pieces : (p q : ℕ) (xs : List ControllerState) → p ≤ q → AllApart xs → AllApart (take p xs ++ drop q xs)
apart-pieces zero q xs order all = apart-drop q xs all
apart-pieces (suc p) zero xs order all = absurd (omega arith)
apart-pieces (suc p) (suc q) [] order all = tt
apart-pieces (suc p) (suc q) (x ∷ xs) order all =
    (each-pieces (λ y. AreApart x y) p q xs all.0, apart-pieces p q xs (omega arith) all.1)

-- pieces of a fit line are a fit line
fit-pieces : (p q : ℕ) (xs : List ControllerState) → p ≤ q → IsFitLine xs → IsFitLine (take p xs ++ drop q xs)
fit-pieces p q xs order fit =
    record { alone = each-pieces IsFitAlone p q xs fit.alone; apart = apart-pieces p q xs order fit.apart }

-- ---- who answers

-- a copy that the links lose has passed nobody
front_lost : {S : Type 0} (o : Option Port) (p : ℕ) (xs : List S) → (o ≡ None → p ≡ 0)
    → cond (is_none o) [] (take p xs) ≡ take p xs
front_lost None p xs lost = ap (λ m. take m xs) (sym (lost refl))
front_lost (Some port) p xs lost = refl

back_lost : {S : Type 0} (o : Option Port) (q : ℕ) (xs : List S) → (o ≡ None → q ≡ length xs)
    → cond (is_none o) [] (drop q xs) ≡ drop q xs
back_lost None q xs lost = let all : q ≡ length xs = lost refl in sym (drop_all q xs (omega arith))
back_lost (Some port) q xs lost = refl

-- so those that the returned copies have passed are those that a copy reaches
returned_pieces : (links : Links) (f : List Entry) (line : List ControllerState) (n : ℕ) → length line ≡ n
    → returned (trip_of (calm links) f n) line ≡ take (front links n) line ++ drop (back links n) line
returned_pieces links f line n size =
    let p = front links n in
    let q = back links n in
    let rest : List ControllerState = cond (is_none (arrival_b links n)) [] (drop q line) in
    ap (λ (l : List ControllerState). l ++ rest) (front_lost (arrival_a links n) p line (lost-front links n))
    ∙ ap (λ (l : List ControllerState). take p line ++ l)
    (back_lost (arrival_b links n) q line (λ none. lost-back links n none ∙ sym size))

each_returned : (links : Links) (fs : List (List Entry)) (line : List ControllerState) (n : ℕ)
    → length line ≡ n
    → AllByRecursion (λ t. returned t line ≡ take (front links n) line ++ drop (back links n) line)
    (trips_of [] links n fs)
unfolding trips_of
each_returned links [] line n size = tt
each_returned links (f ∷ fs) line n size =
    (returned_pieces links f line n size, each_returned links fs line n size)

-- and they are the controllers of slaves that a copy reaches
controllers_reached : (p q : ℕ) (ss : List SlaveState) → take p (controllers ss) ++ drop q (controllers ss)
    ≡ controllers (take p ss ++ drop q ss)
controllers_reached p q ss =
    let f : SlaveState → ControllerState = λ s. s.controller in
    ap (λ (l : List ControllerState). l ++ drop q (map f ss)) (take-map f p ss)
    ∙ ap (λ (l : List ControllerState). map f (take p ss) ++ l) (drop-map f q ss)
    ∙ sym (map-append f (take p ss) (drop q ss))

-- ---- the cycle

-- its answers are those of the slaves that a copy reaches
pub reached_answers : (r : RingState) (items : List ItemRecord) → IsAccepted r.slaves items
    → AllByRecursion IsItem items
    → AreAnswers (by_station (reached r)) items (with_answers items (answers_under [] r items))
reached_answers r items accepted are =
    let ss : List SlaveState = r.slaves in
    let line : List ControllerState = line_of r in
    let n : ℕ = length ss in
    let p : ℕ = front r.links n in
    let q : ℕ = back r.links n in
    let ts : List Trip = trips_under [] r items in
    let es : List Entry = entries_from 0 items in
    let xs : List ControllerState = take p line ++ drop q line in
    let joined : List (List DatagramRecord) = (trips_run ts line).joined in
    let ready : TripsReady ts line = trips_ready [] r items accepted are in
    let pieces : xs ≡ controllers (reached r) = controllers_reached p q ss in
    let answered : AnsweredTrips ts (λ t. xs) joined =
    answered-same ts (λ t. returned t line) xs joined
    (each_returned r.links (frames_of items) line n (length-controllers ss))
    (trips_answered ts line ready) in
    let fit : IsFitLine (controllers (reached r)) =
    subst IsFitLine pieces (fit-pieces p q line (front-le-back r.links n) ready.fit) in
    let accept : AllByRecursion (AcceptsAll es) (controllers (reached r)) =
    each-slave (AcceptsAll es) (reached r)
    (each-map (TakesItems items) (λ (s : SlaveState). AcceptsAll es s.controller) (reached r)
    (λ s takes. takes.accepts)
    (each-pieces (TakesItems items) p q ss (takes_items ss items accepted are))) in
    answers_of_trips ts (reached r) items joined fit accept are
    (ap (λ (l : List (List Entry)). concat l) (entries-trips_of [] r.links n (frames_of items))
    ∙ concat-cut es)
    (subst (λ (zs : List ControllerState). AnsweredTrips ts (λ t. zs) joined) pieces answered)

-- it is the unordered cycle of the slaves that a copy reaches
pub reached_cycle : (r : RingState) (items : List ItemRecord) → IsAccepted r.slaves items
    → AllByRecursion IsItem items
    → IsCycle (by_station (reached r)) items (with_answers items (answers_under [] r items))
    (by_station (reached (ring_under [] r items)))
reached_cycle r items accepted are =
    record {
      answers = reached_answers r items accepted are;
      slaves = λ n. reached_by_station r items n accepted are;
    }

-- it leaves the others as they were
pub unreached_same : (r : RingState) (items : List ItemRecord) → IsAccepted r.slaves items
    → AllByRecursion IsItem items
    → unreached (ring_under [] r items) ≡ unreached r
unreached_same r items accepted are =
    let later : List SlaveState = (ring_under [] r items).slaves in
    let size : length later ≡ length r.slaves =
    length-with_controllers r.slaves (run_under [] r items).line in
    ap (λ (n : ℕ). take (back r.links n - front r.links n) (drop (front r.links n) later)) size
    ∙ unreached_kept r items accepted are

-- a copy reaches each slave where at most one link is down
pub reached_all : (r : RingState) (k : ℕ) → IsOnlyDown r.links (length r.slaves) k → reached r ≡ r.slaves
reached_all r k only =
    let n : ℕ = length r.slaves in
    ap (λ (q : ℕ). take (front r.links n) r.slaves ++ drop q r.slaves) (sym (front-is-back r.links n k only))
    ∙ take-append-drop (front r.links n) r.slaves

-- then it is the unordered cycle of all slaves
pub whole_cycle : (r : RingState) (items : List ItemRecord) (k : ℕ) → IsOnlyDown r.links (length r.slaves) k
    → IsAccepted r.slaves items
    → AllByRecursion IsItem items
    → IsCycle (by_station r.slaves) items (with_answers items (answers_under [] r items))
    (by_station (ring_under [] r items).slaves)
whole_cycle r items k only accepted are =
    let later : RingState = ring_under [] r items in
    let got : List ItemRecord = with_answers items (answers_under [] r items) in
    let size : length later.slaves ≡ length r.slaves =
    length-with_controllers r.slaves (run_under [] r items).line in
    let only_later : IsOnlyDown later.links (length later.slaves) k =
    subst (λ (n : ℕ). IsOnlyDown r.links n k) (sym size) only in
    subst (λ (ss : List SlaveState). IsCycle (by_station ss) items got (by_station later.slaves))
    (reached_all r k only)
    (subst (λ (ss : List SlaveState). IsCycle (by_station (reached r)) items got (by_station ss))
    (reached_all later k only_later)
    (reached_cycle r items accepted are))
