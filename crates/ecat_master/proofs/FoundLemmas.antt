-- What a start finds over a ring: as many slaves as the ring has, and the cable as its links are.
use Rattle.std.proofs.Common.{◌≡◌, ◌≤◌, ℕ, zero, suc, ◌+◌, ◌-◌, Bool, true, false, cond, List, [], ◌∷◌}
use Rattle.std.proofs.Common.{length, refl, sym, ap, ◌∙◌, subst, arith, Option, None, Some, Result, Ok, Err}
use Rattle.std.specs.Prelude.{if◌then◌else◌, unwrap_or}
use Rattle.std.specs.Option.{option_map}
use Rattle.std.specs.Result.{result_ok}
use Rattle.std.proofs.lemmas.List.{length-map}
use Rattle.ec_wire.specs.Datagram.{DatagramRecord, nth}
use Rattle.ec_merge.specs.Frames.{IsOwn, joined_frame}
use Rattle.ec_merge.specs.Rule.{distance, joined_count}
use Rattle.ec_esc.specs.State.{ControllerState}
use Rattle.ec_esc.specs.declared.counting.TheConstants.{MOST_CONTROLLERS}
use Rattle.ec_app.specs.Slave.{step}
use Rattle.ec_diag.specs.Arrivals.{IsLocated, heard_arrival, located_of, probe, with_arrivals}
use Rattle.ec_diag.specs.Heard.{IsProbe, heard_a, heard_b, is_told_by}
use Rattle.ec_diag.specs.Located.{Tells}
use Rattle.ec_diag.specs.declared.heard.Heard.{Heard}
use Rattle.ec_diag.specs.declared.located.Located.{Located}
use Rattle.ec_diag.specs.declared.located.Located.TheVariants.{Unknown}
use Rattle.ec_line.specs.Trip.{back_pass, circulated, front_pass}
use Rattle.ec_ring.specs.Arrivals.{arrivals_of, copies_came, copies_of}
use Rattle.ec_ring.specs.Links.{IsOnlyDown, first_down}
use Rattle.ec_ring.specs.Reach.{arrival_a, arrival_b, back, front, turns}
use Rattle.ec_ring.specs.Ring.{RingState, line_of, with_controllers}
use Rattle.ec_ring.specs.Travel.{travelled}
use Rattle.ec_ring.specs.Walk.{Walked, walked_from_a, walked_from_b}
use Rattle.ec_ring.specs.Weather.{calm}
use Rattle.ec_ring.specs.declared.arrivals.Arrival.{Arrival}
use Rattle.ec_ring.specs.declared.arrivals.Arrivals.{Arrivals}
use Rattle.ec_ring.specs.declared.links.Links.{Links}
use Rattle.ec_ring.specs.declared.links.TheConstants.{MAX_SLAVES}
use Rattle.ec_ring.specs.declared.port.Port.{Port}
use Rattle.ec_ring.specs.declared.port.PortFault.{PortFault}
use Rattle.ec_ring.specs.declared.weather.Came.{Came}
use Rattle.ec_ring.specs.declared.weather.Weather.{Weather}
use Rattle.ec_ring.proofs.Laws.{front-is-back, is-first_down, length-controllers, length-walked_from_a}
use Rattle.ec_ring.proofs.Laws.{length-with_controllers, lost-back, lost-front}
use Rattle.ec_master.specs.Ports.{came_or}
use Rattle.ec_master.specs.RingTrips.{RingTrips}
use Rattle.ec_master.specs.Travelled.{AtMostOneDown}
use Rattle.ec_services.specs.Ask.{Answer, Brings}
use Rattle.ec_services.specs.Stations.{status_broadcast}
use Rattle.ec_services.specs.declared.fault.MasterFault.{MasterFault}
use Rattle.ec_run.specs.Ask.{joined_by}
use Rattle.ec_run.specs.Counting.{IsCounted, count_of}
use Rattle.ec_run.specs.Travels.{IsWithin, Travels}
use Rattle.ec_run.specs.Watched.{WatchedState, WatchedTrips}
use Rattle.ec_run.specs.declared.wanted.Wanted.{Wanted}
use Rattle.ec_run.proofs.Laws.{within_of}
use Rattle.ec_over_ring.specs.Brought.{ReachesAll}
use Rattle.ec_over_ring.specs.Heard.{HeardRing}
use Rattle.ec_over_ring.proofs.Laws.{heard_is_ring, watched_ring}
use Rattle.ecat_master.specs.Course.{AreLooks, IsLook, is_last_look}
use Rattle.ecat_master.specs.Start.{IsFound}
use Rattle.ecat_master.specs.declared.startup.TheConstants.{MORE_CABLE_LOOKS, MORE_COUNTS}
use Rattle.ecat_master.proofs.CountsLemmas.{counts_within}

-- ---- what the copies of a broadcast read are heard as, by the laws of diagnosis

pub record AreHeard : Type 0 where
  pub a : (w : Weather) (line : List ControllerState) (d : DatagramRecord)
      → length line ≤ MOST_CONTROLLERS → IsProbe d
      → heard_arrival (d ∷ []) (arrivals_of w (d ∷ []) line).a
      ≡ (if w.lost_a then None else heard_a w.a (length line))
  pub b : (w : Weather) (line : List ControllerState) (d : DatagramRecord)
      → length line ≤ MOST_CONTROLLERS → IsProbe d
      → heard_arrival (d ∷ []) (arrivals_of w (d ∷ []) line).b
      ≡ (if w.lost_b then None else heard_b w.b (length line))
  pub so : (w : Weather) (line : List ControllerState) (d : DatagramRecord)
      → length line ≤ MOST_CONTROLLERS → IsProbe d → w.a ≡ w.b
      → Tells (with_arrivals (length line) Unknown (d ∷ []) (arrivals_of w (d ∷ []) line)) w.a (length line)

broadcast_is : IsProbe status_broadcast
broadcast_is = record {
  command = refl;
  some = omega arith;
  registers = omega arith;
  still = refl;
  counter = omega arith;
}

probe_is : IsProbe probe
probe_is = record {
  command = refl;
  some = omega arith;
  registers = omega arith;
  still = refl;
  counter = omega arith;
}

-- ---- a ring that trips leave under its links, with as many slaves

pub record IsSameRing (r s : RingState) : Type 0 where
  pub links : s.links ≡ r.links
  pub size : length s.slaves ≡ length r.slaves

trip_same : (before later : RingState) (sent : List DatagramRecord) (came : Result Came PortFault)
    → RingTrips before sent came later → IsSameRing before later
trip_same before later sent came made =
    let line : List ControllerState = (travelled (calm before.links) sent (line_of before)).line in
    record {
      links = ap (λ (r : RingState). r.links) made.1;
      size = ap (λ (r : RingState). length r.slaves) made.1
          ∙ length-map (with_controllers before.slaves line) step
          ∙ length-with_controllers before.slaves line;
    }

same_then : (r s t : RingState) → IsSameRing r s → IsSameRing s t → IsSameRing r t
same_then r s t first second =
    record { links = second.links ∙ first.links; size = second.size ∙ first.size }

travels_same : (n : ℕ) (before later : RingState) → Travels RingTrips n before later
    → IsSameRing before later
unfolding Travels
travels_same zero before later same = record {
  links = ap (λ (r : RingState). r.links) same;
  size = ap (λ (r : RingState). length r.slaves) same;
}
travels_same (suc n) before later (sent, came, between, made, rest) =
    same_then before between later (trip_same before between sent came made)
    (travels_same n between later rest)

pub within_same : (most : ℕ) (before later : RingState) → IsWithin RingTrips most before later
    → IsSameRing before later
within_same most before later within = travels_same within.number before later within.travels

-- at most one link of a ring of so many slaves is down
record IsReached (r : RingState) : Type 0 where
  down : AtMostOneDown r
  limit : length r.slaves ≤ MAX_SLAVES

same_reached : (r s : RingState) → IsSameRing r s → IsReached r → IsReached s
same_reached r s same reached = record {
  down = (
    reached.down.0,
    subst (λ (links : Links). IsOnlyDown links (length s.slaves) reached.down.0) (sym same.links)
        (subst (λ (n : ℕ). IsOnlyDown r.links n reached.down.0) (sym same.size) reached.down.1),
  );
  limit = subst (λ (n : ℕ). n ≤ MAX_SLAVES) (sym same.size) reached.limit;
}

-- ---- one copy of the broadcast read that counts slaves

heard_if : (b : Bool) (h g : Heard) → cond b (Some h) None ≡ Some g → h ≡ g
heard_if true h g is = cc (is)
heard_if false h g is = absurd (cc (is))

-- it has counted the slaves that it passed, or it is lost and passed none
copy_counts : (o : Option Arrival) (port : Option Port) (k : ℕ) (t : Bool)
    → heard_arrival (status_broadcast ∷ []) o
    ≡ option_map (λ (p : Port). record { at = p; count = k; turned = t }) port
    → (port ≡ None → k ≡ 0) → (port ≡ None → o ≡ None)
    → distance 0
    (nth (came_or (option_map (λ (y : Arrival). y.frame) o) (status_broadcast ∷ [])) 0).counter
    ≡ k
copy_counts None None k t is none lost = sym (none refl)
copy_counts None (Some p) k t is none lost = absurd (cc (is))
copy_counts (Some x) None k t is none lost =
    let e : Some x ≡ None = lost refl in absurd (cc (e))
copy_counts (Some x) (Some p) k t is none lost =
    ap (λ (h : Heard). h.count)
    (heard_if (is_told_by status_broadcast (nth x.frame 0))
    (record {
      at = x.at;
      count = distance 0 (nth x.frame 0).counter;
      turned = (nth x.frame 0).circulating;
    })
    (record { at = p; count = k; turned = t }) is)

arrived_of : (f : List DatagramRecord) (port : Option Port) → port ≡ None
    → option_map {U = List DatagramRecord × Port} (λ (p : Port). (f, p)) port ≡ None
arrived_of f port none =
    ap (λ (o : Option Port). option_map {U = List DatagramRecord × Port} (λ (p : Port). (f, p)) o) none

either_lost : (b : Bool) (x y : Walked) → x.arrived ≡ None → y.arrived ≡ None
    → (cond b x y).arrived ≡ None
either_lost true x y first second = first
either_lost false x y first second = second

walked_a_lost : (links : Links) (frame : List DatagramRecord) (line : List ControllerState)
    → arrival_a links (length line) ≡ None → (walked_from_a links frame line).arrived ≡ None
unfolding walked_from_a
walked_a_lost links frame line none =
    arrived_of (front_pass (front links (length line)) line frame).frame (arrival_a links (length line)) none

walked_b_lost : (links : Links) (frame : List DatagramRecord) (line : List ControllerState)
    → arrival_b links (length line) ≡ None → (walked_from_b links frame line).arrived ≡ None
unfolding walked_from_b
walked_b_lost links frame line none =
    either_lost _ _ _ refl
    (arrived_of
    (back_pass (back links (length line)) line
    (cond (turns links (length line)) (circulated frame) frame)).frame
    (arrival_b links (length line)) none)

found_none : (w : Walked) → w.arrived ≡ None
    → option_map {U = Arrival} (λ (x : List DatagramRecord × Port). record { frame = x.0; at = x.1 })
    w.arrived
    ≡ None
found_none w none =
    ap (λ (o : Option (List DatagramRecord × Port)).
    option_map {U = Arrival} (λ (x : List DatagramRecord × Port). record { frame = x.0; at = x.1 }) o) none

lost_a : (links : Links) (line : List ControllerState) → arrival_a links (length line) ≡ None
    → (arrivals_of (calm links) (status_broadcast ∷ []) line).a ≡ None
unfolding arrivals_of
lost_a links line none =
    found_none (walked_from_a links (status_broadcast ∷ []) line)
    (walked_a_lost links (status_broadcast ∷ []) line none)

lost_b : (links : Links) (line : List ControllerState) → arrival_b links (length line) ≡ None
    → (arrivals_of (calm links) (status_broadcast ∷ []) line).b ≡ None
unfolding arrivals_of
lost_b links line none =
    let behind : List ControllerState = (walked_from_a links (status_broadcast ∷ []) line).line in
    let size : length behind ≡ length line = length-walked_from_a links (status_broadcast ∷ []) line in
    found_none (walked_from_b links (status_broadcast ∷ []) behind)
    (walked_b_lost links (status_broadcast ∷ []) behind
    (ap (λ (n : ℕ). arrival_b links n) size ∙ none))

-- ---- both of them

front_inside : (links : Links) (n : ℕ) (first : Option ℕ) → first_down links (n + 1) ≡ first
    → unwrap_or first n ≤ n
front_inside links n None is = omega arith
front_inside links n (Some k) is = (is-first_down links n k is).0

-- together they pass each slave once
pass_all : (links : Links) (n k : ℕ) → IsOnlyDown links n k
    → front links n + (n - back links n) ≡ n
pass_all links n k only =
    let same : front links n ≡ back links n = front-is-back links n k only in
    let inside : front links n ≤ n = front_inside links n (first_down links (n + 1)) refl in
    omega (arith, same, inside)

counts_add : (a b k m : ℕ) → distance 0 a ≡ k → distance 0 b ≡ m → k + m ≤ 256
    → joined_count 0 a b ≡ k + m
counts_add a b k m first second small = omega (arith, first, second, small)

-- their counters are joined
joined_counts : (d : DatagramRecord) (fa fb : List DatagramRecord) → IsOwn (d ∷ []) fa → IsOwn (d ∷ []) fb
    → (nth (joined_frame (d ∷ []) fa fb) 0).counter
    ≡ joined_count d.counter (nth fa 0).counter (nth fb 0).counter
joined_counts d [] fb first second =
    let none : 0 ≡ 1 = first.count in absurd (omega (arith, none))
joined_counts d (x ∷ xs) [] first second =
    let none : 0 ≡ 1 = second.count in absurd (omega (arith, none))
joined_counts d (x ∷ xs) (y ∷ ys) first second = refl

-- the number that is told is that of both copies
count_told : (came : Came) (answer : Answer) (joined : Result (List DatagramRecord) MasterFault) (n : ℕ)
    → Brings status_broadcast (Ok came) answer → joined ≡ joined_by answer → Ok n ≡ count_of joined
    → n
    ≡ joined_count 0 (nth (came_or came.a (status_broadcast ∷ [])) 0).counter
    (nth (came_or came.b (status_broadcast ∷ [])) 0).counter
count_told came (Err fault) joined n brings tells told =
    let none : Ok n ≡ Err fault = told ∙ ap count_of tells in absurd (cc (none))
count_told came (Ok back) joined n brings tells told =
    let one : ◌≡◌ {A = Result ℕ MasterFault} (Ok n) (Ok (nth back.joined 0).counter) =
    told ∙ ap count_of tells in
    let is : n ≡ (nth back.joined 0).counter = cc (one) in
    is ∙ ap (λ (f : List DatagramRecord). (nth f 0).counter) brings.1.2
    ∙ joined_counts status_broadcast (came_or came.a (status_broadcast ∷ []))
    (came_or came.b (status_broadcast ∷ [])) brings.1.0 brings.1.1

-- over a ring they have counted its slaves
slaves_counted : AreHeard → (r : RingState) (n : ℕ) → IsReached r
    → n
    ≡ joined_count 0
    (nth
    (came_or (copies_of (arrivals_of (calm r.links) (status_broadcast ∷ []) (line_of r))).a
    (status_broadcast ∷ [])) 0).counter
    (nth
    (came_or (copies_of (arrivals_of (calm r.links) (status_broadcast ∷ []) (line_of r))).b
    (status_broadcast ∷ [])) 0).counter
    → n ≡ length r.slaves
slaves_counted laws r n reached is =
    let line : List ControllerState = line_of r in
    let size : length line ≡ length r.slaves = length-controllers r.slaves in
    let limit : length r.slaves ≤ MAX_SLAVES = reached.limit in
    let room : length line ≤ MOST_CONTROLLERS = omega (arith, size, limit) in
    let o : Arrivals = arrivals_of (calm r.links) (status_broadcast ∷ []) line in
    let m : ℕ = length line in
    let only : IsOnlyDown r.links m reached.down.0 =
    subst (λ (k : ℕ). IsOnlyDown r.links k reached.down.0) (sym size) reached.down.1 in
    let all : front r.links m + (m - back r.links m) ≡ m = pass_all r.links m reached.down.0 only in
    let first : distance 0 (nth (came_or (copies_of o).a (status_broadcast ∷ [])) 0).counter
    ≡ front r.links m =
    copy_counts o.a (arrival_a r.links m) (front r.links m) false
    (laws.a (calm r.links) line status_broadcast room broadcast_is)
    (lost-front r.links m) (lost_a r.links line) in
    let second : distance 0 (nth (came_or (copies_of o).b (status_broadcast ∷ [])) 0).counter
    ≡ m - back r.links m =
    copy_counts o.b (arrival_b r.links m) (m - back r.links m) (turns r.links m)
    (laws.b (calm r.links) line status_broadcast room broadcast_is)
    (λ none. let at_end : back r.links m ≡ m = lost-back r.links m none in omega (arith, at_end))
    (lost_b r.links line) in
    let small : front r.links m + (m - back r.links m) ≤ 256 = omega (arith, all, size, limit) in
    is
    ∙ counts_add _ _ (front r.links m) (m - back r.links m) first second small ∙ all ∙ size

-- ---- counts

-- what came of a frame over ports that hear a ring
watched_came : (before later : WatchedState RingState) (sent : List DatagramRecord)
    (came : Result Came PortFault) → WatchedTrips HeardRing before sent came later
    → came ≡ Ok (copies_of (arrivals_of (calm before.ports.links) sent (line_of before.ports)))
watched_came before later sent came trip = trip.copies ∙ ap copies_came trip.made.0

-- a count tells how many slaves the ring has
count_is : AreHeard → (before later : WatchedState RingState) (n : ℕ) → IsReached before.ports
    → IsCounted (WatchedTrips HeardRing) before (Ok n) later → n ≡ length before.ports.slaves
count_is laws before later n reached counted =
    let asks = counted.puts.asks in
    let copies : Came =
    copies_of (arrivals_of (calm before.ports.links) (status_broadcast ∷ []) (line_of before.ports)) in
    slaves_counted laws before.ports n reached
    (count_told copies counted.puts.answer counted.joined n
    (subst (λ (c : Result Came PortFault). Brings status_broadcast c counted.puts.answer)
    (watched_came before later (status_broadcast ∷ []) asks.came asks.made) asks.brings)
    counted.puts.tells counted.tells)

-- ---- looks at the cable

-- where a look finds something, it is so
found_so : AreHeard → (before later : RingState) (n : ℕ) (result : Result Located PortFault) (cable : Located)
    → n ≡ length before.slaves → n ≤ MAX_SLAVES → IsLocated HeardRing before n result later
    → Some cable ≡ result_ok result → Tells cable before.links n
found_so laws before later n (Err failed) cable size limit located finds = absurd (cc (finds))
found_so laws before later n (Ok found) cable size limit located finds =
    let line : List ControllerState = line_of before in
    let count : length line ≡ n = length-controllers before.slaves ∙ sym size in
    let room : length line ≤ MOST_CONTROLLERS = omega (arith, count, limit) in
    let told : Located =
    with_arrivals n Unknown (probe ∷ []) (arrivals_of (calm before.links) (probe ∷ []) line) in
    let is : ◌≡◌ {A = Result Located PortFault} (Ok found) (Ok told) =
    located.located ∙ ap (located_of n) located.made.0 in
    let same : cable ≡ told = cc (finds, is) in
    subst (λ (x : Located). Tells x before.links n) (sym same)
    (subst (λ (m : ℕ).
    Tells (with_arrivals m Unknown (probe ∷ []) (arrivals_of (calm before.links) (probe ∷ []) line))
    before.links m) count
    (laws.so (calm before.links) line probe room probe_is refl))

look_so : AreHeard → (before later : RingState) (n : ℕ) (cable : Located) → n ≡ length before.slaves
    → n ≤ MAX_SLAVES → IsLook HeardRing before n (Some cable) later → Tells cable before.links n
look_so laws before later n cable size limit look =
    found_so laws before later n look.result cable size limit look.located look.finds

look_same : (before later : RingState) (n : ℕ) (found : Option Located)
    → IsLook HeardRing before n found later → IsSameRing before later
look_same before later n found look =
    trip_same before later (probe ∷ []) (copies_came look.located.came)
    (heard_is_ring before (probe ∷ []) look.located.came later look.located.made)

-- so is what the looks find, one after the other
looks_so : AreHeard → (more : ℕ) (before later : RingState) (n : ℕ) (cable : Located)
    → n ≡ length before.slaves → n ≤ MAX_SLAVES → AreLooks HeardRing before n more (Some cable) later
    → Tells cable before.links n
unfolding AreLooks
looks_so laws zero before later n cable size limit look = look_so laws before later n cable size limit look
looks_so laws (suc more) before later n cable size limit (first, between, look, rest) =
    let kept : IsSameRing before between = look_same before between n first look in
    looks_rest (is_last_look first) rest
    (λ others. subst (λ (links : Links). Tells cable links n) kept.links
    (looks_so laws more between later n cable (size ∙ sym kept.size) limit others))
  where
    looks_rest : (b : Bool)
        → (elim b as (λ (x : Bool). Type 0) [
          | true ↦ (Some cable ≡ first) × (later ≡ between)
          | false ↦ AreLooks HeardRing between n more (Some cable) later
        ])
        → (AreLooks HeardRing between n more (Some cable) later → Tells cable before.links n)
        → Tells cable before.links n
    looks_rest true (is, same) on =
        look_so laws before between n cable size limit
        (subst (λ (o : Option Located). IsLook HeardRing before n o between) (sym is) look)
    looks_rest false others on = on others

-- ---- what was found

-- the ring has as many slaves as the line, and what is said of the cable is so of its links
pub record IsFoundSo (line : List Wanted) (cable : Located) (r : RingState) : Type 0 where
  pub slaves : length r.slaves ≡ length line
  pub located : Tells cable r.links (length line)

pub found_is : AreHeard → (before later : WatchedState RingState) (line : List Wanted) (cable : Located)
    → ReachesAll before.ports → IsFound HeardRing before line cable later
    → IsFoundSo line cable before.ports
found_is laws before later line cable ring found =
    let n : ℕ = length line in
    let last : WatchedState RingState = found.counting.between in
    let counted : WatchedState RingState = found.counted in
    let at_first : IsReached before.ports = record { down = ring.down; limit = ring.slaves.limit } in
    let kept : IsSameRing before.ports last.ports =
    within_same MORE_COUNTS before.ports last.ports
    (within_of (λ (w : WatchedState RingState). w.ports) (WatchedTrips HeardRing) RingTrips watched_ring
    MORE_COUNTS before last (counts_within _ MORE_COUNTS before last found.counting.earlier)) in
    let counts : n ≡ length last.ports.slaves =
    count_is laws last counted n (same_reached before.ports last.ports kept at_first) found.counting.last in
    let asks = found.counting.last.puts.asks in
    let behind : IsSameRing before.ports counted.ports =
    same_then before.ports last.ports counted.ports kept
    (trip_same last.ports counted.ports (status_broadcast ∷ []) asks.came
    (watched_ring last (status_broadcast ∷ []) asks.came counted asks.made)) in
    let slaves : n ≡ length before.ports.slaves = counts ∙ kept.size in
    let limit : n ≤ MAX_SLAVES = subst (λ (m : ℕ). m ≤ MAX_SLAVES) (sym slaves) ring.slaves.limit in
    record {
      slaves = sym slaves;
      located = subst (λ (links : Links). Tells cable links n) behind.links
          (looks_so laws MORE_CABLE_LOOKS counted.ports later.ports n cable (slaves ∙ sym behind.size) limit
          found.looks.looks);
    }
