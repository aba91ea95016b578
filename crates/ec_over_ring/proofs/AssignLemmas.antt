-- Station addresses over a ring: the broadcast read counts the slaves, and write after write each gets its
-- address.
use Rattle.std.proofs.Common.{◌≡◌, ℕ, zero, suc, ◌+◌, ◌*◌, ◌/◌, ◌<◌, ◌≤◌, false, List, [], ◌∷◌}
use Rattle.std.proofs.Common.{◌++◌, length, map, get_or, refl, sym, ap, ◌∙◌, arith, subst, Option, None, Some}
use Rattle.std.proofs.Common.{length-append, eqb, ltb, add-one}
use Rattle.std.specs.Prelude.{Err, Ok, Result}
use Rattle.std.specs.Int.{w16, to_le_bytes}
use Rattle.std.specs.List.{AllByRecursion, range_with_len}
use Rattle.std.proofs.lemmas.List.{length-map}
use Rattle.ec_regs.specs.declared.registers.TheConstants.{MEMORY_SIZE}
use Rattle.ec_regs.proofs.Laws.{each-append}
use Rattle.ec_app.specs.Slave.{step}
use Rattle.ec_app.specs.State.{SlaveState}
use Rattle.ec_app.specs.Table.{first_fitting}
use Rattle.ec_wire.specs.Datagram.{DatagramRecord, nth}
use Rattle.ec_merge.proofs.Laws.{own_no_fault}
use Rattle.ec_esc.specs.State.{ControllerState, IsController, with_run}
use Rattle.ec_esc.proofs.Laws.{length-with_run}
use Rattle.ec_ring.specs.Links.{AreUp, SomeDown}
use Rattle.ec_ring.specs.Ring.{RingState, controllers, line_of, stepped, with_line}
use Rattle.ec_ring.specs.Travel.{Travelled, travelled}
use Rattle.ec_ring.specs.Weather.{calm}
use Rattle.ec_ring.specs.declared.links.Links.{Links}
use Rattle.ec_ring.specs.declared.port.PortFault.{PortFault}
use Rattle.ec_ring.specs.declared.weather.Came.{Came}
use Rattle.ec_ring.proofs.Laws.{length-controllers, with_controllers-controllers}
use Rattle.ec_master.specs.RingTrips.{RingTrips}
use Rattle.ec_services.specs.Ask.{Answer, Asks, Brings, Talks, write, write_decides}
use Rattle.ec_services.specs.Stations.{AreAssigned, IsCounted, ThenAssigns, adp_of_place}
use Rattle.ec_services.specs.Stations.{station_write, station_writes, status_broadcast}
use Rattle.ec_services.specs.declared.fault.MasterFault.{MasterFault}
use Rattle.ec_services.specs.declared.fault.MasterFault.TheVariants.{BadAnswer, Broken, NoSlave}
use Rattle.ec_over_ring.specs.Stations.{HasSlaves, assigned, assigned_from, restationed, station_of, steps}
use Rattle.ec_over_ring.specs.Stations.{with_station}
use Rattle.ec_over_ring.specs.Transfers.{IsSlave}
use Rattle.ec_over_ring.proofs.CableLemmas.{whole_trip}
use Rattle.ec_over_ring.proofs.CountLemmas.{Counts, broken_counts, counted, counted_some, own_alone}
use Rattle.ec_over_ring.proofs.CountLemmas.{whole_counts}
use Rattle.ec_over_ring.proofs.PlaceLemmas.{placed_line}
use Rattle.ec_over_ring.proofs.QuestionLemmas.{controllers-of, one_changed}
use Rattle.ec_over_ring.proofs.SlaveLemmas.{run_bytes, step_slave, word_bytes}
use Rattle.ec_over_ring.proofs.StationLemmas.{station_stays}
use Rattle.ec_over_ring.proofs.StationWriteLemmas.{run_inside, write_at}
use Rattle.ec_over_ring.proofs.TalkLemmas.{IsBegun, begun, goes_on}
use Rattle.ec_over_ring.proofs.TransferLemmas.{have_controllers}

abbrev AreSlaves : List SlaveState → Type 0
AreSlaves ss = AllByRecursion IsSlave ss

-- a ring whose slaves are these
abbrev ring_of : Links → List SlaveState → RingState
ring_of links slaves = record { slaves = slaves; links = links }

-- ---- one slave

-- it stays one with another station address
station_slave : (station : ℕ) (s : SlaveState) → IsSlave s → IsSlave (with_station station s)
station_slave station s is =
    let size : length s.controller.memory ≡ MEMORY_SIZE = is.controller.memory_size in
    record {
      controller = record {
        memory_size = length-with_run s.controller.memory (to_le_bytes w16 station) 16 (omega (arith, size))
            ∙ size;
        memory = run_bytes s.controller.memory 16 (to_le_bytes w16 station) is.controller.memory
            (word_bytes station);
        shown_size = is.controller.shown_size;
        shown = is.controller.shown;
      };
      values = is.values;
    }

-- and has it then
station_given : (station : ℕ) (s : SlaveState) → IsSlave s → station < 65536
    → station_of (with_station station s) ≡ station
station_given station s is small =
    let m : List ℕ = s.controller.memory in
    let size : length m ≡ MEMORY_SIZE = is.controller.memory_size in
    let bytes : List ℕ = to_le_bytes w16 station in
    let low : get_or (with_run m 16 bytes) 16 0 ≡ get_or bytes 0 0 =
    run_inside m bytes 16 0 (omega (arith, size)) (omega arith) in
    let high : get_or (with_run m 16 bytes) 17 0 ≡ get_or bytes 1 0 =
    run_inside m bytes 16 1 (omega (arith, size)) (omega arith) in
    omega (arith, low, high, small)

-- steps leave a slave a slave, and its station address
steps_slave : (n : ℕ) (s : SlaveState) → IsSlave s → IsSlave (steps n s)
unfolding steps
steps_slave zero s is = is
steps_slave (suc n) s is = steps_slave n (step s) (step_slave s is)

steps_station : (n : ℕ) (s : SlaveState) → IsSlave s → station_of (steps n s) ≡ station_of s
unfolding steps
steps_station zero s is = refl
steps_station (suc n) s is =
    steps_station n (step s) (step_slave s is) ∙ station_stays s is.controller.memory_size

-- one step more
step_more : (n : ℕ) (s : SlaveState) → steps (suc n) s ≡ step (steps n s)
unfolding steps
step_more zero s = refl
step_more (suc n) s = step_more n (step s)

-- ---- each of a line

each_step : (ss : List SlaveState) → AreSlaves ss → AreSlaves (map step ss)
each_step [] all = tt
each_step (s ∷ ss) all = (step_slave s all.0, each_step ss all.1)

each_steps : (n : ℕ) (ss : List SlaveState) → AreSlaves ss → AreSlaves (map (steps n) ss)
each_steps n [] all = tt
each_steps n (s ∷ ss) all = (steps_slave n s all.0, each_steps n ss all.1)

no_steps : (ss : List SlaveState) → map (steps 0) ss ≡ ss
unfolding steps
no_steps [] = refl
no_steps (s ∷ ss) = ap (λ (xs : List SlaveState). s ∷ xs) (no_steps ss)

first_steps : (ss : List SlaveState) → map step ss ≡ map (steps 1) ss
unfolding steps
first_steps [] = refl
first_steps (s ∷ ss) = ap (λ (xs : List SlaveState). step s ∷ xs) (first_steps ss)

more_steps : (n : ℕ) (ss : List SlaveState) → map step (map (steps n) ss) ≡ map (steps (n + 1)) ss
more_steps n [] = refl
more_steps n (s ∷ ss) =
    ap (λ (x : SlaveState). x ∷ map step (map (steps n) ss)) (sym (step_more n s))
    ∙ ap (λ (m : ℕ). steps m s ∷ map step (map (steps n) ss)) (sym (add-one n))
    ∙ ap (λ (xs : List SlaveState). steps (n + 1) s ∷ xs) (more_steps n ss)

-- slaves that have their address, one that gets it, and those behind it, each a step later
stepped_parts : (done : List SlaveState) (w : SlaveState) (rest : List SlaveState)
    → map step (done ++ w ∷ rest) ≡ (map step done ++ step w ∷ []) ++ map step rest
stepped_parts [] w rest = refl
stepped_parts (x ∷ done) w rest =
    ap (λ (xs : List SlaveState). step x ∷ xs) (stepped_parts done w rest)

-- and so many steps later
finished_parts : (n : ℕ) (done : List SlaveState) (w : SlaveState) (rest : List SlaveState)
    → map (steps n) (map step done ++ step w ∷ []) ++ rest
    ≡ map (steps (suc n)) done ++ steps (suc n) w ∷ rest
unfolding steps
finished_parts n [] w rest = refl
finished_parts n (x ∷ done) w rest =
    ap (λ (xs : List SlaveState). steps n (step x) ∷ xs) (finished_parts n done w rest)

length_parts : (done : List SlaveState) (s : SlaveState) (rest : List SlaveState)
    → length (done ++ s ∷ rest) ≡ length done + suc (length rest)
length_parts done s rest = length-append done (s ∷ rest)

length_done : (done : List SlaveState) (w : SlaveState)
    → length (map step done ++ step w ∷ []) ≡ length done + 1
length_done done w =
    length-append (map step done) (step w ∷ []) ∙ ap (λ (n : ℕ). n + 1) (length-map done step)

-- ---- the count

-- the ring behind a broadcast read, and what it tells
record IsTold (r : RingState) (told count : Result ℕ MasterFault) (later : RingState) : Type 0 where
  count_is : count ≡ told
  ring : later ≡ stepped r

told_by_count : (r : RingState) (told count : Result ℕ MasterFault) (later : RingState)
    → Counts (line_of r) told (travelled (calm r.links) (status_broadcast ∷ []) (line_of r))
    → IsCounted RingTrips r count later → IsTold r told count later
told_by_count r told count later counts counting = record {
  count_is = counting.tells ∙ counts.tells counting.answer
      (subst (λ (x : Result Came PortFault). Brings status_broadcast x counting.answer) counting.asks.made.0
      counting.asks.brings);
  ring = counting.asks.made.1
      ∙ ap (λ (cs : List ControllerState). stepped (with_line r cs)) counts.left
      ∙ ap (λ (ss : List SlaveState). stepped (record r { slaves = ss }))
      (with_controllers-controllers r.slaves);
}

whole_told : (r : RingState) (count : Result ℕ MasterFault) (later : RingState) → HasSlaves r
    → AreUp r.links 0 (length r.slaves) → IsCounted RingTrips r count later
    → IsTold r (counted false (length r.slaves)) count later
whole_told r count later has up counting =
    let size : length (line_of r) ≡ length r.slaves = length-controllers r.slaves in
    let limit : length r.slaves ≤ 256 = has.limit in
    told_by_count r (counted false (length r.slaves)) count later
    (subst (λ (n : ℕ). Counts (line_of r) (counted false n)
    (travelled (calm r.links) (status_broadcast ∷ []) (line_of r))) size
    (whole_counts r.links (line_of r) (subst (λ (n : ℕ). AreUp r.links 0 n) (sym size) up)
    (have_controllers r.slaves has.each) (omega (arith, limit, size))))
    counting

broken_told : (r : RingState) (count : Result ℕ MasterFault) (later : RingState) → HasSlaves r
    → SomeDown r.links (length r.slaves) → IsCounted RingTrips r count later
    → IsTold r (Err Broken) count later
broken_told r count later has down counting =
    let size : length (line_of r) ≡ length r.slaves = length-controllers r.slaves in
    let limit : length r.slaves ≤ 256 = has.limit in
    told_by_count r (Err Broken) count later
    (broken_counts r.links (line_of r) (subst (λ (n : ℕ). SomeDown r.links n) (sym size) down)
    (have_controllers r.slaves has.each) (omega (arith, limit, size)))
    counting

-- ---- one write

-- copies that are no strangers are joined, and a write that one slave took decides nothing
undecided : (place station adp : ℕ) (answer : Answer) → adp < 65536
    → Brings (station_write place station)
    (Ok (record {
      a = Some (write_at adp station 1 ∷ []);
      b = Some (station_write place station ∷ []);
    })) answer
    → write_decides {A = ℕ} answer ≡ Ok None
undecided place station adp (Err fault) small brings =
    let d : DatagramRecord = station_write place station in
    let address : (adp + 65536 * 16) / 65536 ≡ (adp_of_place place + 65536 * 16) / 65536 =
    omega (arith, small) in
    absurd (own_no_fault (d ∷ []) (write_at adp station 1 ∷ []) (d ∷ [])
    (own_alone d (write_at adp station 1) refl refl refl address) (own_alone d d refl refl refl refl)
    brings.1.1 brings.1.2)
undecided place station adp (Ok back) small brings =
    ap (λ (f : List DatagramRecord). first_fitting {R = Result (Option ℕ) MasterFault}
    ((eqb (nth f 0).counter 0, Err NoSlave)
    ∷ (ltb 1 (nth f 0).counter, Err BadAnswer)
    ∷ []) (Ok None)) brings.1.2

-- the slave at the place has its address, and each takes its step
record IsGiven (links : Links) (station : ℕ) (before : List SlaveState) (s : SlaveState)
    (behind : List SlaveState) (answer : Answer) (later : RingState) : Type 0 where
  goes_on : write_decides {A = ℕ} answer ≡ Ok None
  ring : later ≡ ring_of links (map step (before ++ with_station station s ∷ behind))

given_trip : (links : Links) (station : ℕ) (before : List SlaveState) (s : SlaveState)
    (behind : List SlaveState) → AreUp links 0 (length (before ++ s ∷ behind))
    → AreSlaves (before ++ s ∷ behind) → length (before ++ s ∷ behind) ≤ 256
    → travelled (calm links) (station_write (length before) station ∷ [])
    (controllers (before ++ s ∷ behind))
    ≡ record {
      came = record {
        a = Some (write_at (1 + length behind) station 1 ∷ []);
        b = Some (station_write (length before) station ∷ []);
      };
      line = controllers before ++ restationed s.controller station ∷ controllers behind;
    }
given_trip links station before s behind up all limit =
    let line : List ControllerState = controllers before ++ s.controller ∷ controllers behind in
    let later : List ControllerState =
    controllers before ++ restationed s.controller station ∷ controllers behind in
    let is : controllers (before ++ s ∷ behind) ≡ line = controllers-of before s behind in
    let line_size : length line ≡ length (before ++ s ∷ behind) =
    ap (λ (xs : List ControllerState). length xs) (sym is) ∙ length-controllers (before ++ s ∷ behind) in
    let parts : length (before ++ s ∷ behind) ≡ length before + suc (length behind) =
    length_parts before s behind in
    let front : length (controllers before) ≡ length before = length-controllers before in
    let rear : length (controllers behind) ≡ length behind = length-controllers behind in
    let one : length line ≡ length (controllers before) + suc (length (controllers behind)) =
    length-append (controllers before) (s.controller ∷ controllers behind) in
    let other : length later ≡ length (controllers before) + suc (length (controllers behind)) =
    length-append (controllers before) (restationed s.controller station ∷ controllers behind) in
    ap (λ (xs : List ControllerState).
    travelled (calm links) (station_write (length before) station ∷ []) xs) is
    ∙ ap (λ (n : ℕ). travelled (calm links) (station_write n station ∷ []) line) (sym front)
    ∙ whole_trip links (station_write (length (controllers before)) station)
    (write_at (1 + length (controllers behind)) station 1) line later
    (subst (λ (n : ℕ). AreUp links 0 n) (sym line_size) up) refl
    (placed_line (controllers before) s.controller (controllers behind) station
    (subst (λ (xs : List ControllerState). AllByRecursion IsController xs) is
    (have_controllers (before ++ s ∷ behind) all))
    (omega (arith, limit, parts, front, rear)))
    (other ∙ sym one)
    ∙ ap (λ (n : ℕ). record {
      came = record {
        a = Some (write_at (1 + length (controllers behind)) station 1 ∷ []);
        b = Some (station_write n station ∷ []);
      };
      line = later;
    }) front
    ∙ ap (λ (n : ℕ). record {
      came = record {
        a = Some (write_at (1 + n) station 1 ∷ []);
        b = Some (station_write (length before) station ∷ []);
      };
      line = later;
    }) rear

given : (links : Links) (station : ℕ) (before : List SlaveState) (s : SlaveState) (behind : List SlaveState)
    (answer : Answer) (later : RingState) → AreUp links 0 (length (before ++ s ∷ behind))
    → AreSlaves (before ++ s ∷ behind) → length (before ++ s ∷ behind) ≤ 256
    → Asks RingTrips (ring_of links (before ++ s ∷ behind)) (station_write (length before) station) answer
    later
    → IsGiven links station before s behind answer later
given links station before s behind answer later up all limit asks =
    let r : RingState = ring_of links (before ++ s ∷ behind) in
    let d : DatagramRecord = station_write (length before) station in
    let trip = given_trip links station before s behind up all limit in
    let parts : length (before ++ s ∷ behind) ≡ length before + suc (length behind) =
    length_parts before s behind in
    record {
      goes_on = undecided (length before) station (1 + length behind) answer (omega (arith, limit, parts))
          (subst (λ (x : Result Came PortFault). Brings d x answer)
          (asks.made.0 ∙ ap (λ (t : Travelled). Ok t.came) trip) asks.brings);
      ring = asks.made.1
          ∙ ap (λ (t : Travelled). stepped (with_line r t.line)) trip
          ∙ ap (λ (ss : List SlaveState). stepped (ring_of links ss))
          (one_changed before s behind (restationed s.controller station));
    }

-- ---- write after write

-- what the writes come to
record AreGiven (links : Links) (slaves : List SlaveState) (total result : Result ℕ MasterFault)
    (later : RingState) : Type 0 where
  result_is : result ≡ total
  ring : later ≡ ring_of links slaves

writes_done : (links : Links) (rest done : List SlaveState) (place station : ℕ)
    (total result : Result ℕ MasterFault) (later : RingState) → length done ≡ place
    → AreUp links 0 (place + length rest) → place + length rest ≤ 256 → AreSlaves done → AreSlaves rest
    → Talks RingTrips (ring_of links (done ++ map (steps (place + 1)) rest))
    (station_writes place station (length rest)) total result later
    → AreGiven links (map (steps (length rest)) done ++ assigned_from place station rest) total result later
unfolding Talks assigned_from
writes_done links [] done place station total result later at up limit done_are rest_are talk = record {
  result_is = talk.0;
  ring = talk.1 ∙ ap (λ (xs : List SlaveState). ring_of links (xs ++ [])) (sym (no_steps done));
}
writes_done links (x ∷ rest) done place station total result later at up limit done_are rest_are talk =
    let s : SlaveState = steps (place + 1) x in
    let behind : List SlaveState = map (steps (place + 1)) rest in
    let w : SlaveState = with_station station s in
    let r : RingState = ring_of links (done ++ s ∷ behind) in
    let next : List SlaveState = map step done ++ step w ∷ [] in
    let first : IsBegun RingTrips r (write (station_write place station))
    (station_writes (place + 1) (station + 1) (length rest)) total result later =
    begun RingTrips r (write (station_write place station))
    (station_writes (place + 1) (station + 1) (length rest)) total result later talk in
    let all : AreSlaves (done ++ s ∷ behind) =
    each-append IsSlave done (s ∷ behind) done_are
    (steps_slave (place + 1) x rest_are.0, each_steps (place + 1) rest rest_are.1) in
    let size : length (done ++ s ∷ behind) ≡ place + length (x ∷ rest) =
    length_parts done s behind
    ∙ ap (λ (n : ℕ). n + suc (length behind)) at
    ∙ ap (λ (n : ℕ). place + suc n) (length-map rest (steps (place + 1))) in
    let given_is : IsGiven links station done s behind first.answer first.between =
    given links station done s behind first.answer first.between
    (subst (λ (n : ℕ). AreUp links 0 n) (sym size) up) all (omega (arith, size, limit))
    (subst (λ (n : ℕ). Asks RingTrips r (station_write n station) first.answer first.between) (sym at)
    first.asks) in
    let becomes : first.between ≡ ring_of links (next ++ map (steps (place + 1 + 1)) rest) =
    given_is.ring
    ∙ ap (λ (ss : List SlaveState). ring_of links ss) (stepped_parts done w behind)
    ∙ ap (λ (ss : List SlaveState). ring_of links (next ++ ss)) (more_steps (place + 1) rest) in
    let count : place + 1 + length rest ≡ place + length (x ∷ rest) = omega arith in
    let others : AreGiven links
    (map (steps (length rest)) next ++ assigned_from (place + 1) (station + 1) rest) total result later =
    writes_done links rest next (place + 1) (station + 1) total result later
    (length_done done w ∙ ap (λ (n : ℕ). n + 1) at)
    (subst (λ (n : ℕ). AreUp links 0 n) (sym count) up) (omega (arith, limit))
    (each-append IsSlave (map step done) (step w ∷ []) (each_step done done_are)
    (step_slave w (station_slave station s (steps_slave (place + 1) x rest_are.0)), tt))
    rest_are.1
    (subst (λ (y : RingState).
    Talks RingTrips y (station_writes (place + 1) (station + 1) (length rest)) total result later) becomes
    (goes_on RingTrips r (write (station_write place station))
    (station_writes (place + 1) (station + 1) (length rest)) total result later first given_is.goes_on)) in
    record {
      result_is = others.result_is;
      ring = others.ring
          ∙ ap (λ (ss : List SlaveState). ring_of links ss)
          (finished_parts (length rest) done w (assigned_from (place + 1) (station + 1) rest));
    }

-- ---- the service

-- what it comes to
pub record ComesTo (expected result : Result ℕ MasterFault) (slaves : List SlaveState) (r later : RingState)
    : Type 0 where
  pub result_is : result ≡ expected
  pub ring : later ≡ record r { slaves = slaves }

-- nothing is written where counting failed
not_counted : (first : ℕ) (r : RingState) (fault : MasterFault) (count result : Result ℕ MasterFault)
    (between later : RingState) → IsTold r (Err fault) count between
    → ThenAssigns RingTrips between first count result later
    → ComesTo (Err fault) result (map step r.slaves) r later
not_counted first r fault count result between later told writing =
    let left : ThenAssigns RingTrips between first (Err fault) result later =
    subst (λ (c : Result ℕ MasterFault). ThenAssigns RingTrips between first c result later) told.count_is
    writing in
    record { result_is = left.0; ring = left.1 ∙ told.ring }

-- with a link down
pub broken_left : (first : ℕ) (r : RingState) (result : Result ℕ MasterFault) (later : RingState)
    → HasSlaves r → SomeDown r.links (length r.slaves) → AreAssigned RingTrips r first result later
    → ComesTo (Err Broken) result (map step r.slaves) r later
broken_left first r result later has down talk =
    not_counted first r Broken talk.count result talk.between later
    (broken_told r talk.count talk.between has down talk.counting) talk.writing

-- with all links up
pub all_assigned : (first : ℕ) (r : RingState) (result : Result ℕ MasterFault) (later : RingState)
    → HasSlaves r → 1 ≤ length r.slaves → AreUp r.links 0 (length r.slaves)
    → AreAssigned RingTrips r first result later
    → ComesTo (Ok (length r.slaves)) result (assigned first r.slaves) r later
all_assigned first r result later has some up talk =
    let n : ℕ = length r.slaves in
    let limit : n ≤ 256 = has.limit in
    let told : IsTold r (counted false n) talk.count talk.between =
    whole_told r talk.count talk.between has up talk.counting in
    let count_is : talk.count ≡ Ok n = told.count_is ∙ counted_some n some limit in
    let ring : talk.between ≡ ring_of r.links (map (steps (0 + 1)) r.slaves) =
    told.ring ∙ ap (λ (ss : List SlaveState). ring_of r.links ss) (first_steps r.slaves) in
    let same : 0 + n ≡ n = omega arith in
    let done : AreGiven r.links (map (steps n) [] ++ assigned_from 0 first r.slaves) (Ok n) result later =
    writes_done r.links r.slaves [] 0 first (Ok n) result later refl
    (subst (λ (m : ℕ). AreUp r.links 0 m) (sym same) up) (omega (arith, limit)) tt has.each
    (subst (λ (y : RingState). Talks RingTrips y (station_writes 0 first n) (Ok n) result later) ring
    (subst (λ (c : Result ℕ MasterFault). ThenAssigns RingTrips talk.between first c result later) count_is
    talk.writing)) in
    record { result_is = done.result_is; ring = done.ring }

-- a ring of no slave
pub none_counted : (first : ℕ) (r : RingState) (result : Result ℕ MasterFault) (later : RingState)
    → r.slaves ≡ [] → AreUp r.links 0 (length r.slaves) → AreAssigned RingTrips r first result later
    → ComesTo (Err NoSlave) result r.slaves r later
none_counted first r result later none up talk =
    let has : HasSlaves r = record {
      limit = let size : length r.slaves ≡ 0 = ap (λ (ss : List SlaveState). length ss) none in
          let few : length r.slaves ≤ 256 = omega (arith, size) in few;
      each = subst (λ (ss : List SlaveState). AreSlaves ss) (sym none) tt;
    } in
    let told : IsTold r (counted false (length r.slaves)) talk.count talk.between =
    whole_told r talk.count talk.between has up talk.counting in
    let nobody : IsTold r (Err NoSlave) talk.count talk.between =
    record {
      count_is = told.count_is ∙ ap (λ (ss : List SlaveState). counted false (length ss)) none;
      ring = told.ring;
    } in
    let comes : ComesTo (Err NoSlave) result (map step r.slaves) r later =
    not_counted first r NoSlave talk.count result talk.between later nobody talk.writing in
    record {
      result_is = comes.result_is;
      ring = comes.ring
          ∙ ap (λ (ss : List SlaveState). record r { slaves = map step ss }) none
          ∙ ap (λ (ss : List SlaveState). record r { slaves = ss }) (sym none);
    }

-- ---- the addresses then

stations_from : (place station : ℕ) (ss : List SlaveState) → AreSlaves ss → station + length ss ≤ 65536
    → map station_of (assigned_from place station ss) ≡ range_with_len station (length ss)
unfolding assigned_from
stations_from place station [] all small = refl
stations_from place station (s ∷ ss) all small =
    let x : SlaveState = steps (place + 1) s in
    let is : IsSlave x = steps_slave (place + 1) s all.0 in
    ap (λ (n : ℕ). n ∷ map station_of (assigned_from (place + 1) (station + 1) ss))
    (steps_station (suc (length ss)) (with_station station x) (station_slave station x is)
    ∙ station_given station x is (omega (arith, small)))
    ∙ ap (λ (ns : List ℕ). station ∷ ns)
    (stations_from (place + 1) (station + 1) ss all.1 (omega (arith, small)))

pub stations_rise : (first : ℕ) (r : RingState) → HasSlaves r → first ≤ 65000
    → map station_of (assigned first r.slaves) ≡ range_with_len first (length r.slaves)
stations_rise first r has low =
    let limit : length r.slaves ≤ 256 = has.limit in
    stations_from 0 first r.slaves has.each (omega (arith, low, limit))
