-- Registers of the slave that alone has a station are written and read over a ring: the write is counted
-- once, and a read brings what they hold.
use Rattle.std.proofs.Common.{◌≡◌, ℕ, ◌+◌, ◌<◌, ◌≤◌, Bool, true, false, eqb, ltb, not, List, []}
use Rattle.std.proofs.Common.{◌∷◌, ◌++◌, length, map, take, drop, None, Result, Option, Ok, Err, refl}
use Rattle.std.proofs.Common.{sym, ap, ◌∙◌, arith, subst, inl, ⊎_elim, replicate}
use Rattle.std.specs.Prelude.{nat_eq}
use Rattle.std.specs.Cmp.Lexicographic.{other_text, pointwise}
use Rattle.std.proofs.lemmas.Bool.{cases_Bool}
use Rattle.std.proofs.lemmas.List.{ext_get_or}
use Rattle.ec_regs.specs.Bits.{AreBytes}
use Rattle.ec_regs.specs.declared.registers.TheConstants.{PROCESS_MEMORY, STATION_ADDRESS}
use Rattle.ec_regs.proofs.Laws.{get_or-run}
use Rattle.ec_wire.specs.Datagram.{DatagramRecord, address_of, ado_of, adp_of, nth}
use Rattle.ec_wire.specs.declared.command.Command.TheVariants.{Fprd, Fpwr}
use Rattle.ec_esc.specs.Pass.{Passed, pass}
use Rattle.ec_esc.specs.State.{ControllerState, IsController, word_at}
use Rattle.ec_app.specs.Lending.{with_controller}
use Rattle.ec_app.specs.Slave.{step}
use Rattle.ec_app.specs.State.{SlaveState}
use Rattle.ec_app.specs.Table.{first_fitting}
use Rattle.ec_ring.specs.Ring.{RingState, stepped}
use Rattle.ec_master.specs.RingTrips.{RingTrips}
use Rattle.ec_services.specs.Ask.{Answer, Asks, write_decides}
use Rattle.ec_services.specs.declared.fault.MasterFault.{MasterFault}
use Rattle.ec_services.specs.declared.fault.MasterFault.TheVariants.{BadAnswer, NoSlave}
use Rattle.ec_run.specs.Step.{holds, holds_decides, register_write}
use Rattle.ec_over_ring.specs.Brought.{ReachesAll}
use Rattle.ec_over_ring.specs.Question.{ReachesOne, Tells, after_question}
use Rattle.ec_over_ring.specs.Started.{Holds}
use Rattle.ec_over_ring.specs.States.{HasStation}
use Rattle.ec_over_ring.specs.Transfers.{IsSlave}
use Rattle.ec_over_ring.proofs.BroughtLemmas.{has_one}
use Rattle.ec_over_ring.proofs.QuestionLemmas.{asked_alone}
use Rattle.ec_over_ring.proofs.RegisterLemmas.{registers_read, run_size}
use Rattle.ec_over_ring.proofs.SparedLemmas.{HasSuch, IsSparing, IsSuch, pass_spares, such_between, such_one}
use Rattle.ec_over_ring.proofs.StateLemmas.{write_goes_on, zeros}
use Rattle.ec_over_ring.proofs.StationLemmas.{AreParts, ado_is, map_parts, meant, others_step, parts_of}
use Rattle.ec_over_ring.proofs.StationLemmas.{reaches}
use Rattle.ec_over_ring.proofs.StationLemmas.{station_stays}
use Rattle.ec_over_ring.proofs.TransferLemmas.{AreSlaves, one_of}
use Rattle.ec_over_ring.proofs.TripKeepsLemmas.{passed_controller}
use Rattle.ec_over_ring.proofs.WrittenLemmas.{CanWrite, range_counted}

-- ---- a write

-- the answer decides nothing, and this holds then of the slave with the station
pub record IsPut (Q : SlaveState → Type 0) (station : ℕ) (answer : Answer) (later : RingState) : Type 0 where
  pub undecided : write_decides {A = Unit {0}} answer ≡ Ok None
  pub such : HasSuch Q station later.slaves

-- what the write makes of the slave that is meant
abbrev pub Makes : (P Q : SlaveState → Type 0) → ℕ → ℕ → List ℕ → Type 0
Makes P Q station at bytes =
    (s : SlaveState) → IsSlave s → P s
    → eqb (adp_of (address_of station at)) (word_at s.controller.memory STATION_ADDRESS) ≡ true
    → IsSlave (after_question (register_write station at bytes) s)
    → Q (step (after_question (register_write station at bytes) s))

one_put : (station at : ℕ) (bytes : List ℕ) (P Q : SlaveState → Type 0) (r later : RingState)
    (before : List SlaveState) (s : SlaveState) (behind : List SlaveState) (answer : Answer) → ReachesAll r
    → HasStation station r before s behind → AreBytes bytes → 18 ≤ at → P s
    → CanWrite s.controller.memory at (length bytes) → Makes P Q station at bytes
    → Asks RingTrips r (register_write station at bytes) answer later
    → IsPut Q station answer later
one_put station at bytes P Q r later before s behind answer ring has are above such can makes asks =
    let d : DatagramRecord = register_write station at bytes in
    let t : SlaveState = after_question d s in
    let parts : AreParts before s behind = parts_of station r before s behind has in
    let all : AreSlaves (before ++ s ∷ behind) = subst AreSlaves has.slaves ring.slaves.each in
    let own : IsSlave s = one_of before s behind all in
    let reach : ReachesOne d r before s behind =
    reaches station at Fpwr bytes r before s behind has refl are in
    let comes = asked_alone d r before behind s answer later reach.asked reach.alone reach.down asks in
    let place : ado_of d.address ≡ at = ado_is station at has.address in
    let spares : IsSparing d.address (length bytes) s.controller t.controller =
    pass_spares s.controller d refl parts.own (record {
      low = record {
        register = omega arith;
        beside = inl (omega (arith, above, place));
        no_status = λ i is. absurd (omega (arith, is));
      };
      high = record {
        register = omega arith;
        beside = inl (omega (arith, above, place));
        no_status = λ i is. absurd (omega (arith, is));
      };
    }) in
    let taken : IsSlave t =
    record { controller = passed_controller s.controller d parts.own; values = own.values } in
    record {
      undecided = write_goes_on (pass s.controller d).datagram answer
          (range_counted s.controller d.address at bytes (meant station at r before s behind has) place can)
          comes.0;
      such = subst (λ (x : RingState). HasSuch Q station x.slaves) (sym comes.1)
          (subst (λ (ss : List SlaveState). HasSuch Q station ss) (sym (map_parts before t behind))
          (such_between Q station (map step before) (step t) (map step behind)
          (others_step station before has.others_before parts.first)
          (station_stays t taken.controller.memory_size ∙ spares.station ∙ has.station_is)
          (makes s own such (meant station at r before s behind has) taken)
          (others_step station behind has.others_behind parts.last)));
    }

pub put_over : (station at : ℕ) (bytes : List ℕ) (P Q : SlaveState → Type 0) (r later : RingState)
    (answer : Answer) → ReachesAll r → station < 65536 → AreBytes bytes → 18 ≤ at
    → ((s : SlaveState) → P s → CanWrite s.controller.memory at (length bytes))
    → Makes P Q station at bytes → HasSuch P station r.slaves
    → Asks RingTrips r (register_write station at bytes) answer later
    → IsPut Q station answer later
put_over station at bytes P Q r later answer ring address are above can makes has asks =
    let is : IsSuch P station r.slaves = such_one P station r.slaves has in
    one_put station at bytes P Q r later is.one.before is.one.slave is.one.behind answer ring
    (has_one station r ring address is.one) are above is.such (can is.one.slave is.such) makes asks

-- ---- a read

text_same : (xs : List ℕ) → pointwise nat_eq xs xs ≡ true
text_same xs =
    ⊎_elim (λ (same : pointwise nat_eq xs xs ≡ true). same)
    (λ (other : pointwise nat_eq xs xs ≡ false). absurd (other_text xs xs (sym other) refl))
    (cases_Bool (pointwise nat_eq xs xs))

-- a read that is counted once and brings these bytes decides nothing
held_goes_on : (bytes : List ℕ) (told : DatagramRecord) (answer : Answer) → told.counter ≡ 1
    → told.payload ≡ bytes → Tells told answer → holds_decides bytes answer ≡ Ok None
held_goes_on bytes told (Err fault) one payload tells = absurd tells
held_goes_on bytes told (Ok back) one payload tells =
    let read : List ℕ = (nth back.joined 0).payload in
    ap (λ (n : ℕ). first_fitting {R = Result (Option (Unit {0})) MasterFault}
    ((eqb n 0, Err NoSlave)
    ∷ (ltb 1 n, Err BadAnswer)
    ∷ (not (pointwise nat_eq read bytes), Err BadAnswer)
    ∷ []) (Ok None)) (tells.counter ∙ one)
    ∙ ap (λ (b : Bool). first_fitting {R = Result (Option (Unit {0})) MasterFault}
    ((not b, Err BadAnswer) ∷ []) (Ok None))
    (ap (λ (xs : List ℕ). pointwise nat_eq xs bytes) (tells.payload ∙ payload) ∙ text_same bytes)

-- the answer decides nothing, and each slave took its step
pub record IsReadBack (bytes : List ℕ) (r : RingState) (answer : Answer) (later : RingState) : Type 0 where
  pub undecided : holds_decides bytes answer ≡ Ok None
  pub ring : later ≡ stepped r

one_read : (station at : ℕ) (bytes : List ℕ) (r later : RingState) (before : List SlaveState) (s : SlaveState)
    (behind : List SlaveState) (answer : Answer) → HasStation station r before s behind → 1 ≤ length bytes
    → at + length bytes ≤ PROCESS_MEMORY → Holds s.controller.memory at bytes
    → Asks RingTrips r (holds station at bytes).sent answer later
    → IsReadBack bytes r answer later
one_read station at bytes r later before s behind answer has some inside held asks =
    let d : DatagramRecord = (holds station at bytes).sent in
    let n : ℕ = length bytes in
    let m : List ℕ = s.controller.memory in
    let own : IsController s.controller = (parts_of station r before s behind has).own in
    let memory : length m ≡ 12288 = own.memory_size in
    let reach : ReachesOne d r before s behind =
    reaches station at Fprd (replicate n 0) r before s behind has refl (zeros n) in
    let comes = asked_alone d r before behind s answer later reach.asked reach.alone reach.down asks in
    let passed = registers_read s.controller (address_of station at) at n own
    (meant station at r before s behind has) (ado_is station at has.address) some inside in
    let size : length (take n (drop at m)) ≡ n = run_size m at n (omega (arith, memory, inside)) in
    let told : take n (drop at m) ≡ bytes =
    ext_get_or 0 (take n (drop at m)) bytes size
    (λ k below.
    let low : k < n = omega (arith, below, size) in get_or-run m at n k low ∙ held k low) in
    record {
      undecided = held_goes_on bytes (pass s.controller d).datagram answer
          (ap (λ (p : Passed). p.datagram.counter) passed)
          (ap (λ (p : Passed). p.datagram.payload) passed ∙ told) comes.0;
      ring = comes.1
          ∙ ap (λ (c : ControllerState).
          stepped (record r { slaves = before ++ with_controller s c ∷ behind }))
          (ap (λ (p : Passed). p.state) passed)
          ∙ ap (λ (ss : List SlaveState). stepped (record r { slaves = ss })) (sym has.slaves);
    }

pub read_over : (station at : ℕ) (bytes : List ℕ) (r later : RingState) (answer : Answer) → ReachesAll r
    → station < 65536 → 1 ≤ length bytes → at + length bytes ≤ PROCESS_MEMORY
    → HasSuch (λ (s : SlaveState). Holds s.controller.memory at bytes) station r.slaves
    → Asks RingTrips r (holds station at bytes).sent answer later
    → IsReadBack bytes r answer later
read_over station at bytes r later answer ring address some inside has asks =
    let P : SlaveState → Type 0 = λ (s : SlaveState). Holds s.controller.memory at bytes in
    let is : IsSuch P station r.slaves = such_one P station r.slaves has in
    one_read station at bytes r later is.one.before is.one.slave is.one.behind answer
    (has_one station r ring address is.one) some inside is.such asks
