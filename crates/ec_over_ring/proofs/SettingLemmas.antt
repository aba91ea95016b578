-- Steps that set records and ask for states: which registers each of them reaches, what stands behind it, and
-- what it leaves.
use Rattle.std.proofs.Common.{◌≡◌, ℕ, zero, suc, ◌+◌, ◌*◌, ◌%◌, ◌<◌, ◌≤◌, Bool, true, false, cond}
use Rattle.std.proofs.Common.{eqb, ltb, not, List, [], ◌∷◌, length, take}
use Rattle.std.proofs.Common.{get_or, Option, None, Some, Result, Ok, Err, refl, sym, arith, subst}
use Rattle.std.proofs.Common.{inl, inr, replicate, true≢false}
use Rattle.std.specs.Prelude.{◌≢◌, ◌⊎◌, nat_eq, slice_get}
use Rattle.std.specs.Cmp.Lexicographic.{pointwise}
use Rattle.std.specs.List.{AllByRecursion}
use Rattle.std.proofs.lemmas.List.{length-replicate}
use Rattle.ec_regs.specs.Fmmu.{fmmu_bytes}
use Rattle.ec_regs.specs.SyncMan.{sync_man_bytes}
use Rattle.ec_regs.specs.declared.al.AlState.{AlState}
use Rattle.ec_regs.specs.declared.fmmu.Fmmu.{Fmmu}
use Rattle.ec_regs.specs.declared.sync_man.SyncMan.{SyncMan}
use Rattle.ec_wire.specs.Command.{addressing}
use Rattle.ec_wire.specs.Datagram.{DatagramRecord, nth}
use Rattle.ec_wire.specs.declared.command.Addressing.TheVariants.{ConfiguredStation}
use Rattle.ec_wire.specs.declared.command.Command.{Command}
use Rattle.ec_wire.specs.declared.command.Command.TheVariants.{Fprd, Fpwr}
use Rattle.ec_wire.specs.Datagram.{address_of}
use Rattle.ec_app.specs.State.{SlaveState}
use Rattle.ec_ring.specs.Ring.{RingState}
use Rattle.ec_master.specs.RingTrips.{RingTrips}
use Rattle.ec_services.specs.Ask.{Answer, Question, Talks, request, write}
use Rattle.ec_services.specs.States.{IsRequested, control_write, status_question}
use Rattle.ec_services.specs.declared.fault.MasterFault.{MasterFault}
use Rattle.ec_services.specs.declared.fault.MasterFault.TheVariants.{BadAnswer, NoAnswer, NoSlave}
use Rattle.ec_run.specs.Phase.{AreDone}
use Rattle.ec_run.specs.Step.{IsDone, IsTried, SetsFmmu, SetsManager, fmmu_number, fmmu_talk, holds}
use Rattle.ec_run.specs.Step.{holds_decides, is_answered, manager_number, manager_talk}
use Rattle.ec_run.specs.Travels.{trips_of}
use Rattle.ec_run.specs.declared.phase.StepFault.{StepFault}
use Rattle.ec_run.specs.declared.step.Step.{Step}
use Rattle.ec_run.specs.declared.step.Step.TheVariants.{Station, StationBehind, StationBefore, Startup}
use Rattle.ec_run.specs.declared.step.Step.TheVariants.{SyncManager, Fmmu as FmmuRecord, State}
use Rattle.ec_run.specs.declared.wanted.Wanted.{Wanted}
use Rattle.ec_run.proofs.Laws.{done_within, tried_within}
use Rattle.ec_over_ring.specs.Brought.{IsAloneIn, ReachesAll}
use Rattle.ec_over_ring.specs.Started.{Holds, HoldsFmmu, HoldsManager, HoldsSet, IsWanted}
use Rattle.ec_over_ring.proofs.BroughtLemmas.{entered, write_goes_on}
use Rattle.ec_over_ring.proofs.RecordsLemmas.{AreApart, AreRegisters, IsInRange, Leaves, held_stays}
use Rattle.ec_over_ring.proofs.RecordsLemmas.{read_holds, spares_station, talk_leaves}
use Rattle.ec_over_ring.proofs.SparedLemmas.{HasSuch, IsFollowed, such_between, such_both}
use Rattle.ec_over_ring.proofs.StationLemmas.{adp_is, ado_is, station_of}
use Rattle.ec_over_ring.proofs.TalkLemmas.{IsBegun, Rest, begun, goes_on}
use Rattle.ec_over_ring.proofs.TripKeepsLemmas.{trip_keeps, within_keeps}

-- ---- what a step reaches

-- it sets a record or asks for a state
unfoldable pub is_setting : Step → Bool
is_setting (SyncManager n) = true
is_setting (FmmuRecord n) = true
is_setting (State state) = true
is_setting Station = false
is_setting (StationBehind first) = false
is_setting StationBefore = false
is_setting (Startup n) = false

-- the registers from one on and below another
unfoldable pub begins : Step → ℕ
begins (SyncManager n) = 2048 + 8 * manager_number n
begins (FmmuRecord n) = 1536 + 16 * fmmu_number n
begins (State state) = 288
begins Station = 0
begins (StationBehind first) = 0
begins StationBefore = 0
begins (Startup n) = 0

unfoldable pub ends : Step → ℕ
ends (SyncManager n) = 2048 + 8 * manager_number n + 8
ends (FmmuRecord n) = 1536 + 16 * fmmu_number n + 16
ends (State state) = 310
ends Station = 0
ends (StationBehind first) = 0
ends StationBefore = 0
ends (Startup n) = 0

pub begins_high : (y : Step) → is_setting y ≡ true → 18 ≤ begins y
unfolding is_setting begins
begins_high (SyncManager n) sets = omega arith
begins_high (FmmuRecord n) sets = omega arith
begins_high (State state) sets = omega arith
begins_high Station sets = absurd (true≢false (sym sets))
begins_high (StationBehind first) sets = absurd (true≢false (sym sets))
begins_high StationBefore sets = absurd (true≢false (sym sets))
begins_high (Startup n) sets = absurd (true≢false (sym sets))

-- a datagram to registers between two addresses
in_range : (station low high ado : ℕ) (command : Command) (payload : List ℕ)
    → addressing command ≡ ConfiguredStation → station < 65536 → low ≤ ado → ado + length payload ≤ high
    → IsInRange station low high (request command (address_of station ado) payload)
in_range station low high ado command payload by_station address from to =
    let place = ado_is station ado address in
    record {
      by_station = by_station;
      named = adp_is station ado address;
      from = omega (arith, from, place);
      to = omega (arith, to, place);
    }

AreInRange : ℕ → ℕ → ℕ → List (Question (Unit {0})) → Type 0
AreInRange station low high qs =
    AllByRecursion (λ (q : Question (Unit {0})). IsInRange station low high q.sent) qs

manager_reaches : (station n : ℕ) (s : SyncMan) → station < 65536
    → AreInRange station (2048 + 8 * n) (2048 + 8 * n + 8) (manager_talk station n (sync_man_bytes s))
unfolding AreInRange
manager_reaches station n s address = (
  in_range station _ _ (2048 + 8 * n + 6) Fpwr (0 ∷ []) refl address (omega arith) (omega arith),
  (
    in_range station _ _ (2048 + 8 * n) Fpwr (sync_man_bytes s) refl address (omega arith) (omega arith),
    (
      in_range station _ _ (2048 + 8 * n) Fprd (replicate 5 0) refl address (omega arith) (omega arith),
      (
        in_range station _ _ (2048 + 8 * n + 6) Fprd (0 ∷ []) refl address (omega arith) (omega arith),
        tt,
      ),
    ),
  ),
)

fmmu_reaches : (station n : ℕ) (f : Fmmu) → station < 65536 → length (fmmu_bytes f) ≡ 16
    → AreInRange station (1536 + 16 * n) (1536 + 16 * n + 16) (fmmu_talk station n (fmmu_bytes f))
unfolding AreInRange
fmmu_reaches station n f address size =
    let zero_size : length (replicate (length (fmmu_bytes f)) 0) ≡ length (fmmu_bytes f) =
    length-replicate {A = ℕ} (length (fmmu_bytes f)) 0 in (
      in_range station _ _ (1536 + 16 * n) Fpwr (fmmu_bytes f) refl address (omega arith)
          (omega (arith, size)),
      (
        in_range station _ _ (1536 + 16 * n) Fprd (replicate (length (fmmu_bytes f)) 0) refl address
            (omega arith) (omega (arith, size, zero_size)),
        tt,
      ),
    )

reads_reach : (station limit : ℕ) (state : AlState) → station < 65536
    → AreInRange station 288 310 (replicate limit (status_question station state))
unfolding AreInRange
reads_reach station zero state address = tt
reads_reach station (suc limit) state address = (
  in_range station _ _ 304 Fprd (replicate 6 0) refl address (omega arith) (omega arith),
  reads_reach station limit state address,
)

-- ---- what it leaves

-- all that it sends leaves what holds of a slave
unfoldable pub StepLeaves : (SlaveState → Type 0) → ℕ → ℕ → Step → Type 0
StepLeaves P station other y =
    (d : DatagramRecord) → IsInRange other (begins y) (ends y) d → Leaves P station d

talk_of_range : (P : SlaveState → Type 0) (station other low high : ℕ) (qs : List (Question (Unit {0})))
    → ((d : DatagramRecord) → IsInRange other low high d → Leaves P station d)
    → AreInRange other low high qs
    → AllByRecursion (λ (q : Question (Unit {0})). Leaves P station q.sent) qs
unfolding AreInRange
talk_of_range P station other low high [] leaves are = tt
talk_of_range P station other low high (q ∷ qs) leaves are =
    (leaves q.sent are.0, talk_of_range P station other low high qs leaves are.1)

pub got : (n : ℕ) (fs : List Fmmu) (f : Fmmu) → AllByRecursion (λ (x : Fmmu). length (fmmu_bytes x) ≡ 16) fs
    → slice_get fs n ≡ Some f → length (fmmu_bytes f) ≡ 16
got n [] f all is = absurd (cc)
got zero (x ∷ fs) f all is = subst (λ (o : Option Fmmu). OfSome o) is all.0
  where
    OfSome : Option Fmmu → Type 0
    OfSome None = Unit {0}
    OfSome (Some g) = length (fmmu_bytes g) ≡ 16
got (suc n) (x ∷ fs) f all is = got n fs f all.1 is

talk_keeps : (P : SlaveState → Type 0) (station other low high : ℕ) (qs : List (Question (Unit {0})))
    (undecided result : Result (Unit {0}) MasterFault) (r later : RingState) → ReachesAll r
    → ((d : DatagramRecord) → IsInRange other low high d → Leaves P station d)
    → AreInRange other low high qs → Talks RingTrips r qs undecided result later
    → HasSuch P station r.slaves → HasSuch P station later.slaves
talk_keeps P station other low high qs undecided result r later ring leaves are talk has =
    talk_leaves P station qs undecided result r later ring
    (talk_of_range P station other low high qs leaves are) talk has

manager_keeps : (P : SlaveState → Type 0) (station other n : ℕ) (o : Option SyncMan)
    (result : Result (Unit {0}) MasterFault) (r later : RingState) → ReachesAll r → other < 65536
    → ((d : DatagramRecord) → IsInRange other (2048 + 8 * n) (2048 + 8 * n + 8) d → Leaves P station d)
    → SetsManager RingTrips r other n o result later → HasSuch P station r.slaves
    → HasSuch P station later.slaves
manager_keeps P station other n None result r later ring address leaves sets has = absurd sets
manager_keeps P station other n (Some s) result r later ring address leaves sets has =
    talk_keeps P station other (2048 + 8 * n) (2048 + 8 * n + 8) (manager_talk other n (sync_man_bytes s))
    (Ok tt) result r later ring leaves (manager_reaches other n s address) sets has

fmmu_keeps : (P : SlaveState → Type 0) (station other n : ℕ) (o : Option Fmmu)
    (result : Result (Unit {0}) MasterFault) (r later : RingState) → ReachesAll r → other < 65536
    → ((f : Fmmu) → o ≡ Some f → length (fmmu_bytes f) ≡ 16)
    → ((d : DatagramRecord) → IsInRange other (1536 + 16 * n) (1536 + 16 * n + 16) d → Leaves P station d)
    → SetsFmmu RingTrips r other n o result later → HasSuch P station r.slaves
    → HasSuch P station later.slaves
fmmu_keeps P station other n None result r later ring address size leaves sets has = absurd sets
fmmu_keeps P station other n (Some f) result r later ring address size leaves sets has =
    talk_keeps P station other (1536 + 16 * n) (1536 + 16 * n + 16) (fmmu_talk other n (fmmu_bytes f))
    (Ok tt) result r later ring leaves (fmmu_reaches other n f address (size f refl)) sets has

state_keeps : (P : SlaveState → Type 0) (station other limit : ℕ) (state : AlState)
    (result : Result (Unit {0}) MasterFault) (r later : RingState) → ReachesAll r → other < 65536
    → ((d : DatagramRecord) → IsInRange other 288 310 d → Leaves P station d)
    → IsRequested RingTrips r other state limit result later → HasSuch P station r.slaves
    → HasSuch P station later.slaves
unfolding AreInRange
state_keeps P station other limit state result r later ring address leaves asked has =
    talk_keeps P station other 288 310
    (write (control_write other state) ∷ replicate limit (status_question other state)) (Err NoAnswer) result
    r later ring leaves (
      in_range other _ _ 288 Fpwr _ refl address (omega arith) (omega arith),
      reads_reach other limit state address,
    )
    asked has

-- a step, whatever comes of it
done_keeps : (P : SlaveState → Type 0) (station place : ℕ) (wanted : Wanted) (y : Step)
    (result : Result (Unit {0}) MasterFault) (r later : RingState) → ReachesAll r → IsWanted wanted
    → is_setting y ≡ true → StepLeaves P station wanted.station y
    → IsDone RingTrips r place wanted y result later → HasSuch P station r.slaves
    → HasSuch P station later.slaves
unfolding is_setting begins ends StepLeaves
done_keeps P station place wanted (SyncManager n) result r later ring is sets leaves done has =
    manager_keeps P station wanted.station (manager_number n) (slice_get wanted.managers (manager_number n))
    result r later ring is.station leaves done has
done_keeps P station place wanted (FmmuRecord n) result r later ring is sets leaves done has =
    fmmu_keeps P station wanted.station (fmmu_number n) (slice_get wanted.fmmus (fmmu_number n)) result r
    later ring is.station (λ f found. got (fmmu_number n) wanted.fmmus f is.fmmus found) leaves done has
done_keeps P station place wanted (State state) result r later ring is sets leaves done has =
    state_keeps P station wanted.station 1000 state result r later ring is.station leaves done has
done_keeps P station place wanted Station result r later ring is sets leaves done has =
    absurd (true≢false (sym sets))
done_keeps P station place wanted (StationBehind first) result r later ring is sets leaves done has =
    absurd (true≢false (sym sets))
done_keeps P station place wanted StationBefore result r later ring is sets leaves done has =
    absurd (true≢false (sym sets))
done_keeps P station place wanted (Startup n) result r later ring is sets leaves done has =
    absurd (true≢false (sym sets))

pub tried_keeps : (P : SlaveState → Type 0) (station more place : ℕ) (wanted : Wanted) (y : Step)
    (result : Result (Unit {0}) MasterFault) (r later : RingState) → ReachesAll r → IsWanted wanted
    → is_setting y ≡ true → StepLeaves P station wanted.station y
    → IsTried RingTrips r place wanted y more result later → HasSuch P station r.slaves
    → HasSuch P station later.slaves
unfolding IsTried
tried_keeps P station zero place wanted y result r later ring is sets leaves done has =
    done_keeps P station place wanted y result r later ring is sets leaves done has
tried_keeps P station (suc more) place wanted y result r later ring is sets leaves
    (first, between, done, rest) has =
    let reached : ReachesAll between =
    within_keeps (trips_of y) r between ring (done_within RingTrips r between place wanted y first done) in
    let now : HasSuch P station between.slaves =
    done_keeps P station place wanted y first r between ring is sets leaves done has in
    keeps_so (is_answered first) rest now (λ again.
    tried_keeps P station more place wanted y result between later reached is sets leaves again now)
  where
    keeps_so : (b : Bool)
        → (elim b as (λ (x : Bool). Type 0) [
          | true ↦ (result ≡ first) × (later ≡ between)
          | false ↦ IsTried RingTrips between place wanted y more result later
        ])
        → HasSuch P station between.slaves
        → (IsTried RingTrips between place wanted y more result later → HasSuch P station later.slaves)
        → HasSuch P station later.slaves
    keeps_so true (same_result, same) now on =
        subst (λ (x : RingState). HasSuch P station x.slaves) (sym same) now
    keeps_so false again now on = on again

-- steps of which each leaves it
unfoldable pub AllLeave : (SlaveState → Type 0) → ℕ → ℕ → List Step → Type 0
AllLeave P station other ys =
    AllByRecursion (λ (y : Step). (is_setting y ≡ true) × StepLeaves P station other y) ys

pub steps_keep : (P : SlaveState → Type 0) (station place : ℕ) (wanted : Wanted) (ys : List Step)
    (result : Result (Unit {0}) StepFault) (r later : RingState) → ReachesAll r → IsWanted wanted
    → AllLeave P station wanted.station ys → AreDone RingTrips r place wanted ys result later
    → HasSuch P station r.slaves → HasSuch P station later.slaves
unfolding AreDone AllLeave
steps_keep P station place wanted [] result r later ring is leave (done, same) has =
    subst (λ (x : RingState). HasSuch P station x.slaves) (sym same) has
steps_keep P station place wanted (y ∷ ys) result r later ring is leave
    (Err fault, between, tried, (failed, same)) has =
    subst (λ (x : RingState). HasSuch P station x.slaves) (sym same)
    (tried_keeps P station 19 place wanted y (Err fault) r between ring is leave.0.0 leave.0.1 tried has)
steps_keep P station place wanted (y ∷ ys) result r later ring is leave (Ok did, between, tried, left) has =
    steps_keep P station place wanted ys result between later
    (within_keeps _ r between ring (tried_within RingTrips 19 r between place wanted y (Ok did) tried)) is
    leave.1 left
    (tried_keeps P station 19 place wanted y (Ok did) r between ring is leave.0.0 leave.0.1 tried has)

-- ---- what stands behind it

pub area_registers : (n : ℕ) → n < 8 → AreRegisters (2048 + 8 * n) 5
area_registers n few = record {
  above = omega arith;
  left = λ k below. record {
    al_status = inr (omega arith);
    al_status_code = inr (omega arith);
    requests = λ is. absurd (omega (arith, is, below));
    answers = λ is. absurd (omega (arith, is, below));
    register = omega (arith, few, below);
  };
  no_status = λ k below i is. absurd (omega (arith, is, below));
}

pub switch_registers : (n : ℕ) → n < 8 → AreRegisters (2048 + 8 * n + 6) 1
switch_registers n few = record {
  above = omega arith;
  left = λ k below. record {
    al_status = inr (omega arith);
    al_status_code = inr (omega arith);
    requests = λ is. absurd (omega (arith, is, below));
    answers = λ is. absurd (omega (arith, is, below));
    register = omega (arith, few, below);
  };
  no_status = λ k below i is. absurd (omega (arith, is, below));
}

pub fmmu_registers : (n m : ℕ) → n < 8 → m ≡ 16 → AreRegisters (1536 + 16 * n) m
fmmu_registers n m few size = record {
  above = omega arith;
  left = λ k below. record {
    al_status = inr (omega arith);
    al_status_code = inr (omega arith);
    requests = λ is. absurd (omega (arith, is, below, few, size));
    answers = λ is. absurd (omega (arith, is, below, few, size));
    register = omega (arith, few, below, size);
  };
  no_status = λ k below i is. absurd (omega (arith, is, below, few, size));
}

-- a talk goes on behind a write, and behind bytes that were read back
record GoesOn (qs : List (Question (Unit {0}))) (later : RingState) : Type 0 where
  between : RingState
  ring : ReachesAll between
  talk : Talks RingTrips between qs (Ok tt) (Ok tt) later

written_on : (d : DatagramRecord) (qs : List (Question (Unit {0}))) (r later : RingState) → ReachesAll r
    → Talks RingTrips r (write d ∷ qs) (Ok tt) (Ok tt) later → GoesOn qs later
written_on d qs r later ring talk =
    let first : IsBegun RingTrips r (write d) qs (Ok tt) (Ok tt) later =
    begun RingTrips r (write d) qs (Ok tt) (Ok tt) later talk in
    record {
      between = first.between;
      ring = trip_keeps r first.between (d ∷ []) first.asks.came ring first.asks.made;
      talk = goes_on RingTrips r (write d) qs (Ok tt) (Ok tt) later first
          (write_goes_on first.between later qs (Ok tt) first.answer first.left);
    }

abbrev rows_of : Bool → Bool → Bool → Result (Option (Unit {0})) MasterFault
rows_of p q u = cond p (Err NoSlave) (cond q (Err BadAnswer) (cond (not u) (Err BadAnswer) (Ok None)))

rows_hold : (between later : RingState) (qs : List (Question (Unit {0}))) (p q u : Bool)
    → Rest RingTrips between qs (Ok tt) (Ok tt) later (rows_of p q u) → rows_of p q u ≡ Ok None
rows_hold between later qs true q u (is, same) = absurd (cc)
rows_hold between later qs false true u (is, same) = absurd (cc)
rows_hold between later qs false false false (is, same) = absurd (cc)
rows_hold between later qs false false true left = refl

held_on : (between later : RingState) (qs : List (Question (Unit {0}))) (bytes : List ℕ) (answer : Answer)
    → Rest RingTrips between qs (Ok tt) (Ok tt) later (holds_decides bytes answer)
    → holds_decides bytes answer ≡ Ok None
held_on between later qs bytes (Err fault) (is, same) = absurd (cc)
held_on between later qs bytes (Ok back) left =
    let k : ℕ = (nth back.joined 0).counter in
    rows_hold between later qs (eqb k 0) (ltb 1 k) (pointwise nat_eq (nth back.joined 0).payload bytes) left

read_on : (station at : ℕ) (bytes : List ℕ) (qs : List (Question (Unit {0}))) (r later : RingState)
    → ReachesAll r → Talks RingTrips r (holds station at bytes ∷ qs) (Ok tt) (Ok tt) later
    → GoesOn qs later
read_on station at bytes qs r later ring talk =
    let q : Question (Unit {0}) = holds station at bytes in
    let first : IsBegun RingTrips r q qs (Ok tt) (Ok tt) later =
    begun RingTrips r q qs (Ok tt) (Ok tt) later talk in
    record {
      between = first.between;
      ring = trip_keeps r first.between (q.sent ∷ []) first.asks.came ring first.asks.made;
      talk = goes_on RingTrips r q qs (Ok tt) (Ok tt) later first
          (held_on first.between later qs bytes first.answer first.left);
    }

-- bytes that were read back stand there at the end
read_stands : (station at : ℕ) (bytes : List ℕ) (qs : List (Question (Unit {0}))) (r later : RingState)
    → ReachesAll r → station < 65536 → AreRegisters at (length bytes) → 1 ≤ length bytes
    → at + length bytes ≤ 4096
    → AllByRecursion (λ (q : Question (Unit {0})).
    Leaves (λ (s : SlaveState). Holds s.controller.memory at bytes) station q.sent) qs
    → Talks RingTrips r (holds station at bytes ∷ qs) (Ok tt) (Ok tt) later
    → HasSuch (λ (s : SlaveState). Holds s.controller.memory at bytes) station later.slaves
read_stands station at bytes qs r later ring address registers some inside leave talk =
    let q : Question (Unit {0}) = holds station at bytes in
    let first : IsBegun RingTrips r q qs (Ok tt) (Ok tt) later =
    begun RingTrips r q qs (Ok tt) (Ok tt) later talk in
    let decides : holds_decides bytes first.answer ≡ Ok None =
    held_on first.between later qs bytes first.answer first.left in
    talk_leaves (λ (s : SlaveState). Holds s.controller.memory at bytes) station qs (Ok tt) (Ok tt)
    first.between later (trip_keeps r first.between (q.sent ∷ []) first.asks.came ring first.asks.made) leave
    (goes_on RingTrips r q qs (Ok tt) (Ok tt) later first decides)
    (read_holds station at bytes r first.between first.answer ring address registers some inside first.asks
    decides)

-- ---- a record stands behind the step that sets it

leaves_held : (station other low high at : ℕ) (bytes : List ℕ) (d : DatagramRecord) → 18 ≤ low
    → AreRegisters at (length bytes) → (other ≢ station) ⊎ AreApart at (length bytes) low high
    → IsInRange other low high d → Leaves (λ (s : SlaveState). Holds s.controller.memory at bytes) station d
leaves_held station other low high at bytes d above registers apart range = record {
  by_station = range.by_station;
  address = spares_station other low high d above range;
  keeps = λ s t is follow held.
      held_stays station other low high at bytes d s t registers apart range is follow held;
}

manager_stands : (station n : ℕ) (o : Option SyncMan) (r later : RingState) → ReachesAll r
    → station < 65536 → n < 8 → SetsManager RingTrips r station n o (Ok tt) later
    → HasSuch (λ (s : SlaveState). HoldsManager s.controller.memory n o) station later.slaves
manager_stands station n None r later ring address few sets = absurd sets
manager_stands station n (Some m) r later ring address few sets =
    let at : ℕ = 2048 + 8 * n in
    let area : List ℕ = take 5 (sync_man_bytes m) in
    let switch : List ℕ = get_or (sync_man_bytes m) 6 0 ∷ [] in
    let last : List (Question (Unit {0})) = holds station (at + 6) switch ∷ [] in
    let reads : List (Question (Unit {0})) = holds station at area ∷ last in
    let off : GoesOn (write (request Fpwr (address_of station at) (sync_man_bytes m)) ∷ reads) later =
    written_on _ _ r later ring sets in
    let set : GoesOn reads later = written_on _ _ off.between later off.ring off.talk in
    let read : GoesOn last later = read_on station at area last set.between later set.ring set.talk in
    such_both (λ (s : SlaveState). Holds s.controller.memory at area)
    (λ (s : SlaveState). Holds s.controller.memory (at + 6) switch) station later.slaves
    (read_stands station at area last set.between later set.ring address (area_registers n few) (omega arith)
    (omega (arith, few)) (
      leaves_held station station (at + 6) (at + 7) at area _ (omega arith) (area_registers n few)
          (inr (inl (omega arith)))
          (in_range station (at + 6) (at + 7) (at + 6) Fprd (0 ∷ []) refl address (omega arith)
          (omega arith)),
      tt,
    ) set.talk)
    (read_stands station (at + 6) switch [] read.between later read.ring address (switch_registers n few)
    (omega arith) (omega (arith, few)) tt read.talk)

fmmu_stands : (station n : ℕ) (o : Option Fmmu) (r later : RingState) → ReachesAll r
    → station < 65536 → n < 8 → ((f : Fmmu) → o ≡ Some f → length (fmmu_bytes f) ≡ 16)
    → SetsFmmu RingTrips r station n o (Ok tt) later
    → HasSuch (λ (s : SlaveState). HoldsFmmu s.controller.memory n o) station later.slaves
fmmu_stands station n None r later ring address few sizes sets = absurd sets
fmmu_stands station n (Some f) r later ring address few sizes sets =
    let at : ℕ = 1536 + 16 * n in
    let bytes : List ℕ = fmmu_bytes f in
    let size : length bytes ≡ 16 = sizes f refl in
    let set : GoesOn (holds station at bytes ∷ []) later = written_on _ _ r later ring sets in
    read_stands station at bytes [] set.between later set.ring address
    (fmmu_registers n (length bytes) few size) (omega (arith, size)) (omega (arith, few, size)) tt set.talk

pub small_number : (n : ℕ) → n % 8 < 8
small_number n = omega arith

pub step_stands : (place : ℕ) (wanted : Wanted) (x : Step) (r later : RingState) → ReachesAll r
    → IsWanted wanted → is_setting x ≡ true → IsDone RingTrips r place wanted x (Ok tt) later
    → HasSuch (λ (s : SlaveState). HoldsSet wanted s.controller.memory x) wanted.station later.slaves
unfolding is_setting
step_stands place wanted (SyncManager n) r later ring is sets done =
    manager_stands wanted.station (manager_number n) (slice_get wanted.managers (manager_number n)) r later
    ring is.station (small_number n) done
step_stands place wanted (FmmuRecord n) r later ring is sets done =
    fmmu_stands wanted.station (fmmu_number n) (slice_get wanted.fmmus (fmmu_number n)) r later ring
    is.station (small_number n) (λ f found. got (fmmu_number n) wanted.fmmus f is.fmmus found) done
step_stands place wanted (State state) r later ring is sets done =
    let alone : IsAloneIn state wanted.station later =
    entered place wanted state r later ring is.station done in
    let P : SlaveState → Type 0 = λ (s : SlaveState). HoldsSet wanted s.controller.memory (State state) in
    subst (λ (ss : List SlaveState). HasSuch P wanted.station ss) (sym alone.has.slaves)
    (such_between P wanted.station alone.before alone.slave alone.behind alone.has.others_before
    alone.has.station_is tt alone.has.others_behind)
step_stands place wanted Station r later ring is sets done = absurd (true≢false (sym sets))
step_stands place wanted (StationBehind first) r later ring is sets done = absurd (true≢false (sym sets))
step_stands place wanted StationBefore r later ring is sets done = absurd (true≢false (sym sets))
step_stands place wanted (Startup n) r later ring is sets done = absurd (true≢false (sym sets))

-- ---- and stays behind other steps

-- the end of the registers in which its record stands
unfoldable pub held_to : Step → ℕ
held_to (SyncManager n) = 2048 + 8 * manager_number n + 8
held_to (FmmuRecord n) = 1536 + 16 * fmmu_number n + 16
held_to (State state) = 0
held_to Station = 0
held_to (StationBehind first) = 0
held_to StationBefore = 0
held_to (Startup n) = 0

area_apart : (at low high : ℕ) → (at + 8 ≤ low) ⊎ (high ≤ at) → AreApart at 5 low high
area_apart at low high (inl before) = inl (omega (arith, before))
area_apart at low high (inr behind) = inr behind

switch_apart : (at low high : ℕ) → (at + 8 ≤ low) ⊎ (high ≤ at) → AreApart (at + 6) 1 low high
switch_apart at low high (inl before) = inl (omega (arith, before))
switch_apart at low high (inr behind) = inr (omega (arith, behind))

fmmu_apart : (at low high m : ℕ) → m ≡ 16 → (at + 16 ≤ low) ⊎ (high ≤ at) → AreApart at m low high
fmmu_apart at low high m size (inl before) = inl (omega (arith, before, size))
fmmu_apart at low high m size (inr behind) = inr behind

either_apart : {X Y Z : Type 0} → (Y → Z) → X ⊎ Y → X ⊎ Z
either_apart f (inl x) = inl x
either_apart f (inr y) = inr (f y)

manager_stays : (station other low high n : ℕ) (o : Option SyncMan) (d : DatagramRecord) (s t : SlaveState)
    → n < 8 → (other ≢ station) ⊎ ((2048 + 8 * n + 8 ≤ low) ⊎ (high ≤ 2048 + 8 * n))
    → IsInRange other low high d → station_of s ≡ station → IsFollowed d.address (length d.payload) s t
    → HoldsManager s.controller.memory n o → HoldsManager t.controller.memory n o
manager_stays station other low high n None d s t few apart range is follow held = absurd held
manager_stays station other low high n (Some m) d s t few apart range is follow held = (
  held_stays station other low high (2048 + 8 * n) (take 5 (sync_man_bytes m)) d s t (area_registers n few)
      (either_apart (area_apart (2048 + 8 * n) low high) apart) range is follow held.0,
  held_stays station other low high (2048 + 8 * n + 6) (get_or (sync_man_bytes m) 6 0 ∷ []) d s t
      (switch_registers n few) (either_apart (switch_apart (2048 + 8 * n) low high) apart) range is follow
      held.1,
)

fmmu_stays : (station other low high n : ℕ) (o : Option Fmmu) (d : DatagramRecord) (s t : SlaveState)
    → n < 8 → ((f : Fmmu) → o ≡ Some f → length (fmmu_bytes f) ≡ 16)
    → (other ≢ station) ⊎ ((1536 + 16 * n + 16 ≤ low) ⊎ (high ≤ 1536 + 16 * n))
    → IsInRange other low high d → station_of s ≡ station → IsFollowed d.address (length d.payload) s t
    → HoldsFmmu s.controller.memory n o → HoldsFmmu t.controller.memory n o
fmmu_stays station other low high n None d s t few sizes apart range is follow held = absurd held
fmmu_stays station other low high n (Some f) d s t few sizes apart range is follow held =
    held_stays station other low high (1536 + 16 * n) (fmmu_bytes f) d s t
    (fmmu_registers n (length (fmmu_bytes f)) few (sizes f refl))
    (either_apart (fmmu_apart (1536 + 16 * n) low high (length (fmmu_bytes f)) (sizes f refl)) apart) range is
    follow held

set_stays : (wanted : Wanted) (x : Step) (other low high : ℕ) (d : DatagramRecord) (s t : SlaveState)
    → IsWanted wanted → (other ≢ wanted.station) ⊎ ((held_to x ≤ low) ⊎ (high ≤ begins x))
    → IsInRange other low high d → station_of s ≡ wanted.station
    → IsFollowed d.address (length d.payload) s t → HoldsSet wanted s.controller.memory x
    → HoldsSet wanted t.controller.memory x
unfolding held_to begins
set_stays wanted (SyncManager n) other low high d s t wants apart range is follow held =
    manager_stays wanted.station other low high (manager_number n)
    (slice_get wanted.managers (manager_number n)) d s t (small_number n) apart range is follow held
set_stays wanted (FmmuRecord n) other low high d s t wants apart range is follow held =
    fmmu_stays wanted.station other low high (fmmu_number n) (slice_get wanted.fmmus (fmmu_number n)) d s t
    (small_number n) (λ f found. got (fmmu_number n) wanted.fmmus f wants.fmmus found) apart range is follow
    held
set_stays wanted (State state) other low high d s t wants apart range is follow held = tt
set_stays wanted Station other low high d s t wants apart range is follow held = tt
set_stays wanted (StationBehind first) other low high d s t wants apart range is follow held = tt
set_stays wanted StationBefore other low high d s t wants apart range is follow held = tt
set_stays wanted (Startup n) other low high d s t wants apart range is follow held = tt

-- a step leaves the record of another one: it is another slave's, or reaches other registers
pub set_left : (wanted : Wanted) (x y : Step) (other : ℕ) → IsWanted wanted → is_setting y ≡ true
    → (other ≢ wanted.station) ⊎ ((held_to x ≤ begins y) ⊎ (ends y ≤ begins x))
    → StepLeaves (λ (s : SlaveState). HoldsSet wanted s.controller.memory x) wanted.station other y
unfolding StepLeaves
set_left wanted x y other wants sets apart d range = record {
  by_station = range.by_station;
  address = spares_station other (begins y) (ends y) d (begins_high y sets) range;
  keeps = λ s t is follow held.
      set_stays wanted x other (begins y) (ends y) d s t wants apart range is follow held;
}
