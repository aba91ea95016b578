-- The records that a step sets stand behind it, and stay while other steps are done.
use Rattle.std.proofs.Common.{◌≡◌, ℕ, ◌+◌, ◌<◌, ◌≤◌, Bool, true, false, cond}
use Rattle.std.proofs.Common.{eqb, ltb, not, List, [], ◌∷◌, ◌++◌, length, take, drop}
use Rattle.std.proofs.Common.{get_or, Option, None, Some, Result, Ok, Err, refl, sym, ap, ◌∙◌, arith, subst}
use Rattle.std.proofs.Common.{inl, inr, replicate}
use Rattle.std.specs.Prelude.{◌≢◌, ◌⊎◌, nat_eq}
use Rattle.std.specs.Cmp.Lexicographic.{pointwise, same_text}
use Rattle.std.specs.List.{AllByRecursion}
use Rattle.std.proofs.lemmas.List.{length-replicate}
use Rattle.ec_regs.specs.SyncMan.{status_address}
use Rattle.ec_regs.specs.declared.registers.TheConstants.{PROCESS_MEMORY}
use Rattle.ec_regs.proofs.Laws.{get_or-run}
use Rattle.ec_wire.specs.Command.{addressing}
use Rattle.ec_wire.specs.Datagram.{DatagramRecord, address_of, ado_of, adp_of, nth}
use Rattle.ec_wire.specs.declared.command.Addressing.TheVariants.{ConfiguredStation}
use Rattle.ec_wire.specs.declared.command.Command.TheVariants.{Fprd}
use Rattle.ec_esc.specs.Pass.{Passed, pass}
use Rattle.ec_esc.specs.State.{ControllerState}
use Rattle.ec_app.specs.Left.{IsLeft, SameLeft}
use Rattle.ec_app.specs.Lending.{with_controller}
use Rattle.ec_app.specs.Slave.{step}
use Rattle.ec_app.specs.State.{SlaveState}
use Rattle.ec_app.proofs.Laws.{step_leaves}
use Rattle.ec_ring.specs.Links.{IsOnlyDown}
use Rattle.ec_ring.specs.Ring.{RingState, line_of, stepped}
use Rattle.ec_ring.specs.declared.port.PortFault.{PortFault}
use Rattle.ec_ring.specs.declared.weather.Came.{Came}
use Rattle.ec_ring.proofs.Laws.{length-controllers}
use Rattle.ec_master.specs.RingTrips.{RingTrips}
use Rattle.ec_services.specs.Ask.{Answer, Asks, Brings, Question, Talks, request}
use Rattle.ec_services.specs.declared.fault.MasterFault.{MasterFault}
use Rattle.ec_services.specs.declared.fault.MasterFault.TheVariants.{BadAnswer, NoSlave}
use Rattle.ec_run.specs.Step.{holds, holds_decides}
use Rattle.ec_over_ring.specs.Brought.{ReachesAll}
use Rattle.ec_over_ring.specs.Question.{ReachesOne, Tells}
use Rattle.ec_over_ring.specs.Started.{Holds}
use Rattle.ec_over_ring.specs.States.{HasStation}
use Rattle.ec_over_ring.specs.Transfers.{IsSlave}
use Rattle.ec_over_ring.proofs.BroughtLemmas.{has_one}
use Rattle.ec_over_ring.proofs.HoldersLemmas.{HasOne, SaysCount, counted_one, holders, one_holds, read_gains}
use Rattle.ec_over_ring.proofs.HoldersLemmas.{trip_counted}
use Rattle.ec_over_ring.proofs.QuestionLemmas.{asked_alone}
use Rattle.ec_over_ring.proofs.RegisterLemmas.{registers_read}
use Rattle.ec_over_ring.proofs.SparedLemmas.{HasSuch, IsFollowed, IsSpared, SparesStation}
use Rattle.ec_over_ring.proofs.SparedLemmas.{ring_followed, such_between, such_followed}
use Rattle.ec_over_ring.proofs.SparedLemmas.{such_stepped}
use Rattle.ec_over_ring.proofs.StateLemmas.{zeros}
use Rattle.ec_over_ring.proofs.StationLemmas.{adp_is, ado_is, meant, parts_of, reaches, station_of}
use Rattle.ec_over_ring.proofs.TripKeepsLemmas.{trip_keeps}

-- ---- a talk that keeps what holds of a slave

-- what holds of the slave with a station stays where this datagram passes and a step follows
pub record Leaves (P : SlaveState → Type 0) (station : ℕ) (d : DatagramRecord) : Type 0 where
  pub by_station : addressing d.command ≡ ConfiguredStation
  pub address : SparesStation d.address (length d.payload)
  pub keeps : (s t : SlaveState) → station_of s ≡ station → IsFollowed d.address (length d.payload) s t
      → P s → P t

pub trip_leaves : (P : SlaveState → Type 0) (station : ℕ) (d : DatagramRecord) (r later : RingState)
    (came : Result Came PortFault) → ReachesAll r → Leaves P station d → RingTrips r (d ∷ []) came later
    → HasSuch P station r.slaves → HasSuch P station later.slaves
trip_leaves P station d r later came ring leaves made has =
    such_followed P d.address (length d.payload) station r.slaves later.slaves leaves.keeps
    (ring_followed r later d came ring leaves.by_station leaves.address made) has

pub talk_leaves : (P : SlaveState → Type 0) (station : ℕ) (qs : List (Question (Unit {0})))
    (undecided result : Result (Unit {0}) MasterFault) (r later : RingState) → ReachesAll r
    → AllByRecursion (λ (q : Question (Unit {0})). Leaves P station q.sent) qs
    → Talks RingTrips r qs undecided result later → HasSuch P station r.slaves
    → HasSuch P station later.slaves
unfolding Talks
talk_leaves P station [] undecided result r later ring leaves (is, same) has =
    subst (λ (x : RingState). HasSuch P station x.slaves) (sym same) has
talk_leaves P station (q ∷ rest) undecided result r later ring leaves
    (Err fault, between, asked, (is, same)) has =
    subst (λ (x : RingState). HasSuch P station x.slaves) (sym same)
    (trip_leaves P station q.sent r between asked.asks.came ring leaves.0 asked.asks.made has)
talk_leaves P station (q ∷ rest) undecided result r later ring leaves
    (Ok (Some value), between, asked, (is, same)) has =
    subst (λ (x : RingState). HasSuch P station x.slaves) (sym same)
    (trip_leaves P station q.sent r between asked.asks.came ring leaves.0 asked.asks.made has)
talk_leaves P station (q ∷ rest) undecided result r later ring leaves (Ok None, between, asked, left) has =
    talk_leaves P station rest undecided result between later
    (trip_keeps r between (q.sent ∷ []) asked.asks.came ring asked.asks.made) leaves.1 left
    (trip_leaves P station q.sent r between asked.asks.came ring leaves.0 asked.asks.made has)

-- ---- registers that hold bytes

-- registers that no step writes, none of them the status of a sync manager
pub record AreRegisters (from n : ℕ) : Type 0 where
  pub above : 310 ≤ from
  pub left : (k : ℕ) → k < n → IsLeft (from + k)
  pub no_status : (k : ℕ) → k < n → (i : ℕ) → from + k ≢ status_address i

-- they lie before or behind a range
abbrev pub AreApart : ℕ → ℕ → ℕ → ℕ → Type 0
AreApart from n low high = (from + n ≤ low) ⊎ (high ≤ from)

-- a datagram to a station with a range between two addresses
pub record IsInRange (station low high : ℕ) (d : DatagramRecord) : Type 0 where
  pub by_station : addressing d.command ≡ ConfiguredStation
  pub named : adp_of d.address ≡ station
  pub from : low ≤ ado_of d.address
  pub to : ado_of d.address + length d.payload ≤ high

pub spares_station : (station low high : ℕ) (d : DatagramRecord) → 18 ≤ low → IsInRange station low high d
    → SparesStation d.address (length d.payload)
spares_station station low high d above range =
    let from : low ≤ ado_of d.address = range.from in
    record {
      low = record {
        register = omega arith;
        beside = inl (omega (arith, above, from));
        no_status = λ i is. absurd (omega (arith, is));
      };
      high = record {
        register = omega arith;
        beside = inl (omega (arith, above, from));
        no_status = λ i is. absurd (omega (arith, is));
      };
    }

-- what registers hold stays, of another slave or beside the range
pub held_stays : (station other low high at : ℕ) (bytes : List ℕ) (d : DatagramRecord) (s t : SlaveState)
    → AreRegisters at (length bytes) → (other ≢ station) ⊎ AreApart at (length bytes) low high
    → IsInRange other low high d → station_of s ≡ station → IsFollowed d.address (length d.payload) s t
    → Holds s.controller.memory at bytes → Holds t.controller.memory at bytes
held_stays station other low high at bytes d s t registers apart range is follow held k below =
    follow.bytes (at + k) (registers.left k below) (beside apart) ∙ held k below
  where
    from : low ≤ ado_of d.address
    from = range.from

    to : ado_of d.address + length d.payload ≤ high
    to = range.to

    spared : ((at + k < ado_of d.address) ⊎ (ado_of d.address + length d.payload ≤ at + k))
        → IsSpared (ado_of d.address) (length d.payload) (at + k)
    spared place = record {
      register = (registers.left k below).register;
      beside = place;
      no_status = registers.no_status k below;
    }

    beside : (other ≢ station) ⊎ AreApart at (length bytes) low high
        → (adp_of d.address ≢ station_of s) ⊎ IsSpared (ado_of d.address) (length d.payload) (at + k)
    beside (inl differ) = inl (λ same. differ (sym range.named ∙ same ∙ is))
    beside (inr (inl less)) = inr (spared (inl (omega (arith, less, from, below))))
    beside (inr (inr more)) = inr (spared (inr (omega (arith, more, to))))

pub held_step : (at : ℕ) (bytes : List ℕ) (s : SlaveState) → AreRegisters at (length bytes) → IsSlave s
    → Holds s.controller.memory at bytes → Holds (step s).controller.memory at bytes
held_step at bytes s registers is held k below =
    let same : SameLeft s.controller.memory (step s).controller.memory =
    step_leaves s is.controller.memory_size in
    same.bytes (at + k) (registers.left k below) ∙ held k below

-- ---- bytes that are read back

three_rows : (p q u : Bool) → cond p (Err NoSlave) (cond q (Err BadAnswer) (cond (not u) (Err BadAnswer)
    (Ok None))) ≡ (let none : Result (Option (Unit {0})) MasterFault = Ok None in none)
    → (p ≡ false) × (q ≡ false) × (u ≡ true)
three_rows true q u is = absurd (cc)
three_rows false true u is = absurd (cc)
three_rows false false false is = absurd (cc)
three_rows false false true is = (refl, refl, refl)

-- an answer that says so was counted once, and has these bytes
record IsHeld (bytes : List ℕ) (answer : Answer) (n : ℕ) : Type 0 where
  one : n ≡ 1
  payload : (told : DatagramRecord) → Tells told answer → told.payload ≡ bytes

held_answer : (bytes : List ℕ) (answer : Answer) (n : ℕ) → SaysCount answer n
    → holds_decides bytes answer ≡ Ok None → IsHeld bytes answer n
held_answer bytes (Err fault) n says decides = absurd (cc)
held_answer bytes (Ok back) n says decides =
    let k : ℕ = (nth back.joined 0).counter in
    let payload : List ℕ = (nth back.joined 0).payload in
    let rows = three_rows (eqb k 0) (ltb 1 k) (pointwise nat_eq payload bytes) decides in
    record {
      one = sym says ∙ counted_one k (rows.0, rows.1);
      payload = λ told tells. sym tells.payload ∙ same_text payload bytes (sym rows.2);
    }

-- where one slave alone has the station it is the one that answers, and the ring takes its steps
read_alone : (station at : ℕ) (bytes : List ℕ) (r later : RingState) (before : List SlaveState)
    (s : SlaveState) (behind : List SlaveState) (answer : Answer) → ReachesAll r
    → HasStation station r before s behind → AreRegisters at (length bytes) → 1 ≤ length bytes
    → at + length bytes ≤ PROCESS_MEMORY → Asks RingTrips r (holds station at bytes).sent answer later
    → ((told : DatagramRecord) → Tells told answer → told.payload ≡ bytes)
    → HasSuch (λ (x : SlaveState). Holds x.controller.memory at bytes) station later.slaves
read_alone station at bytes r later before s behind answer ring has registers some inside asks payload =
    let n : ℕ = length bytes in
    let m : List ℕ = s.controller.memory in
    let P : SlaveState → Type 0 = λ (x : SlaveState). Holds x.controller.memory at bytes in
    let reach : ReachesOne (holds station at bytes).sent r before s behind =
    reaches station at Fprd (replicate n 0) r before s behind has refl (zeros n) in
    let comes =
    asked_alone (holds station at bytes).sent r before behind s answer later reach.asked reach.alone
    reach.down asks in
    let passed = registers_read s.controller (address_of station at) at n
    (parts_of station r before s behind has).own (meant station at r before s behind has)
    (ado_is station at has.address) some inside in
    let told : take n (drop at m) ≡ bytes =
    sym (ap (λ (p : Passed). p.datagram.payload) passed)
    ∙ payload (pass s.controller (holds station at bytes).sent).datagram comes.0 in
    let now : Holds m at bytes =
    λ k below. sym (get_or-run m at n k below) ∙ ap (λ (bs : List ℕ). get_or bs k 0) told in
    let still : later ≡ stepped r =
    comes.1
    ∙ ap (λ (c : ControllerState). stepped (record r { slaves = before ++ with_controller s c ∷ behind }))
    (ap (λ (p : Passed). p.state) passed)
    ∙ ap (λ (ss : List SlaveState). stepped (record r { slaves = ss })) (sym has.slaves) in
    subst (λ (x : RingState). HasSuch P station x.slaves) (sym still)
    (such_stepped P station r.slaves (λ x is holding. held_step at bytes x registers is holding)
    ring.slaves.each
    (subst (λ (ss : List SlaveState). HasSuch P station ss) (sym has.slaves)
    (such_between P station before s behind has.others_before has.station_is now has.others_behind)))

-- and a read of registers is counted by each that has it
read_counted : (station at n : ℕ) (r later : RingState) (answer : Answer) → ReachesAll r → station < 65536
    → 1 ≤ n → at + n ≤ PROCESS_MEMORY
    → Asks RingTrips r (request Fprd (address_of station at) (replicate n 0)) answer later
    → SaysCount answer (holders station (line_of r))
read_counted station at n r later answer ring address some inside asks =
    let d : DatagramRecord = request Fprd (address_of station at) (replicate n 0) in
    let zero_size : length (replicate n 0) ≡ n = length-replicate {A = ℕ} n 0 in
    let size : length r.slaves ≡ length (line_of r) = sym (length-controllers r.slaves) in
    trip_counted r.links ring.down.0 station d (line_of r) answer
    (subst (λ (m : ℕ). IsOnlyDown r.links m ring.down.0) size ring.down.1) refl
    (record {
      by_station = refl;
      gains = λ c. read_gains station c d.address at (length (replicate n 0)) (adp_is station at address)
          (ado_is station at address) (omega (arith, some, zero_size)) (omega (arith, inside, zero_size));
      counter = refl;
    })
    (subst (λ (m : ℕ). m ≤ 256) size ring.slaves.limit)
    (subst (λ (x : Result Came PortFault). Brings d x answer) asks.made.0 asks.brings)

-- so bytes that were read back stand there
pub read_holds : (station at : ℕ) (bytes : List ℕ) (r later : RingState) (answer : Answer) → ReachesAll r
    → station < 65536 → AreRegisters at (length bytes) → 1 ≤ length bytes
    → at + length bytes ≤ PROCESS_MEMORY → Asks RingTrips r (holds station at bytes).sent answer later
    → holds_decides bytes answer ≡ Ok None
    → HasSuch (λ (s : SlaveState). Holds s.controller.memory at bytes) station later.slaves
read_holds station at bytes r later answer ring address registers some inside asks decides =
    let held : IsHeld bytes answer (holders station (line_of r)) =
    held_answer bytes answer (holders station (line_of r))
    (read_counted station at (length bytes) r later answer ring address some inside asks) decides in
    let one : HasOne station r.slaves = one_holds station r.slaves held.one in
    read_alone station at bytes r later one.before one.slave one.behind answer ring
    (has_one station r ring address one) registers some inside asks held.payload
