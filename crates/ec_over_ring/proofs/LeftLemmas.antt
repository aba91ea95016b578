-- A slave that is in Op and has its station alone is left alone: one look tells it, and changes nothing.
use Rattle.std.proofs.Common.{◌≡◌, ℕ, zero, suc, ◌+◌, ◌-◌, ◌%◌, Bool, true, false, eqb, ltb, not}
use Rattle.std.proofs.Common.{◌||◌, List, [], ◌∷◌, ◌++◌, get_or, drop, Option, None, Some, is_some}
use Rattle.std.proofs.Common.{Result, Ok, Err, refl, sym, ap, ◌∙◌, arith, subst, replicate}
use Rattle.std.specs.Int.{w16, from_le_bytes}
use Rattle.ec_regs.specs.Al.{status_of}
use Rattle.ec_regs.specs.declared.al.AlState.TheVariants.{Op}
use Rattle.ec_regs.specs.declared.al.AlStatus.{AlStatus}
use Rattle.ec_regs.specs.declared.registers.TheConstants.{AL_STATUS}
use Rattle.ec_regs.proofs.Laws.{get_or-run}
use Rattle.ec_wire.specs.Datagram.{DatagramRecord, nth}
use Rattle.ec_wire.specs.declared.command.Command.TheVariants.{Fprd}
use Rattle.ec_merge.specs.Frames.{joined_frame}
use Rattle.ec_esc.specs.Application.{al_status}
use Rattle.ec_esc.specs.Pass.{Passed, pass}
use Rattle.ec_esc.specs.State.{ControllerState}
use Rattle.ec_app.specs.Lending.{with_controller}
use Rattle.ec_app.specs.State.{SlaveState}
use Rattle.ec_app.specs.Table.{first_fitting}
use Rattle.ec_ring.specs.Ring.{RingState, stepped}
use Rattle.ec_ring.specs.declared.port.PortFault.{PortFault}
use Rattle.ec_ring.specs.declared.weather.Came.{Came}
use Rattle.ec_master.specs.Ports.{came_or}
use Rattle.ec_master.specs.RingTrips.{RingTrips}
use Rattle.ec_services.specs.Ask.{Answer, Asks, Brings}
use Rattle.ec_services.specs.States.{status_read}
use Rattle.ec_services.specs.declared.fault.MasterFault.{MasterFault}
use Rattle.ec_run.specs.Ask.{reply_by}
use Rattle.ec_run.specs.Recovery.{IsDealtWith, IsLookedAt, IsLookedFor, IsRecovered, is_nobody, seen_by}
use Rattle.ec_run.specs.declared.recovery.Outcome.{Outcome}
use Rattle.ec_run.specs.declared.recovery.Outcome.TheVariants.{Left}
use Rattle.ec_run.specs.declared.recovery.Seen.{Seen}
use Rattle.ec_run.specs.declared.recovery.Seen.TheVariants.{Unheard, Nobody, In, Error, Several}
use Rattle.ec_run.specs.declared.wanted.Wanted.{Wanted}
use Rattle.ec_over_ring.specs.Question.{ReachesOne, Tells}
use Rattle.ec_over_ring.specs.States.{HasStation}
use Rattle.ec_over_ring.proofs.QuestionLemmas.{asked_alone}
use Rattle.ec_over_ring.proofs.StateLemmas.{status_passed, zeros}
use Rattle.ec_over_ring.proofs.StationLemmas.{reaches}

-- ---- a copy came

some_came : (a b : Option (List DatagramRecord)) → (a ≡ None → b ≡ None → ⊥) → (is_some a || is_some b) ≡ true
some_came None None never = absurd (never refl refl)
some_came None (Some y) never = refl
some_came (Some x) b never = refl

-- where an answer was counted
heard_one : (d : DatagramRecord) (came : Came) (joined : List DatagramRecord) → d.counter ≡ 0
    → joined ≡ joined_frame (d ∷ []) (came_or came.a (d ∷ [])) (came_or came.b (d ∷ []))
    → (nth joined 0).counter ≡ 1 → (is_some came.a || is_some came.b) ≡ true
heard_one d came joined sent is one =
    some_came came.a came.b (λ none_a none_b.
    let count : (nth joined 0).counter ≡ (d.counter + d.counter + (65536 - d.counter)) % 65536 =
    ap (λ (f : List DatagramRecord). (nth f 0).counter)
    (is ∙ ap (λ (o : Option (List DatagramRecord)). joined_frame (d ∷ []) (came_or o (d ∷ []))
    (came_or came.b (d ∷ []))) none_a
    ∙ ap (λ (o : Option (List DatagramRecord)). joined_frame (d ∷ []) (d ∷ []) (came_or o (d ∷ []))) none_b)
    in omega (arith, count, one, sent))

-- ---- one look

-- what is seen, by what an answer has
abbrev seen_so : Bool → ℕ → AlStatus → ℕ → Seen
seen_so heard counter status code =
    first_fitting
    ((not heard, Unheard)
    ∷ (eqb counter 0, Nobody)
    ∷ (ltb 1 counter, Several)
    ∷ (status.error, Error status.state code)
    ∷ []) (In status.state)

shows_op : (d told : DatagramRecord) (came : Came) (answer : Answer) → d.counter ≡ 0
    → told.counter ≡ 1 → status_of (get_or told.payload 0 0) ≡ record { state = Op; error = false }
    → Tells told answer → Brings d (Ok came) answer
    → seen_by (reply_by answer) ≡ Ok (In Op)
shows_op d told came (Err fault) sent one op tells brings = absurd tells
shows_op d told came (Ok back) sent one op tells brings =
    let counter : (nth back.joined 0).counter ≡ 1 = tells.counter ∙ one in
    let heard : (is_some back.came.a || is_some back.came.b) ≡ true =
    ap (λ (c : Came). is_some c.a || is_some c.b) brings.0
    ∙ heard_one d came back.joined sent brings.1.2 counter in
    let status : status_of (get_or (nth back.joined 0).payload 0 0) ≡ record { state = Op; error = false } =
    ap (λ (bytes : List ℕ). status_of (get_or bytes 0 0)) tells.payload ∙ op in
    let code : ℕ = from_le_bytes w16 (drop 4 (nth back.joined 0).payload) in
    ap (λ (b : Bool). Ok (seen_so b (nth back.joined 0).counter
    (status_of (get_or (nth back.joined 0).payload 0 0)) code)) heard
    ∙ ap (λ (n : ℕ). Ok (seen_so true n (status_of (get_or (nth back.joined 0).payload 0 0)) code)) counter
    ∙ ap (λ (s : AlStatus). Ok (seen_so true 1 s code)) status

looked_op : (station : ℕ) (r later : RingState) (before : List SlaveState) (s : SlaveState)
    (behind : List SlaveState) (seen : Result Seen MasterFault) → HasStation station r before s behind
    → al_status s.controller ≡ record { state = Op; error = false }
    → IsLookedAt RingTrips r station seen later
    → (seen ≡ Ok (In Op)) × (later ≡ stepped r)
looked_op station r later before s behind seen has op looked =
    let d : DatagramRecord = status_read station in
    let m : List ℕ = s.controller.memory in
    let one : ReachesOne d r before s behind =
    reaches station AL_STATUS Fprd (replicate 6 0) r before s behind has refl (zeros 6) in
    let answer : Answer = looked.replied.answer in
    let asks : Asks RingTrips r d answer later = looked.replied.asks in
    let comes = asked_alone d r before behind s answer later one.asked one.alone one.down asks in
    let passed = status_passed station r before s behind has in
    let told : DatagramRecord = (pass s.controller d).datagram in
    let counter : told.counter ≡ 1 = ap (λ (p : Passed). p.datagram.counter) passed in
    let byte : get_or told.payload 0 0 ≡ get_or m 304 0 =
    ap (λ (p : Passed). get_or p.datagram.payload 0 0) passed ∙ get_or-run m 304 6 0 (omega arith) in
    let shows : seen_by (reply_by answer) ≡ Ok (In Op) =
    shows_op d told _ answer refl counter (ap (λ (b : ℕ). status_of b) byte ∙ op) comes.0
    (subst (λ (x : Result Came PortFault). Brings d x answer) asks.made.0 asks.brings) in (
      looked.shows ∙ ap (λ reply. seen_by reply) looked.replied.tells ∙ shows,
      comes.1
          ∙ ap (λ (c : ControllerState).
          stepped (record r { slaves = before ++ with_controller s c ∷ behind }))
          (ap (λ (p : Passed). p.state) passed)
          ∙ ap (λ (ss : List SlaveState). stepped (record r { slaves = ss })) (sym has.slaves),
    )

-- ---- the look that decides

looked_for_op : (more station : ℕ) (r later : RingState) (before : List SlaveState) (s : SlaveState)
    (behind : List SlaveState) (seen : Result Seen MasterFault) → HasStation station r before s behind
    → al_status s.controller ≡ record { state = Op; error = false }
    → IsLookedFor RingTrips r station more seen later
    → (seen ≡ Ok (In Op)) × (later ≡ stepped r)
unfolding IsLookedFor
looked_for_op zero station r later before s behind seen has op looked =
    looked_op station r later before s behind seen has op looked
looked_for_op (suc more) station r later before s behind seen has op (first, between, looked, rest) =
    let at_first : (first ≡ Ok (In Op)) × (between ≡ stepped r) =
    looked_op station r between before s behind first has op looked in
    looked_so first at_first.0 rest
  where
    looked_so : (x : Result Seen MasterFault) → x ≡ Ok (In Op)
        → (elim (is_nobody x) as (λ (b : Bool). Type 0) [
          | true ↦ IsLookedFor RingTrips between station more seen later
          | false ↦ (seen ≡ x) × (later ≡ between)
        ])
        → (seen ≡ Ok (In Op)) × (later ≡ stepped r)
    looked_so x is left =
        let ends : (seen ≡ Ok (In Op)) × (later ≡ between) =
        subst (λ (y : Result Seen MasterFault). elim (is_nobody y) as (λ (b : Bool). Type 0) [
          | true ↦ IsLookedFor RingTrips between station more seen later
          | false ↦ (seen ≡ y) × (later ≡ between)
        ]) is left in
        (ends.0, ends.1 ∙ (looked_op station r between before s behind first has op looked).1)

dealt_op : (place : ℕ) (wanted : Wanted) (tells : Bool) (r later : RingState) (outcome : Outcome)
    (seen : Result Seen MasterFault) → seen ≡ Ok (In Op)
    → IsDealtWith RingTrips r place wanted tells seen outcome later → (outcome ≡ Left) × (later ≡ r)
dealt_op place wanted tells r later outcome seen is dealt =
    subst (λ (x : Result Seen MasterFault). IsDealtWith RingTrips r place wanted tells x outcome later) is dealt

-- a slave that is in Op and has its station alone is looked at once, and left alone
pub left_in_op : (place : ℕ) (wanted : Wanted) (tells : Bool) (r later : RingState)
    (before : List SlaveState) (s : SlaveState) (behind : List SlaveState) (outcome : Outcome)
    → HasStation wanted.station r before s behind
    → al_status s.controller ≡ record { state = Op; error = false }
    → IsRecovered RingTrips r place wanted tells outcome later
    → (outcome ≡ Left) × (later ≡ stepped r)
left_in_op place wanted tells r later before s behind outcome has op recovers =
    let looked : (recovers.seen ≡ Ok (In Op)) × (recovers.between ≡ stepped r) =
    looked_for_op _ wanted.station r recovers.between before s behind recovers.seen has op
    recovers.looked in
    let left : (outcome ≡ Left) × (later ≡ recovers.between) =
    dealt_op place wanted tells recovers.between later outcome recovers.seen looked.0 recovers.dealt in
    (left.0, left.1 ∙ looked.1)
