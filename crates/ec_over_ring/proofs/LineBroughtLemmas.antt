-- The slaves of a line that are asked for a state one after the other: each that came to it stays there while
-- the others are asked.
use Rattle.std.proofs.Common.{◌≡◌, ℕ, zero, suc, ◌+◌, ◌<◌, Bool, true, false, eqb, ltb, List, []}
use Rattle.std.proofs.Common.{◌∷◌, ◌++◌, map, Result, Ok, Err, refl, sym, ap, ◌∙◌}
use Rattle.std.proofs.Common.{arith, subst, replicate, inl, inr, ⊎_elim, true≢false}
use Rattle.std.specs.Prelude.{◌≢◌, ◌⊎◌}
use Rattle.std.specs.List.{AllByRecursion}
use Rattle.std.proofs.lemmas.Bool.{cases_Bool, eq-eqb, eqb-true}
use Rattle.ec_regs.specs.Al.{code_of, status_of}
use Rattle.ec_regs.specs.declared.al.AlState.{AlState}
use Rattle.ec_regs.specs.declared.al.AlState.TheVariants.{Op}
use Rattle.ec_regs.specs.declared.registers.TheConstants.{AL_CONTROL}
use Rattle.ec_wire.specs.Datagram.{DatagramRecord, address_of, nth}
use Rattle.ec_esc.specs.Application.{al_status, al_status_code}
use Rattle.ec_app.specs.Slave.{step}
use Rattle.ec_app.specs.State.{SlaveState}
use Rattle.ec_ring.specs.Ring.{RingState, line_of, stepped}
use Rattle.ec_master.specs.RingTrips.{RingTrips}
use Rattle.ec_services.specs.Ask.{Answer, Question, write, write_decides}
use Rattle.ec_services.specs.States.{IsRequested, control_write, status_question}
use Rattle.ec_services.specs.declared.fault.MasterFault.{MasterFault}
use Rattle.ec_services.specs.declared.fault.MasterFault.TheVariants.{NoSlave, Refused, Abort, NoAnswer}
use Rattle.ec_services.specs.declared.fault.MasterFault.TheVariants.{BadAnswer, Broken, Port, Stranger}
use Rattle.ec_run.specs.Phase.{AreDone, Brings, steps_of}
use Rattle.ec_run.specs.Step.{IsDone, IsTried, is_answered}
use Rattle.ec_run.specs.Travels.{IsWithin, trips_of}
use Rattle.ec_run.specs.declared.phase.Phase.TheVariants as phase
use Rattle.ec_run.specs.declared.step.Step.{Step}
use Rattle.ec_run.specs.declared.step.Step.TheVariants.{State}
use Rattle.ec_run.specs.declared.wanted.Wanted.{Wanted}
use Rattle.ec_run.proofs.Laws.{EndsWith, are_done_within, brings_within, done_within, tried_ends}
use Rattle.ec_over_ring.specs.Brought.{AreAllIn, HaveAddresses, IsAloneIn, ReachesAll}
use Rattle.ec_over_ring.specs.Question.{IsByStation, IsOther, after_question}
use Rattle.ec_over_ring.specs.States.{HasStation, IsElsewhere, asked_slave}
use Rattle.ec_over_ring.specs.Transfers.{IsSlave}
use Rattle.ec_over_ring.proofs.BroughtLemmas.{entered, has_one, one_asked, request_counted}
use Rattle.ec_over_ring.proofs.BroughtLemmas.{refused_if, status_stays, step_taken}
use Rattle.ec_over_ring.proofs.ControlLemmas.{control_controller, control_station}
use Rattle.ec_over_ring.proofs.HoldersLemmas.{HasOne, SaysCount, counted_one, holders, none_holds, one_holds}
use Rattle.ec_over_ring.proofs.HoldersLemmas.{write_told}
use Rattle.ec_over_ring.proofs.NobodyLemmas.{unanswered}
use Rattle.ec_over_ring.proofs.QuestionLemmas.{others_of}
use Rattle.ec_over_ring.proofs.SparedLemmas.{HasSuch, IsSuch, such_between, such_one, such_stepped}
use Rattle.ec_over_ring.proofs.StateLemmas.{ComesTo, requested, slaves_between, small_code, two_bytes}
use Rattle.ec_over_ring.proofs.StationLemmas.{AreParts, adp_is, ado_is, meant, others_for}
use Rattle.ec_over_ring.proofs.StationLemmas.{parts_of, station_of}
use Rattle.ec_over_ring.proofs.TalkLemmas.{IsBegun, Rest, begun}
use Rattle.ec_over_ring.proofs.TransferLemmas.{AreSlaves, have_controllers, one_of, one_other, steps}
use Rattle.ec_over_ring.proofs.TripKeepsLemmas.{within_keeps}

-- ---- a slave that has come to a state

-- it is there without an error, and is asked for no other
pub record IsThere (state : AlState) (s : SlaveState) : Type 0 where
  pub status : al_status s.controller ≡ record { state = state; error = false }
  pub unasked : s.controller.written ≡ false

-- a step leaves it there
there_stepped : (state : AlState) (s : SlaveState) → IsSlave s → IsThere state s → IsThere state (step s)
there_stepped state s is there = record {
  status = ap (λ (b : ℕ). status_of b) (status_stays s there.unasked is.controller.memory_size)
      ∙ there.status;
  unasked = step_taken s;
}

-- one of these slaves alone has a station, and has come to the state
abbrev pub HasThere : AlState → ℕ → List SlaveState → Type 0
HasThere state station ss = HasSuch (IsThere state) station ss

-- so it is once each took its step
has_stepped : (state : AlState) (station : ℕ) (ss : List SlaveState) → AreSlaves ss
    → HasThere state station ss → HasThere state station (map step ss)
has_stepped state station ss are has =
    such_stepped (IsThere state) station ss (there_stepped state) are has

-- and where a slave with another station is another one
others_changed : (station : ℕ) (before : List SlaveState) (s t : SlaveState) (behind : List SlaveState)
    → IsElsewhere station t → AllByRecursion (IsElsewhere station) (before ++ s ∷ behind)
    → AllByRecursion (IsElsewhere station) (before ++ t ∷ behind)
others_changed station [] s t behind other all = (other, all.1)
others_changed station (x ∷ before) s t behind other all =
    (all.0, others_changed station before s t behind other all.1)

has_changed : (state : AlState) (station : ℕ) (before : List SlaveState) (s t : SlaveState)
    (behind : List SlaveState) → IsElsewhere station s → IsElsewhere station t
    → HasThere state station (before ++ s ∷ behind) → HasThere state station (before ++ t ∷ behind)
unfolding HasSuch
has_changed state station [] s t behind old new (inl (is, there, others)) = absurd (old is)
has_changed state station [] s t behind old new (inr (other, rest)) = inr (new, rest)
has_changed state station (x ∷ before) s t behind old new (inl (is, there, others)) =
    inl (is, there, others_changed station before s t behind new others)
has_changed state station (x ∷ before) s t behind old new (inr (other, rest)) =
    inr (other, has_changed state station before s t behind old new rest)

-- ---- and its ring

pub has_there : (state : AlState) (station : ℕ) (r : RingState) → IsAloneIn state station r
    → HasThere state station r.slaves
has_there state station r alone =
    subst (HasThere state station) (sym alone.has.slaves)
    (such_between (IsThere state) station alone.before alone.slave alone.behind alone.has.others_before
    alone.has.station_is (record { status = alone.status; unasked = alone.unasked })
    alone.has.others_behind)

alone_in : (state : AlState) (station : ℕ) (r : RingState) → ReachesAll r → station < 65536
    → HasThere state station r.slaves → IsAloneIn state station r
alone_in state station r ring address has =
    let is : IsSuch (IsThere state) station r.slaves = such_one (IsThere state) station r.slaves has in
    record {
      before = is.one.before;
      slave = is.one.slave;
      behind = is.one.behind;
      has = has_one station r ring address is.one;
      status = is.such.status;
      unasked = is.such.unasked;
    }

-- ---- another slave is asked

-- one that takes the request
one_keeps : (state asked : AlState) (station other : ℕ) (r later : RingState) (before : List SlaveState)
    (s : SlaveState) (behind : List SlaveState) (result : Result (Unit {0}) MasterFault) → ReachesAll r
    → other ≢ station → HasStation other r before s behind
    → ComesTo other asked r before s behind result later → HasThere state station r.slaves
    → HasThere state station later.slaves
one_keeps state asked station other r later before s behind result ring differ has comes there =
    let t : SlaveState = after_question (control_write other asked) s in
    let parts : AreParts before s behind = parts_of other r before s behind has in
    let all : AreSlaves (before ++ s ∷ behind) = subst AreSlaves has.slaves ring.slaves.each in
    let own : IsSlave s = one_of before s behind all in
    let stays : station_of t ≡ station_of s =
    control_station s.controller (address_of other AL_CONTROL) (code_of asked + 16) parts.own
    (meant other AL_CONTROL r before s behind has) (ado_is other AL_CONTROL has.address) in
    let taken : IsSlave t = record {
      controller = control_controller s.controller (address_of other AL_CONTROL) (code_of asked + 16)
          parts.own (meant other AL_CONTROL r before s behind has) (ado_is other AL_CONTROL has.address);
      values = own.values;
    } in
    let line : List SlaveState = before ++ t ∷ behind in
    let are : AreSlaves line = one_other before s t behind all taken in
    let first : HasThere state station line =
    has_changed state station before s t behind (λ is. differ (sym has.station_is ∙ is))
    (λ is. differ (sym has.station_is ∙ sym stays ∙ is))
    (subst (HasThere state station) has.slaves there) in
    subst (λ (x : RingState). HasThere state station x.slaves) (sym comes.ring)
    (has_stepped state station (map step line) (steps line are)
    (has_stepped state station line are first))

-- it was done
done_keeps : (state asked : AlState) (station : ℕ) (place : ℕ) (wanted : Wanted) (r later : RingState)
    → ReachesAll r → wanted.station < 65536 → wanted.station ≢ station
    → IsDone RingTrips r place wanted (State asked) (Ok tt) later → HasThere state station r.slaves
    → HasThere state station later.slaves
done_keeps state asked station place wanted r later ring address differ done there =
    let other : ℕ = wanted.station in
    let one : HasOne other r.slaves = one_asked other 1000 asked r later ring address done in
    let has : HasStation other r one.before one.slave one.behind = has_one other r ring address one in
    one_keeps state asked station other r later one.before one.slave one.behind (Ok tt) ring differ has
    (requested other 1000 asked r one.before one.slave one.behind (Ok tt) later has
    (slaves_between other asked r one.before one.slave one.behind has ring.slaves.each) (omega arith) done)
    there

-- ---- no slave is there that could be asked

-- where a request says so, its write was counted by none, or by one
rows_count : (between later : RingState) (rest : List (Question (Unit {0}))) (n : ℕ) (p q : Bool)
    → eqb n 0 ≡ p → ltb 1 n ≡ q
    → Rest RingTrips between rest (Err NoAnswer) (Err NoSlave) later (write_told p q NoSlave BadAnswer)
    → ((n ≡ 0) × (later ≡ between)) ⊎ (n ≡ 1)
rows_count between later rest n true q none more (is, same) = inl (eqb-true n 0 none, same)
rows_count between later rest n false true none more (is, same) = absurd (cc)
rows_count between later rest n false false none more left = inr (counted_one n (none, more))

none_or_one : (between later : RingState) (rest : List (Question (Unit {0}))) (answer : Answer) (n : ℕ)
    → SaysCount answer n
    → Rest RingTrips between rest (Err NoAnswer) (Err NoSlave) later (write_decides {A = Unit {0}} answer)
    → ((n ≡ 0) × (later ≡ between)) ⊎ (n ≡ 1)
none_or_one between later rest (Err fault) n says (is, same) = absurd (cc)
none_or_one between later rest (Ok back) n says left =
    let k : ℕ = (nth back.joined 0).counter in
    subst (λ (m : ℕ). ((m ≡ 0) × (later ≡ between)) ⊎ (m ≡ 1)) says
    (rows_count between later rest k (eqb k 0) (ltb 1 k) refl refl left)

-- one that takes it answers
answers : (b : Bool) (code : ℕ) → Err NoSlave ≡ refused_if b code → ⊥
answers true code is = absurd (cc)
answers false code is = absurd (cc)

-- so nobody has the station, and each took its step
nobody_asked : (station limit : ℕ) (asked : AlState) (r later : RingState) → ReachesAll r → station < 65536
    → IsRequested RingTrips r station asked (suc limit) (Err NoSlave) later → later ≡ stepped r
nobody_asked station limit asked r later ring address talk =
    let d : DatagramRecord = control_write station asked in
    let rest : List (Question (Unit {0})) = replicate (suc limit) (status_question station asked) in
    let first : IsBegun RingTrips r (write d) rest (Err NoAnswer) (Err NoSlave) later =
    begun RingTrips r (write d) rest (Err NoAnswer) (Err NoSlave) later talk in
    ⊎_elim
    (λ (none : (holders station (line_of r) ≡ 0) × (later ≡ first.between)).
    let named = adp_is station AL_CONTROL address in
    let others : AllByRecursion (IsOther d) (line_of r) =
    others_of d r.slaves (others_for d station r.slaves named (none_holds station r.slaves none.0)
    (have_controllers r.slaves ring.slaves.each)) in
    let by : IsByStation d = record {
      station = refl;
      circulating = refl;
      payload = two_bytes (code_of asked + 16) (small_code asked);
      counter = omega arith;
    } in
    none.1 ∙ (unanswered d r first.answer first.between ring.down by others first.asks).ring)
    (λ (one : holders station (line_of r) ≡ 1).
    let is : HasOne station r.slaves = one_holds station r.slaves one in
    let has : HasStation station r is.before is.slave is.behind = has_one station r ring address is in
    let t : SlaveState = asked_slave station asked is.slave in
    let comes : ComesTo station asked r is.before is.slave is.behind (Err NoSlave) later =
    requested station (suc limit) asked r is.before is.slave is.behind (Err NoSlave) later has
    (slaves_between station asked r is.before is.slave is.behind has ring.slaves.each) (omega arith) talk in
    absurd (answers (al_status t.controller).error (al_status_code t.controller) comes.result_is))
    (none_or_one first.between later rest first.answer (holders station (line_of r))
    (request_counted station asked r first.between first.answer ring address first.asks) first.left)

-- ---- it is tried until it is done

not_answered : (result : Result (Unit {0}) MasterFault) → is_answered result ≡ false → result ≡ Err NoSlave
not_answered (Ok done) is = absurd (true≢false is)
not_answered (Err NoSlave) is = refl
not_answered (Err (Refused code)) is = absurd (true≢false is)
not_answered (Err (Abort code)) is = absurd (true≢false is)
not_answered (Err NoAnswer) is = absurd (true≢false is)
not_answered (Err BadAnswer) is = absurd (true≢false is)
not_answered (Err Broken) is = absurd (true≢false is)
not_answered (Err Port) is = absurd (true≢false is)
not_answered (Err Stranger) is = absurd (true≢false is)

tried_keeps : (state asked : AlState) (station more place : ℕ) (wanted : Wanted) (r later : RingState)
    → ReachesAll r → wanted.station < 65536 → wanted.station ≢ station
    → IsTried RingTrips r place wanted (State asked) more (Ok tt) later → HasThere state station r.slaves
    → HasThere state station later.slaves
unfolding IsTried
tried_keeps state asked station zero place wanted r later ring address differ done there =
    done_keeps state asked station place wanted r later ring address differ done there
tried_keeps state asked station (suc more) place wanted r later ring address differ
    (first, between, done, rest) there =
    let reached : ReachesAll between =
    within_keeps (trips_of (State asked)) r between ring
    (done_within RingTrips r between place wanted (State asked) first done) in
    keeps_so (is_answered first) refl rest
    (tried_keeps state asked station more place wanted between later reached address differ)
  where
    done_as : (result : Result (Unit {0}) MasterFault) → result ≡ first
        → IsDone RingTrips r place wanted (State asked) result between
    done_as result is =
        subst (λ (x : Result (Unit {0}) MasterFault). IsDone RingTrips r place wanted (State asked) x between)
        (sym is) done

    keeps_so : (b : Bool) → is_answered first ≡ b
        → (elim b as (λ (x : Bool). Type 0) [
          | true ↦ (Ok tt ≡ first) × (later ≡ between)
          | false ↦ IsTried RingTrips between place wanted (State asked) more (Ok tt) later
        ])
        → (IsTried RingTrips between place wanted (State asked) more (Ok tt) later
        → HasThere state station between.slaves → HasThere state station later.slaves)
        → HasThere state station later.slaves
    keeps_so true answered (is, same) on =
        subst (λ (x : RingState). HasThere state station x.slaves) (sym same)
        (done_keeps state asked station place wanted r between ring address differ (done_as (Ok tt) is) there)
    keeps_so false answered again on =
        let stays : between ≡ stepped r =
        nobody_asked wanted.station 999 asked r between ring address
        (done_as (Err NoSlave) (sym (not_answered first answered))) in
        on again
        (subst (λ (x : RingState). HasThere state station x.slaves) (sym stays)
        (has_stepped state station r.slaves ring.slaves.each there))

-- ---- the slaves of a line

-- the only step of some is tried nineteen times more
one_done : (place : ℕ) (wanted : Wanted) (step : Step) (r later : RingState)
    → AreDone RingTrips r place wanted (step ∷ []) (Ok tt) later
    → IsTried RingTrips r place wanted step 19 (Ok tt) later
unfolding AreDone
one_done place wanted step r later (Err fault, between, tried, (is, same)) = absurd (cc)
one_done place wanted step r later (Ok done, between, tried, (is, same)) =
    subst (λ (x : RingState). IsTried RingTrips r place wanted step 19 (Ok tt) x) (sym same) tried

-- the one that is asked is there then
pub one_there : (asked : AlState) (place : ℕ) (wanted : Wanted) (r later : RingState) → ReachesAll r
    → wanted.station < 65536 → AreDone RingTrips r place wanted (State asked ∷ []) (Ok tt) later
    → HasThere asked wanted.station later.slaves
one_there asked place wanted r later ring address done =
    let ends : EndsWith RingTrips r place wanted (State asked) later =
    tried_ends RingTrips 19 r later place wanted (State asked)
    (one_done place wanted (State asked) r later done) in
    has_there asked wanted.station later
    (entered place wanted asked ends.between later (within_keeps ends.most r ends.between ring ends.within)
    address ends.done)

-- and the ring is one whose slaves are reached
done_reaches : (place : ℕ) (wanted : Wanted) (steps : List Step) (r later : RingState) → ReachesAll r
    → AreDone RingTrips r place wanted steps (Ok tt) later → ReachesAll later
done_reaches place wanted steps r later ring done =
    within_keeps _ r later ring (are_done_within RingTrips r later place wanted steps (Ok tt) done)

-- one that is there stays there: it is asked itself, or another one is
either_keeps : (asked : AlState) (station place : ℕ) (wanted : Wanted) (r later : RingState) → ReachesAll r
    → wanted.station < 65536 → AreDone RingTrips r place wanted (State asked ∷ []) (Ok tt) later
    → HasThere asked station r.slaves → HasThere asked station later.slaves
either_keeps asked station place wanted r later ring address done there =
    ⊎_elim
    (λ (same : eqb wanted.station station ≡ true).
    subst (λ (n : ℕ). HasThere asked n later.slaves) (eqb-true wanted.station station same)
    (one_there asked place wanted r later ring address done))
    (λ (other : eqb wanted.station station ≡ false).
    tried_keeps asked asked station 19 place wanted r later ring address
    (λ is. true≢false (sym (eq-eqb wanted.station station is) ∙ other))
    (one_done place wanted (State asked) r later done) there)
    (cases_Bool (eqb wanted.station station))

-- so it is while the slaves of a line are asked
line_keeps : (asked : AlState) (station place : ℕ) (line : List Wanted) (r later : RingState)
    → ReachesAll r → HaveAddresses line
    → Brings RingTrips r place line (State asked ∷ []) (Ok tt) later → HasThere asked station r.slaves
    → HasThere asked station later.slaves
unfolding Brings
line_keeps asked station place [] r later ring addresses (is, same) there =
    subst (λ (x : RingState). HasThere asked station x.slaves) (sym same) there
line_keeps asked station place (wanted ∷ rest) r later ring addresses
    (Err fault, between, done, (is, same)) there =
    absurd (cc)
line_keeps asked station place (wanted ∷ rest) r later ring addresses (Ok did, between, done, left) there =
    line_keeps asked station (place + 1) rest between later
    (done_reaches place wanted (State asked ∷ []) r between ring done) addresses.1 left
    (either_keeps asked station place wanted r between ring addresses.0 done there)

line_reaches : (asked : AlState) (place : ℕ) (line : List Wanted) (r later : RingState) → ReachesAll r
    → Brings RingTrips r place line (State asked ∷ []) (Ok tt) later → ReachesAll later
line_reaches asked place line r later ring brings =
    within_keeps _ r later ring
    (brings_within RingTrips r later place line (State asked ∷ []) (Ok tt) brings)

-- where each was asked, each is there
pub all_entered : (asked : AlState) (place : ℕ) (line : List Wanted) (r later : RingState) → ReachesAll r
    → HaveAddresses line → Brings RingTrips r place line (State asked ∷ []) (Ok tt) later
    → AreAllIn asked line later
unfolding Brings
all_entered asked place [] r later ring addresses brings = tt
all_entered asked place (wanted ∷ rest) r later ring addresses (Err fault, between, done, (is, same)) =
    absurd (cc)
all_entered asked place (wanted ∷ rest) r later ring addresses (Ok did, between, done, left) =
    let reached : ReachesAll between = done_reaches place wanted (State asked ∷ []) r between ring done in (
      alone_in asked wanted.station later
          (line_reaches asked (place + 1) rest between later reached left) addresses.0
          (line_keeps asked wanted.station (place + 1) rest between later reached addresses.1 left
          (one_there asked place wanted r between ring addresses.0 done)),
      all_entered asked (place + 1) rest between later reached addresses.1 left,
    )

-- as in the last phase, behind whatever trips
pub all_in_op : (trips : ℕ) (line : List Wanted) (r in_safe_op later : RingState) → ReachesAll r
    → HaveAddresses line → IsWithin RingTrips trips r in_safe_op
    → Brings RingTrips in_safe_op 0 line (steps_of phase.Op) (Ok tt) later → AreAllIn Op line later
all_in_op trips line r in_safe_op later ring addresses within brings =
    all_entered Op 0 line in_safe_op later (within_keeps trips r in_safe_op ring within) addresses brings
