-- A slave that was brought to a state over a ring: by the write that one slave counted, and by what that
-- slave answered then.
use Rattle.std.proofs.Common.{◌≡◌, ℕ, ◌<◌, ◌≤◌, Bool, true, false, cond, eqb, ltb, List}
use Rattle.std.proofs.Common.{◌∷◌, ◌++◌, length, map, get_or, Option, None, Some, Result, Ok, Err, refl}
use Rattle.std.proofs.Common.{sym, ap, ◌∙◌, arith, subst, replicate, ◌&&◌}
use Rattle.std.specs.List.{AllByRecursion}
use Rattle.ec_regs.specs.Al.{status_of}
use Rattle.ec_regs.specs.declared.al.AlState.{AlState}
use Rattle.ec_regs.specs.declared.al.AlState.TheVariants.{Op}
use Rattle.ec_regs.specs.declared.al.AlStatus.{AlStatus}
use Rattle.ec_regs.specs.declared.registers.TheConstants.{AL_CONTROL, AL_STATUS, MEMORY_SIZE}
use Rattle.ec_wire.specs.Datagram.{DatagramRecord, nth}
use Rattle.ec_areas.specs.Ranges.{has_sii}
use Rattle.ec_esc.specs.Application.{al_status, al_status_code, with_mail_taken}
use Rattle.ec_esc.specs.State.{ControllerState, IsController, word_at}
use Rattle.ec_app.specs.AlStep.{after_request, al_answer, al_rows, al_step, with_al_answer}
use Rattle.ec_app.specs.MailStep.{after_bytes, after_mail, can_answer, has_request, is_dropped, mail_answer}
use Rattle.ec_app.specs.MailStep.{mail_step, reply, request_bytes, with_reply}
use Rattle.ec_app.specs.Mail.{mail_of}
use Rattle.ec_app.specs.Slave.{step}
use Rattle.ec_app.specs.State.{SlaveState}
use Rattle.ec_app.specs.declared.mail.Mail.{Mail}
use Rattle.ec_app.proofs.Laws.{mail_step_status}
use Rattle.ec_ring.specs.Links.{IsOnlyDown}
use Rattle.ec_ring.specs.Ring.{RingState, line_of, stepped}
use Rattle.ec_ring.specs.declared.port.PortFault.{PortFault}
use Rattle.ec_ring.specs.declared.weather.Came.{Came}
use Rattle.ec_ring.proofs.Laws.{length-controllers}
use Rattle.ec_master.specs.RingTrips.{RingTrips}
use Rattle.ec_services.specs.Ask.{Answer, Asks, Brings, Question, write, write_decides}
use Rattle.ec_services.specs.States.{IsRequested, control_write, status_question}
use Rattle.ec_services.specs.declared.fault.MasterFault.{MasterFault}
use Rattle.ec_services.specs.declared.fault.MasterFault.TheVariants.{BadAnswer, NoAnswer, NoSlave, Refused}
use Rattle.ec_run.specs.Recovery.{IsRecovered}
use Rattle.ec_run.specs.Step.{IsDone}
use Rattle.ec_run.specs.declared.recovery.Outcome.TheVariants.{Brought}
use Rattle.ec_run.specs.declared.recovery.Seen.{Seen}
use Rattle.ec_run.specs.declared.step.Step.TheVariants.{State}
use Rattle.ec_run.specs.declared.wanted.Wanted.{Wanted}
use Rattle.ec_run.specs.Travels.{trips_of}
use Rattle.ec_run.proofs.Laws.{EndsWith, done_within, recovered_ends}
use Rattle.ec_over_ring.specs.Brought.{IsAloneIn, ReachesAll}
use Rattle.ec_over_ring.specs.Question.{after_question}
use Rattle.ec_over_ring.specs.States.{HasStation, asked_ring, asked_slave}
use Rattle.ec_over_ring.proofs.HoldersLemmas.{HasOne, SaysCount, control_gains, decides_one, holders}
use Rattle.ec_over_ring.proofs.HoldersLemmas.{one_holds, trip_counted, write_told}
use Rattle.ec_over_ring.proofs.SlaveLemmas.{table_holds}
use Rattle.ec_over_ring.proofs.StateLemmas.{ComesTo, has_between, requested, slaves_between}
use Rattle.ec_over_ring.proofs.StateLemmas.{stands_state, status_stands}
use Rattle.ec_over_ring.proofs.StationLemmas.{has_later, adp_is, ado_is, parts_of}
use Rattle.ec_over_ring.proofs.StepLemmas.{idle_al}
use Rattle.ec_over_ring.proofs.TalkLemmas.{IsBegun, Rest, begun}
use Rattle.ec_over_ring.proofs.TransferLemmas.{have_controllers}
use Rattle.ec_over_ring.proofs.TripKeepsLemmas.{within_keeps}

-- ---- a step takes what was asked

answer_taken : (s : SlaveState) (control : ℕ)
    → (with_al_answer s (al_answer s control)).controller.written ≡ s.controller.written
unfolding al_answer
answer_taken s control =
    table_holds (λ a. (with_al_answer s a).controller.written ≡ s.controller.written) (al_rows s control) _
    (refl, (refl, (refl, (refl, (refl, (refl, (refl, (refl, tt)))))))) refl

request_taken : (b : Bool) (control : ℕ) (s : SlaveState)
    → (after_request (cond b (Some control) None) s).controller.written ≡ s.controller.written
request_taken true control s = answer_taken s control
request_taken false control s = refl

al_taken : (s : SlaveState) → (al_step s).controller.written ≡ false
unfolding al_step
al_taken s =
    request_taken s.controller.written (word_at s.controller.memory AL_CONTROL)
    (record s { controller = record s.controller { written = false } })

reply_taken : (c : ControllerState) (o : Option Mail) → (with_reply c o).written ≡ c.written
reply_taken c None = refl
reply_taken c (Some m) = refl

either_taken : (b : Bool) (x y : SlaveState) (w : Bool) → x.controller.written ≡ w → y.controller.written ≡ w
    → (cond b x y).controller.written ≡ w
either_taken true x y w first second = first
either_taken false x y w first second = second

mail_taken : (s : SlaveState) → (mail_step s).controller.written ≡ s.controller.written
unfolding mail_step
mail_taken s =
    let c : ControllerState = s.controller in
    let taken : SlaveState = record s { controller = with_mail_taken c 0 } in
    let bytes : List ℕ = request_bytes c in
    let m : Mail = mail_of bytes in
    either_taken (can_answer c && has_request c) (after_bytes bytes taken) s c.written
    (either_taken (is_dropped (has_sii taken.controller.memory) s.application.kept bytes) taken (after_mail m taken) c.written refl
    (reply_taken taken.controller (reply m (mail_answer m taken.application.objects))))
    refl

-- so behind a step nothing new is asked
pub step_taken : (s : SlaveState) → (step s).controller.written ≡ false
unfolding step
step_taken s = mail_taken (al_step s) ∙ al_taken s

-- and another step leaves AL status
pub status_stays : (s : SlaveState) → s.controller.written ≡ false → length s.controller.memory ≡ MEMORY_SIZE
    → get_or (step s).controller.memory AL_STATUS 0 ≡ get_or s.controller.memory AL_STATUS 0
unfolding step
status_stays s none size =
    ap (λ (t : SlaveState). get_or (mail_step t).controller.memory AL_STATUS 0) (idle_al s none)
    ∙ mail_step_status s size

-- ---- the write

-- a talk that comes to Ok goes on behind a write
rows_go_on : (between later : RingState) (rest : List (Question (Unit {0})))
    (undecided : Result (Unit {0}) MasterFault) (p q : Bool) (x y : MasterFault)
    → Rest RingTrips between rest undecided (Ok tt) later (write_told p q x y)
    → write_told p q x y ≡ Ok None
rows_go_on between later rest undecided true q x y (is, same) = absurd (cc)
rows_go_on between later rest undecided false true x y (is, same) = absurd (cc)
rows_go_on between later rest undecided false false x y left = refl

pub write_goes_on : (between later : RingState) (rest : List (Question (Unit {0})))
    (undecided : Result (Unit {0}) MasterFault) (answer : Answer)
    → Rest RingTrips between rest undecided (Ok tt) later (write_decides {A = Unit {0}} answer)
    → write_decides {A = Unit {0}} answer ≡ Ok None
write_goes_on between later rest undecided (Err fault) (is, same) = absurd (cc)
write_goes_on between later rest undecided (Ok back) left =
    let n : ℕ = (nth back.joined 0).counter in
    rows_go_on between later rest undecided (eqb n 0) (ltb 1 n) NoSlave BadAnswer left

-- the write is counted by each that has the station
pub request_counted : (station : ℕ) (state : AlState) (r between : RingState) (answer : Answer)
    → ReachesAll r → station < 65536 → Asks RingTrips r (control_write station state) answer between
    → SaysCount answer (holders station (line_of r))
request_counted station state r between answer ring address asks =
    let d : DatagramRecord = control_write station state in
    let size : length r.slaves ≡ length (line_of r) = sym (length-controllers r.slaves) in
    trip_counted r.links ring.down.0 station d (line_of r) answer
    (subst (λ (n : ℕ). IsOnlyDown r.links n ring.down.0) size ring.down.1) refl
    (record {
      by_station = refl;
      gains = λ c. control_gains station c d.address (adp_is station AL_CONTROL address)
          (ado_is station AL_CONTROL address);
      counter = refl;
    })
    (subst (λ (n : ℕ). n ≤ 256) size ring.slaves.limit)
    (subst (λ (x : Result Came PortFault). Brings d x answer) asks.made.0 asks.brings)

-- one slave alone has the station, where a request for a state came to Ok
pub one_asked : (station limit : ℕ) (state : AlState) (r later : RingState) → ReachesAll r → station < 65536
    → IsRequested RingTrips r station state limit (Ok tt) later
    → HasOne station r.slaves
one_asked station limit state r later ring address talk =
    let rest : List (Question (Unit {0})) = replicate limit (status_question station state) in
    let first : IsBegun RingTrips r (write (control_write station state)) rest (Err NoAnswer) (Ok tt) later =
    begun RingTrips r (write (control_write station state)) rest (Err NoAnswer) (Ok tt) later talk in
    one_holds station r.slaves
    (decides_one first.answer (holders station (line_of r))
    (request_counted station state r first.between first.answer ring address first.asks)
    (write_goes_on first.between later rest (Err NoAnswer) first.answer first.left))

-- and the ring has that station
pub has_one : (station : ℕ) (r : RingState) → ReachesAll r → station < 65536 → (one : HasOne station r.slaves)
    → HasStation station r one.before one.slave one.behind
has_one station r ring address one = record {
  down = ring.down;
  slaves = one.slaves;
  address = address;
  station_is = one.station_is;
  others_before = one.others_before;
  others_behind = one.others_behind;
  controllers = have_controllers r.slaves ring.slaves.each;
}

-- ---- the slave at the end

-- no error was told
abbrev pub refused_if : Bool → ℕ → Result (Unit {0}) MasterFault
refused_if b code = cond b (Err (Refused code)) (Ok tt)

no_error : (b : Bool) (code : ℕ) → Ok tt ≡ refused_if b code → b ≡ false
no_error true code is = absurd (cc)
no_error false code is = refl

same_status : (x : AlStatus) (state : AlState) → x.state ≡ state → x.error ≡ false
    → x ≡ record { state = state; error = false }
same_status x state is none = rw (sym is, sym none) refl

-- a ring of which each slave took a step has the station still
stepped_has : (station : ℕ) (r : RingState) (before : List SlaveState) (s : SlaveState)
    (behind : List SlaveState) → HasStation station r before s behind
    → AllByRecursion IsController (line_of (stepped r))
    → HasStation station (stepped r) (map step before) (step s) (map step behind)
stepped_has station r before s behind has all =
    let is : r ≡ record r { slaves = before ++ s ∷ behind } =
    ap (λ (ss : List SlaveState). record r { slaves = ss }) has.slaves in
    subst (λ (x : RingState). HasStation station (stepped x) (map step before) (step s) (map step behind))
    (sym is)
    (has_later station r before s s behind has (parts_of station r before s behind has).own.memory_size
    has.station_is (subst (λ (x : RingState). AllByRecursion IsController (line_of (stepped x))) is all))

-- a slave that was asked for a state, and answered that it is there, is in it at the end
pub entered : (place : ℕ) (wanted : Wanted) (state : AlState) (r later : RingState) → ReachesAll r
    → wanted.station < 65536 → IsDone RingTrips r place wanted (State state) (Ok tt) later
    → IsAloneIn state wanted.station later
entered place wanted state r later ring address done =
    let station : ℕ = wanted.station in
    let one : HasOne station r.slaves = one_asked station 1000 state r later ring address done in
    let before : List SlaveState = one.before in
    let s : SlaveState = one.slave in
    let behind : List SlaveState = one.behind in
    let has : HasStation station r before s behind = has_one station r ring address one in
    let asked : SlaveState = asked_slave station state s in
    let between : RingState = asked_ring station state r before s behind in
    let all : AllByRecursion IsController (line_of between) =
    slaves_between station state r before s behind has ring.slaves.each in
    let comes : ComesTo station state r before s behind (Ok tt) later =
    requested station 1000 state r before s behind (Ok tt) later has all (omega arith) done in
    let none : (al_status asked.controller).error ≡ false =
    no_error (al_status asked.controller).error (al_status_code asked.controller) comes.result_is in
    let is : (al_status asked.controller).state ≡ state =
    stands_state state (get_or asked.controller.memory AL_STATUS 0)
    (status_stands station state r before s behind has) none in
    let has_then : HasStation station between (map step before) asked (map step behind) =
    has_between station state r before s behind has all in
    let own : IsController asked.controller =
    (parts_of station between (map step before) asked (map step behind) has_then).own in
    let reached : ReachesAll later =
    within_keeps (trips_of (State state)) r later ring
    (done_within RingTrips r later place wanted (State state) (Ok tt) done) in
    let stays : get_or (step asked).controller.memory AL_STATUS 0
    ≡ get_or asked.controller.memory AL_STATUS 0 =
    status_stays asked (step_taken (after_question (control_write station state) s)) own.memory_size in
    record {
      before = map step (map step before);
      slave = step asked;
      behind = map step (map step behind);
      has = subst (λ (x : RingState). HasStation station x (map step (map step before)) (step asked)
          (map step (map step behind))) (sym comes.ring)
          (stepped_has station between (map step before) asked (map step behind) has_then
          (subst (λ (x : RingState). AllByRecursion IsController (line_of x)) comes.ring
          (have_controllers later.slaves reached.slaves.each)));
      status = ap (λ (b : ℕ). status_of b) stays ∙ same_status (al_status asked.controller) state is none;
      unasked = step_taken asked;
    }

-- ---- a recovery

-- a slave that was brought to Op is there at the end, alone with its station
pub recovered : (place : ℕ) (wanted : Wanted) (tells : Bool) (told : Seen) (r later : RingState)
    → ReachesAll r → wanted.station < 65536
    → IsRecovered RingTrips r place wanted tells (Brought told) later
    → IsAloneIn Op wanted.station later
recovered place wanted tells told r later ring address recovers =
    let ends : EndsWith RingTrips r place wanted (State Op) later =
    recovered_ends RingTrips r later place wanted tells told recovers in
    entered place wanted Op ends.between later (within_keeps ends.most r ends.between ring ends.within)
    address ends.done
