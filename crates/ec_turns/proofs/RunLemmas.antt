-- An object that is read by turns is read as by one call that waits.
use Rattle.std.proofs.Common.{◌≡◌, ℕ, zero, suc, ◌-◌, ◌==◌, Bool, true, false, Option, None, Some, Result, Ok}
use Rattle.std.proofs.Common.{Err, sym, ◌∙◌, ap, subst, refl, arith, if◌then◌else◌}
use Rattle.std.proofs.lemmas.Bool.Decides.{nat_tests}
use Rattle.ec_wire.specs.Datagram.{DatagramRecord}
use Rattle.ec_app.specs.declared.mail.Mail.{Mail}
use Rattle.ec_app.specs.declared.mail.TheConstants.{RESPONSE}
use Rattle.ec_app.specs.declared.sdo.Sdo.{Sdo}
use Rattle.ec_app.specs.declared.sdo.Sdo.TheVariants as sdo
use Rattle.ec_app.specs.declared.value.Value.{Value}
use Rattle.ec_master.specs.Ports.{Trips}
use Rattle.ec_ring.specs.declared.port.PortFault.{PortFault}
use Rattle.ec_ring.specs.declared.weather.Came.{Came}
use Rattle.ec_services.specs.Ask.{Answer as AnswerBack, Brings}
use Rattle.ec_services.specs.Course.{IsStep, Runs}
use Rattle.ec_services.specs.Surely.{IsSure, asking, begun as begun_with, next_decides, next_sent, told_of}
use Rattle.ec_services.specs.Transfer.{uploaded_by, uploading}
use Rattle.ec_services.specs.declared.fault.MasterFault.{MasterFault}
use Rattle.ec_services.specs.declared.fault.MasterFault.TheVariants as faults
use Rattle.ec_services.specs.declared.mailbox.Peer.{Peer}
use Rattle.ec_services.specs.declared.settling.Mailboxes.{Mailboxes}
use Rattle.ec_services.specs.declared.settling.Mailboxes.TheVariants as boxes
use Rattle.ec_services.specs.declared.surely.Progress.{Progress}
use Rattle.ec_acyclic.specs.Next.{TalkState}
use Rattle.ec_acyclic.specs.Question.{as_value}
use Rattle.ec_acyclic.specs.Talk.{begun, given_up, resumed}
use Rattle.ec_acyclic.specs.Turn.{IsTurnUnless, turn_of, turn_told}
use Rattle.ec_acyclic.specs.declared.next.Next.{Next}
use Rattle.ec_acyclic.specs.declared.next.Next.TheVariants.{Upload}
use Rattle.ec_acyclic.specs.declared.service.Answer.{Answer}
use Rattle.ec_acyclic.specs.declared.service.Answer.TheVariants.{Value as TheValue}
use Rattle.ec_acyclic.specs.declared.service.Service.TheVariants.{Read}
use Rattle.ec_acyclic.specs.declared.turn.Turn.{Turn}
use Rattle.ec_acyclic.specs.declared.turn.Turn.TheVariants.{Goes, Ended}
use Rattle.ec_turns.specs.Run.{ServiceRuns}

-- ---- no trip and no mail tells that there is no slave

brings_other : (sent : DatagramRecord) (came : Result Came PortFault) (fault : MasterFault)
    → Brings sent came (Err fault) → fault ≡ faults.NoSlave → ⊥
brings_other sent (Err failed) fault is e = absurd (cc)
brings_other sent (Ok came) fault (is, comes) e = absurd (cc)

decides_other : (known : Mailboxes) (asked : Sdo) (k : Progress) (back : AnswerBack) (fault : MasterFault)
    → next_decides asked (record k { known = known }) back ≡ Err fault → back ≡ Err fault
decides_other boxes.Unknown asked k (Err f) fault is =
    let same : f ≡ fault = cc in ap (λ (x : MasterFault). Err x) same
decides_other boxes.Unknown asked k (Ok back) fault is = absurd (cc)
decides_other boxes.AnswerWaits asked k (Err f) fault is =
    let same : f ≡ fault = cc in ap (λ (x : MasterFault). Err x) same
decides_other boxes.AnswerWaits asked k (Ok back) fault is = absurd (cc)
decides_other boxes.Empty asked k (Err f) fault is =
    let same : f ≡ fault = cc in ap (λ (x : MasterFault). Err x) same
decides_other boxes.Empty asked k (Ok back) fault is = absurd (cc)

step_other : {P : Type 0} (trips : Trips P) (before later : P) (asked : Sdo) (known known_later : Progress)
    → IsStep trips before (asking asked) known (Err faults.NoSlave) known_later later → ⊥
step_other trips before later asked known known_later step =
    let is : step.answer ≡ Err faults.NoSlave =
    decides_other known.known asked known step.answer faults.NoSlave (sym step.decides) in
    let brings : Brings (next_sent asked known) step.asks.came (Err faults.NoSlave) =
    subst (λ (a : AnswerBack). Brings (next_sent asked known) step.asks.came a) is step.asks.brings in
    brings_other _ step.asks.came faults.NoSlave brings refl

uploads_in : (s : Sdo) (b : Bool)
    → (elim s as (λ (x : Sdo). Result Value MasterFault) [
      | sdo.UploadAnswer i j value ↦ if b then Ok value else Err faults.BadAnswer
      | sdo.Abort i j code ↦ Err (faults.Abort code)
      | _ ↦ Err faults.BadAnswer
    ]) ≡ Err faults.NoSlave → ⊥
uploads_in (sdo.Upload i j) b is = absurd (cc)
uploads_in (sdo.UploadAnswer i j value) true is = absurd (cc)
uploads_in (sdo.UploadAnswer i j value) false is = absurd (cc)
uploads_in (sdo.Download i j value) b is = absurd (cc)
uploads_in (sdo.DownloadAnswer i j) b is = absurd (cc)
uploads_in (sdo.Abort i j code) b is = absurd (cc)
uploads_in (sdo.Other x) b is = absurd (cc)

uploads_other : (m : Mail) → uploaded_by m ≡ Err faults.NoSlave → ⊥
uploads_other m is = uploads_in m.sdo (m.service == RESPONSE) is

-- ---- the trips of a reading

record IsFound {P : Type 0} (trips : Trips P) (before : P) (index sub : ℕ) (known : Progress) (left : ℕ)
    (value : Value) (later : P) : Type 0 where
  mail : Mail
  last : Progress
  runs : Runs trips before (asking (sdo.Upload index sub)) known left (Ok mail) last later
  is : uploaded_by mail ≡ Ok value

abbrev Behind : {P : Type 0} → Trips P → P → ℕ → Result Answer MasterFault → P → Turn → Type 0
Behind trips between n told later turn = elim turn [
  | Goes next ↦ ServiceRuns trips between next n told later
  | Ended ended ↦ (told ≡ ended) × (later ≡ between)
]

fault_ends : {P : Type 0} (trips : Trips P) (between later : P) (n : ℕ) (t : TalkState) (next : Next)
    (value : Value) (fault : MasterFault) → (fault ≡ faults.NoSlave → ⊥)
    → Behind trips between n (Ok (TheValue value)) later (turn_told t next (Err fault)) → ⊥
fault_ends trips between later n t next value faults.NoSlave other behind = absurd (other refl)
fault_ends trips between later n t next value (faults.Refused code) other (is, same) = absurd (cc)
fault_ends trips between later n t next value (faults.Abort code) other (is, same) = absurd (cc)
fault_ends trips between later n t next value faults.NoAnswer other (is, same) = absurd (cc)
fault_ends trips between later n t next value faults.BadAnswer other (is, same) = absurd (cc)
fault_ends trips between later n t next value faults.Broken other (is, same) = absurd (cc)
fault_ends trips between later n t next value faults.Port other (is, same) = absurd (cc)
fault_ends trips between later n t next value faults.Stranger other (is, same) = absurd (cc)

mail_found : {P : Type 0} (trips : Trips P) (n left : ℕ) (before between later : P) (index sub : ℕ)
    (t : TalkState) (next : Next) (known known_later : Progress) (mail : Mail) (value : Value)
    (u : Result Value MasterFault) → uploaded_by mail ≡ u
    → IsStep trips before (asking (sdo.Upload index sub)) known (Ok (Some mail)) known_later between
    → Behind trips between n (Ok (TheValue value)) later
    (turn_told t next
    (as_value (elim u as (λ (x : Result Value MasterFault). Result (Option Value) MasterFault) [
      | Err fault ↦ Err fault
      | Ok v ↦ Ok (Some v)
    ])))
    → IsFound trips before index sub known (suc left) value later
unfolding Runs
mail_found trips n left before between later index sub t next known known_later mail value (Err fault) e step
    behind =
    absurd
    (fault_ends trips between later n t next value fault
    (λ same. uploads_other mail (e ∙ ap (λ (f : MasterFault). Err f) same)) behind)
mail_found trips n left before between later index sub t next known known_later mail value (Ok v) e step
    (is, same) =
    let v_is : Ok v ≡ Ok value = cc in
    record {
      mail = mail;
      last = known_later;
      runs = (Ok (Some mail), known_later, between, step, (refl, refl, same));
      is = e ∙ v_is;
    }

told_found : {P : Type 0} (trips : Trips P) (n left : ℕ) (before between later : P) (station index sub : ℕ)
    (unanswered : ℕ) (known known_later : Progress) (value : Value)
    (decided : Result (Option Mail) MasterFault)
    → IsStep trips before (asking (sdo.Upload index sub)) known decided known_later between
    → Behind trips between n (Ok (TheValue value)) later
    (turn_told (resumed station (Upload index sub known) unanswered (suc left)) (Upload index sub known_later)
    (as_value (told_of uploaded_by decided)))
    → (ServiceRuns trips between (resumed station (Upload index sub known_later) 0 left) n
    (Ok (TheValue value)) later
    → IsFound trips between index sub known_later left value later)
    → IsFound trips before index sub known (suc left) value later
unfolding Runs
told_found trips n left before between later station index sub unanswered known known_later value (Err fault)
    step behind on =
    absurd
    (fault_ends trips between later n (resumed station (Upload index sub known) unanswered (suc left))
    (Upload index sub known_later) value fault
    (λ same. step_other trips before between (sdo.Upload index sub) known known_later
    (subst
    (λ (f : MasterFault). IsStep trips before (asking (sdo.Upload index sub)) known (Err f) known_later
    between) same step))
    behind)
told_found trips n left before between later station index sub unanswered known known_later value (Ok None)
    step behind on =
    let same : suc left - 1 ≡ left = omega arith in
    let left_runs : ServiceRuns trips between (resumed station (Upload index sub known_later) 0 left) n
    (Ok (TheValue value)) later =
    subst
    (λ (k : ℕ). ServiceRuns trips between (resumed station (Upload index sub known_later) 0 k) n
    (Ok (TheValue value)) later) same behind in
    let found : IsFound trips between index sub known_later left value later = on left_runs in
    record {
      mail = found.mail;
      last = found.last;
      runs = (Ok None, known_later, between, step, found.runs);
      is = found.is;
    }
told_found trips n left before between later station index sub unanswered known known_later value
    (Ok (Some mail)) step behind on =
    mail_found trips n left before between later index sub
    (resumed station (Upload index sub known) unanswered (suc left)) (Upload index sub known_later) known
    known_later mail value (uploaded_by mail) refl step behind

turn_found : {P : Type 0} (trips : Trips P) (n left : ℕ) (before between later : P) (station index sub : ℕ)
    (unanswered : ℕ) (known : Progress) (value : Value) (turn : Turn)
    → IsTurnUnless trips before (resumed station (Upload index sub known) unanswered (suc left)) None turn
    between
    → Behind trips between n (Ok (TheValue value)) later turn
    → ((known_later : Progress) → ServiceRuns trips between
    (resumed station (Upload index sub known_later) 0 left) n (Ok (TheValue value)) later
    → IsFound trips between index sub known_later left value later)
    → IsFound trips before index sub known (suc left) value later
turn_found trips n left before between later station index sub unanswered known value turn
    (replied, (told, known_later, goes, replied_is), is) behind on =
    told_found trips n left before between later station index sub unanswered known known_later value
    goes.decided goes.step
    (subst (λ (x : Turn). Behind trips between n (Ok (TheValue value)) later x)
    (is ∙ (ap (turn_of (resumed station (Upload index sub known) unanswered (suc left))) replied_is
    ∙ ap
    (λ (x : Result (Option Value) MasterFault). turn_told
    (resumed station (Upload index sub known) unanswered (suc left)) (Upload index sub known_later)
    (as_value x)) goes.tells)) behind)
    (on known_later)

runs_found : {P : Type 0} (trips : Trips P) (n left : ℕ) (before later : P) (station index sub : ℕ)
    (unanswered : ℕ) (known : Progress) (value : Value)
    → ServiceRuns trips before (resumed station (Upload index sub known) unanswered left) n
    (Ok (TheValue value)) later
    → IsFound trips before index sub known left value later
unfolding ServiceRuns
runs_found trips zero left before later station index sub unanswered known value runs = absurd runs
runs_found trips (suc n) zero before later station index sub unanswered known value
    (turn, between, (is, same), behind) =
    let behind_is : Behind trips between n (Ok (TheValue value)) later (Ended (Err faults.NoAnswer)) =
    subst (λ (x : Turn). Behind trips between n (Ok (TheValue value)) later x) is behind in
    absurd (let e : Ok (TheValue value) ≡ Err faults.NoAnswer = behind_is.0 in cc)
runs_found trips (suc n) (suc left) before later station index sub unanswered known value
    (turn, between, taken, behind) =
    let t : TalkState = resumed station (Upload index sub known) unanswered (suc left) in
    let some : (suc left == 0) ≡ false = grind (arith, nat_tests) in
    let asks : given_up t ≡ None =
    ap (λ (b : Bool). if b then Some faults.NoAnswer else None) some in
    turn_found trips n left before between later station index sub unanswered known value turn
    (subst (λ (w : Option MasterFault). IsTurnUnless trips before t w turn between) asks taken) behind
    (λ known_later left_runs. runs_found trips n left between later station index sub 0 known_later value
    left_runs)

-- what is read by turns is read as by one call of so many trips
pub read_by_turns : {P : Type 0} (trips : Trips P) (n : ℕ) (before later : P) (station index sub : ℕ)
    (peer : Peer) (most : ℕ) (value : Value)
    → ServiceRuns trips before (begun (Read index sub) station (Some peer) most) n (Ok (TheValue value)) later
    → (peer_later : Peer) × IsSure trips before peer (uploading index sub) most (Ok value) peer_later later
read_by_turns trips n before later station index sub peer most value runs =
    let found : IsFound trips before index sub (begun_with peer) most value later =
    runs_found trips n most before later station index sub 0 (begun_with peer) value runs in (
      found.last.peer,
      record {
        answer = Ok found.mail;
        last = found.last;
        runs = found.runs;
        peer_is = refl;
        understands = sym found.is;
      },
    )
