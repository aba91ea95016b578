-- A step of a slave leaves the registers that neither of its two machines writes.
use Rattle.std.proofs.Common.{◌≡◌, ◌≢◌, ℕ, ◌+◌, ◌-◌, ◌<◌, ◌≤◌, Bool, true, false, ◌&&◌, ◌||◌, cond}
use Rattle.std.proofs.Common.{List, [], ◌∷◌, length, get_or, set, Option, None, Some, ◌∙◌, ap, refl, arith, inl, inr}
use Rattle.std.proofs.Common.{length-append, get_or-set_other}
use Rattle.std.specs.Prelude.{replicate, bit_and, bit_or}
use Rattle.std.specs.Int.{w16, to_le_bytes}
use Rattle.std.proofs.lemmas.Bool.{and_parts}
use Rattle.std.proofs.lemmas.List.{length-set, length-replicate}
use Rattle.ec_regs.specs.Al.{status_byte}
use Rattle.ec_regs.specs.AlStatusCode.{al_status_code}
use Rattle.ec_regs.specs.SyncMan.{is_active, is_mailbox, master_reads, status_address}
use Rattle.ec_regs.specs.declared.al.AlStatus.{AlStatus}
use Rattle.ec_regs.specs.declared.registers.TheConstants.{AL_STATUS, AL_STATUS_CODE}
use Rattle.ec_regs.specs.declared.registers.TheConstants.{MEMORY_SIZE, PROCESS_MEMORY}
use Rattle.ec_regs.specs.declared.sync_man.SyncMan.{SyncMan}
use Rattle.ec_areas.specs.Areas.{locks}
use Rattle.ec_areas.specs.Ranges.{has_sii}
use Rattle.ec_areas.specs.Records.{sync_manager_at}
use Rattle.ec_areas.proofs.Laws.{active_place}
use Rattle.ec_esc.specs.Application.{new_control, with_control_taken, with_al, al_status, mail_area}
use Rattle.ec_esc.specs.Application.{with_mail_taken, with_mail_put}
use Rattle.ec_esc.specs.State.{ControllerState, with_run}
use Rattle.ec_esc.proofs.Laws.{length-with_run, get_or-with_run_beside}
use Rattle.ec_app.specs.AbortCode.{abort_code}
use Rattle.ec_app.specs.AlStep.{al_answer, with_al_answer, after_request, al_step}
use Rattle.ec_app.specs.Left.{SameLeft}
use Rattle.ec_app.specs.Mail.{mail_bytes, mail_of, sent}
use Rattle.ec_app.specs.MailStep.{reply, mail_back, with_reply, mail_answer, after_mail, is_dropped}
use Rattle.ec_app.specs.MailStep.{after_bytes, can_answer, has_request, request_bytes, mail_step}
use Rattle.ec_app.specs.Roles.{is_answer_mailbox}
use Rattle.ec_app.specs.Sdo.{sdo_bytes, index, sub}
use Rattle.ec_app.specs.Slave.{step}
use Rattle.ec_app.specs.State.{SlaveState}
use Rattle.ec_app.specs.declared.al_step.AlAnswer.{AlAnswer}
use Rattle.ec_app.specs.declared.al_step.AlAnswer.TheVariants.{Ignored, Refused, Entered}
use Rattle.ec_app.specs.declared.mail.Mail.{Mail}
use Rattle.ec_app.specs.declared.mail.TheConstants.{REQUEST, RESPONSE}
use Rattle.ec_app.specs.declared.mail_step.MailAnswer.{MailAnswer}
use Rattle.ec_app.specs.declared.mail_step.MailAnswer.TheVariants.{Nothing, Aborted, Uploaded, Downloaded}
use Rattle.ec_app.specs.declared.roles.TheConstants.{REQUEST_MAILBOX, ANSWER_MAILBOX}
use Rattle.ec_app.specs.declared.sdo.Sdo.{Sdo}
use Rattle.ec_app.specs.declared.sdo.Sdo.TheVariants.{Abort, UploadAnswer, DownloadAnswer}
use Rattle.ec_app.specs.declared.value.Value.{Value}
use Rattle.ec_app.specs.declared.value.Value.TheVariants.{One, Two, Four}
use Rattle.ec_app.proofs.AreaLemmas.{area_free}
use Rattle.ec_app.proofs.MailStepLemmas.{mailbox_length-ge, can_answer-taken, sync_manager_at-taken}

-- ---- what stays

same_refl : (m : List ℕ) → SameLeft m m
same_refl m = record { size = refl; bytes = λ a left. refl }

same_then : (x y z : List ℕ) → SameLeft x y → SameLeft y z → SameLeft x z
same_then x y z one two =
    record { size = two.size ∙ one.size; bytes = λ a left. two.bytes a left ∙ one.bytes a left }

-- either way of a test
either : {S : Type 0} (P : S → Type 0) (b : Bool) (x y : S) → (b ≡ true → P x) → (b ≡ false → P y)
    → P (cond b x y)
either P true x y holds fails = holds refl
either P false x y holds fails = fails refl

-- ---- AL status

pub al_left : (c : ControllerState) (status : AlStatus) (code : ℕ) → length c.memory ≡ MEMORY_SIZE
    → SameLeft c.memory (with_al c status code).memory
al_left c status code size =
    let bytes : List ℕ = status_byte status ∷ 0 ∷ [] in
    let spelt : List ℕ = to_le_bytes w16 code in
    let first : List ℕ = with_run c.memory AL_STATUS bytes in
    let first_size : length first ≡ length c.memory = length-with_run c.memory bytes AL_STATUS (omega arith) in
    same_then c.memory first (with_run first AL_STATUS_CODE spelt)
    (record {
      size = first_size;
      bytes = λ a left. get_or-with_run_beside c.memory bytes AL_STATUS a (omega arith) left.al_status;
    })
    (record {
      size = length-with_run first spelt AL_STATUS_CODE (omega arith);
      bytes = λ a left. get_or-with_run_beside first spelt AL_STATUS_CODE a (omega arith) left.al_status_code;
    })

answered_left : (s : SlaveState) (answer : AlAnswer) → length s.controller.memory ≡ MEMORY_SIZE
    → SameLeft s.controller.memory (with_al_answer s answer).controller.memory
answered_left s Ignored size = same_refl s.controller.memory
answered_left s (Refused code) size =
    al_left s.controller (record { state = (al_status s.controller).state; error = true }) (al_status_code code)
    size
answered_left s (Entered state) size = al_left s.controller (record { state = state; error = false }) 0 size

request_left : (s : SlaveState) (request : Option ℕ) → length s.controller.memory ≡ MEMORY_SIZE
    → SameLeft s.controller.memory (after_request request s).controller.memory
request_left s None size = same_refl s.controller.memory
request_left s (Some control) size = answered_left s (al_answer s control) size

pub al_step_left : (s : SlaveState) → length s.controller.memory ≡ MEMORY_SIZE
    → SameLeft s.controller.memory (al_step s).controller.memory
unfolding al_step
al_step_left s size =
    request_left (record s { controller = with_control_taken s.controller }) (new_control s.controller) size

-- it leaves process memory, and what the application is shown
pub record KeepsProcess (c d : ControllerState) : Type 0 where
  pub shown : d.shown ≡ c.shown
  pub bytes : (a : ℕ) → PROCESS_MEMORY ≤ a → get_or d.memory a 0 ≡ get_or c.memory a 0

process_same : (c : ControllerState) → KeepsProcess c c
process_same c = record { shown = refl; bytes = λ a process. refl }

al_process : (c : ControllerState) (status : AlStatus) (code : ℕ) → length c.memory ≡ MEMORY_SIZE
    → KeepsProcess c (with_al c status code)
al_process c status code size =
    let bytes : List ℕ = status_byte status ∷ 0 ∷ [] in
    let spelt : List ℕ = to_le_bytes w16 code in
    let first : List ℕ = with_run c.memory AL_STATUS bytes in
    let first_size : length first ≡ length c.memory = length-with_run c.memory bytes AL_STATUS (omega arith) in
    record {
      shown = refl;
      bytes = λ a process.
          get_or-with_run_beside first spelt AL_STATUS_CODE a (omega arith) (inr (omega arith))
          ∙ get_or-with_run_beside c.memory bytes AL_STATUS a (omega arith) (inr (omega arith));
    }

answered_process : (s : SlaveState) (answer : AlAnswer) → length s.controller.memory ≡ MEMORY_SIZE
    → KeepsProcess s.controller (with_al_answer s answer).controller
answered_process s Ignored size = process_same s.controller
answered_process s (Refused code) size =
    al_process s.controller (record { state = (al_status s.controller).state; error = true }) (al_status_code code)
    size
answered_process s (Entered state) size =
    al_process s.controller (record { state = state; error = false }) 0 size

request_process : (s : SlaveState) (request : Option ℕ) → length s.controller.memory ≡ MEMORY_SIZE
    → KeepsProcess s.controller (after_request request s).controller
request_process s None size = process_same s.controller
request_process s (Some control) size = answered_process s (al_answer s control) size

pub al_step_process : (s : SlaveState) → length s.controller.memory ≡ MEMORY_SIZE
    → KeepsProcess s.controller (al_step s).controller
unfolding al_step
al_step_process s size =
    let taken : SlaveState = record s { controller = with_control_taken s.controller } in
    let kept = request_process taken (new_control s.controller) size in
    record { shown = kept.shown; bytes = kept.bytes }

-- ---- mail

-- the address is that of a register, and of neither mailbox's status
record IsBesideMail (address : ℕ) : Type 0 where
  requests : address ≢ status_address REQUEST_MAILBOX
  answers : address ≢ status_address ANSWER_MAILBOX
  register : address < PROCESS_MEMORY

-- two memories of one length in which these registers are the same
record SameBeside (before after : List ℕ) : Type 0 where
  size : length after ≡ length before
  bytes : (address : ℕ) → IsBesideMail address → get_or after address 0 ≡ get_or before address 0

beside_refl : (m : List ℕ) → SameBeside m m
beside_refl m = record { size = refl; bytes = λ a beside. refl }

beside_then : (x y z : List ℕ) → SameBeside x y → SameBeside y z → SameBeside x z
beside_then x y z one two =
    record { size = two.size ∙ one.size; bytes = λ a beside. two.bytes a beside ∙ one.bytes a beside }

taken_beside : (c : ControllerState) → SameBeside c.memory (with_mail_taken c 0).memory
taken_beside c =
    let status : ℕ = bit_and (get_or c.memory 2053 0) 247 in
    record {
      size = length-set c.memory 2053 status;
      bytes = λ a beside. get_or-set_other c.memory 2053 a status 0 beside.requests;
    }

filled_beside : (m : List ℕ) (status : ℕ) → SameBeside m (set m 2061 status)
filled_beside m status =
    record {
      size = length-set m 2061 status;
      bytes = λ a beside. get_or-set_other m 2061 a status 0 beside.answers;
    }

-- a mail of sixteen bytes lies in the mailbox of answers
put_beside : (c : ControllerState) (mail : List ℕ) → length c.memory ≡ MEMORY_SIZE → can_answer c ≡ true
    → length mail ≡ 16 → SameBeside c.memory (with_mail_put c 1 mail).memory
put_beside c mail size room sixteen =
    let s : SyncMan = sync_manager_at c.memory 1 in
    let answers : is_answer_mailbox s ≡ true = (and_parts _ _ (and_parts _ _ room).0).1 in
    let area = and_parts (is_active s && is_mailbox s) (master_reads s) answers in
    let kind = and_parts (is_active s) (is_mailbox s) area.0 in
    let enough : 16 ≤ s.length = mailbox_length-ge s kind.0 kind.1 in
    let place = active_place s kind.0 in
    let bytes : List ℕ = mail_area s mail in
    let zeros : List ℕ = replicate (s.length - length mail) 0 in
    let zeros_size : length zeros ≡ s.length - length mail = length-replicate {A = ℕ} (s.length - length mail) 0 in
    let bytes_size : length bytes ≡ s.length =
    omega (arith, length-append mail zeros, zeros_size, sixteen, enough) in
    let inside : s.start + length bytes ≤ length c.memory = omega (arith, place.1) in
    let put : List ℕ = with_run c.memory s.start bytes in
    beside_then c.memory put (with_mail_put c 1 mail).memory
    (record {
      size = length-with_run c.memory bytes s.start inside;
      bytes = λ a beside.
          get_or-with_run_beside c.memory bytes s.start a inside (inl (omega (arith, beside.register, place.0)));
    })
    (filled_beside put (bit_or (get_or put 2061 0) 8))

-- an answer to a mail has sixteen bytes, and its SDO eight of them
back_beside : (c : ControllerState) (m : Mail) (service : ℕ) (sdo : Sdo) → length c.memory ≡ MEMORY_SIZE
    → can_answer c ≡ true → length (sdo_bytes sdo) ≡ 8
    → SameBeside c.memory (with_reply c (Some (mail_back m service sdo))).memory
back_beside c m service sdo size room eight =
    put_beside c (mail_bytes (sent (mail_back m service sdo))) size room (omega (arith, eight))

-- the SDO of an answer to an upload has eight bytes
pub uploaded_eight : (i j : ℕ) (v : Value) → length (sdo_bytes (UploadAnswer i j v)) ≡ 8
uploaded_eight i j (One x) = refl
uploaded_eight i j (Two x) = refl
uploaded_eight i j (Four x) = refl

reply_beside : (c : ControllerState) (m : Mail) (answer : MailAnswer) → length c.memory ≡ MEMORY_SIZE
    → can_answer c ≡ true → SameBeside c.memory (with_reply c (reply m answer)).memory
reply_beside c m Nothing size room = beside_refl c.memory
reply_beside c m (Aborted reason) size room =
    back_beside c m REQUEST (Abort (index m.sdo) (sub m.sdo) (abort_code reason)) size room refl
reply_beside c m (Uploaded value) size room =
    back_beside c m RESPONSE (UploadAnswer (index m.sdo) (sub m.sdo) value) size room
    (uploaded_eight (index m.sdo) (sub m.sdo) value)
reply_beside c m (Downloaded value) size room =
    back_beside c m RESPONSE (DownloadAnswer (index m.sdo) (sub m.sdo)) size room refl

bytes_beside : (bytes : List ℕ) (s : SlaveState) → length s.controller.memory ≡ MEMORY_SIZE
    → can_answer s.controller ≡ true → SameBeside s.controller.memory (after_bytes bytes s).controller.memory
bytes_beside bytes s size room =
    let m : Mail = mail_of bytes in
    either (λ (t : SlaveState). SameBeside s.controller.memory t.controller.memory)
    (is_dropped (has_sii s.controller.memory) s.application.kept bytes) s (after_mail m s) (λ dropped. beside_refl s.controller.memory)
    (λ kept. reply_beside s.controller m (mail_answer m s.application.objects) size room)

mail_step_beside : (s : SlaveState) → length s.controller.memory ≡ MEMORY_SIZE
    → SameBeside s.controller.memory (mail_step s).controller.memory
unfolding mail_step
mail_step_beside s size =
    let c : ControllerState = s.controller in
    let taken : SlaveState = record s { controller = with_mail_taken c 0 } in
    let first = taken_beside c in
    either (λ (t : SlaveState). SameBeside c.memory t.controller.memory) (can_answer c && has_request c)
    (after_bytes (request_bytes c) taken) s
    (λ both.
    beside_then c.memory taken.controller.memory (after_bytes (request_bytes c) taken).controller.memory first
    (bytes_beside (request_bytes c) taken (first.size ∙ size)
    (can_answer-taken c ∙ (and_parts (can_answer c) (has_request c) both).0)))
    (λ none. beside_refl c.memory)

-- so it leaves what a step leaves
pub mail_step_left : (s : SlaveState) → length s.controller.memory ≡ MEMORY_SIZE
    → SameLeft s.controller.memory (mail_step s).controller.memory
mail_step_left s size =
    let same = mail_step_beside s size in
    record {
      size = same.size;
      bytes = λ a left.
          same.bytes a
          (record { requests = left.requests; answers = left.answers; register = left.register });
    }

-- and AL status
pub mail_step_status : (s : SlaveState) → length s.controller.memory ≡ MEMORY_SIZE
    → get_or (mail_step s).controller.memory AL_STATUS 0 ≡ get_or s.controller.memory AL_STATUS 0
mail_step_status s size =
    (mail_step_beside s size).bytes AL_STATUS
    (record {
      requests = λ is. omega (arith, is);
      answers = λ is. omega (arith, is);
      register = omega arith;
    })

-- ---- the outputs

-- what the application is shown, and each byte of process memory that the mailbox of answers does not lock
pub record LeavesOutputs (c d : ControllerState) : Type 0 where
  pub shown : d.shown ≡ c.shown
  pub bytes : (a : ℕ) → PROCESS_MEMORY ≤ a → locks (sync_manager_at c.memory 1) a ≡ false
      → get_or d.memory a 0 ≡ get_or c.memory a 0

outputs_same : (c : ControllerState) → LeavesOutputs c c
outputs_same c = record { shown = refl; bytes = λ a process free. refl }

first_of : (a b : Bool) → a ≡ true → (a || b) ≡ true
first_of true b is = refl
first_of false b is = absurd (cc)

put_outputs : (c : ControllerState) (mail : List ℕ) → length c.memory ≡ MEMORY_SIZE → can_answer c ≡ true
    → length mail ≡ 16 → LeavesOutputs c (with_mail_put c 1 mail)
put_outputs c mail size room sixteen =
    let s : SyncMan = sync_manager_at c.memory 1 in
    let answers : is_answer_mailbox s ≡ true = (and_parts _ _ (and_parts _ _ room).0).1 in
    let area = and_parts (is_active s && is_mailbox s) (master_reads s) answers in
    let kind = and_parts (is_active s) (is_mailbox s) area.0 in
    let enough : 16 ≤ s.length = mailbox_length-ge s kind.0 kind.1 in
    let bytes : List ℕ = mail_area s mail in
    let zeros : List ℕ = replicate (s.length - length mail) 0 in
    let zeros_size : length zeros ≡ s.length - length mail = length-replicate {A = ℕ} (s.length - length mail) 0 in
    let fits : length bytes ≤ s.length = omega (arith, length-append mail zeros, zeros_size, sixteen, enough) in
    let put : List ℕ = with_run c.memory s.start bytes in
    let status : ℕ = bit_or (get_or put 2061 0) 8 in
    record {
      shown = refl;
      bytes = λ a process free.
          get_or-set_other put 2061 a status 0 (λ is. omega (arith, is, process))
          ∙ area_free c.memory s a bytes size kind.0 (first_of (is_mailbox s) (master_reads s) kind.1) fits free;
    }

back_outputs : (c : ControllerState) (m : Mail) (service : ℕ) (sdo : Sdo) → length c.memory ≡ MEMORY_SIZE
    → can_answer c ≡ true → length (sdo_bytes sdo) ≡ 8
    → LeavesOutputs c (with_reply c (Some (mail_back m service sdo)))
back_outputs c m service sdo size room eight =
    put_outputs c (mail_bytes (sent (mail_back m service sdo))) size room (omega (arith, eight))

reply_outputs : (c : ControllerState) (m : Mail) (answer : MailAnswer) → length c.memory ≡ MEMORY_SIZE
    → can_answer c ≡ true → LeavesOutputs c (with_reply c (reply m answer))
reply_outputs c m Nothing size room = outputs_same c
reply_outputs c m (Aborted reason) size room =
    back_outputs c m REQUEST (Abort (index m.sdo) (sub m.sdo) (abort_code reason)) size room refl
reply_outputs c m (Uploaded value) size room =
    back_outputs c m RESPONSE (UploadAnswer (index m.sdo) (sub m.sdo) value) size room
    (uploaded_eight (index m.sdo) (sub m.sdo) value)
reply_outputs c m (Downloaded value) size room =
    back_outputs c m RESPONSE (DownloadAnswer (index m.sdo) (sub m.sdo)) size room refl

bytes_outputs : (bytes : List ℕ) (s : SlaveState) → length s.controller.memory ≡ MEMORY_SIZE
    → can_answer s.controller ≡ true → LeavesOutputs s.controller (after_bytes bytes s).controller
bytes_outputs bytes s size room =
    let m : Mail = mail_of bytes in
    either (λ (t : SlaveState). LeavesOutputs s.controller t.controller)
    (is_dropped (has_sii s.controller.memory) s.application.kept bytes) s (after_mail m s) (λ dropped. outputs_same s.controller)
    (λ kept. reply_outputs s.controller m (mail_answer m s.application.objects) size room)

pub mail_step_outputs : (s : SlaveState) → length s.controller.memory ≡ MEMORY_SIZE
    → LeavesOutputs s.controller (mail_step s).controller
unfolding mail_step
mail_step_outputs s size =
    let c : ControllerState = s.controller in
    let taken : SlaveState = record s { controller = with_mail_taken c 0 } in
    let status : ℕ = bit_and (get_or c.memory 2053 0) 247 in
    either (λ (t : SlaveState). LeavesOutputs c t.controller) (can_answer c && has_request c)
    (after_bytes (request_bytes c) taken) s
    (λ both.
    let answered = bytes_outputs (request_bytes c) taken ((taken_beside c).size ∙ size)
    (can_answer-taken c ∙ (and_parts (can_answer c) (has_request c) both).0) in
    record {
      shown = answered.shown;
      bytes = λ a process free.
          answered.bytes a process
          (ap (λ (t : SyncMan). locks t a) (sync_manager_at-taken c.memory status) ∙ free)
          ∙ get_or-set_other c.memory 2053 a status 0 (λ is. omega (arith, is, process));
    })
    (λ none. outputs_same c)

-- ---- a step

pub step_leaves : (s : SlaveState) → length s.controller.memory ≡ MEMORY_SIZE
    → SameLeft s.controller.memory (step s).controller.memory
unfolding step
step_leaves s size =
    let first = al_step_left s size in
    same_then s.controller.memory (al_step s).controller.memory (step s).controller.memory first
    (mail_step_left (al_step s) (first.size ∙ size))
