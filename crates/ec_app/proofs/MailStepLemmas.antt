-- What a slave finds before it answers a mail: a mailbox that takes the answer, also once the request was
-- taken, and a request where the controller gave one.
use Rattle.std.proofs.Common.{◌≡◌, ℕ, ◌≤◌, Bool, true, false, not, cond, ◌&&◌, leb, List, length}
use Rattle.std.proofs.Common.{get_or, set, None, Some, Result, Ok, Err, sym, ◌∙◌, ap, refl, arith}
use Rattle.std.proofs.lemmas.Bool.{and_parts}
use Rattle.std.proofs.lemmas.Bool.Decides.{nat_tests}
use Rattle.std.proofs.lemmas.List.{drop-set-lt, get_or-set_other}
use Rattle.std.specs.Prelude.{bit_and}
use Rattle.std.specs.Result.{IsOk, result_err}
use Rattle.ec_regs.specs.declared.sync_man.SyncMan.{SyncMan}
use Rattle.ec_regs.specs.SyncMan.{is_active, is_mailbox, master_reads, master_writes}
use Rattle.ec_regs.specs.SyncMan.{is_full}
use Rattle.ec_areas.specs.Ranges.{has_sii}
use Rattle.ec_areas.specs.Records.{sync_manager_at}
use Rattle.ec_esc.specs.Application.{al_status, take_mail_fault, put_mail_fault, with_mail_taken}
use Rattle.ec_esc.specs.State.{ControllerState}
use Rattle.ec_esc.specs.declared.application.AreaFault.{AreaFault}
use Rattle.ec_app.specs.declared.mail.Mail.{Mail}
use Rattle.ec_app.specs.Mail.{mail_of, fault_for, counter_of}
use Rattle.ec_app.specs.MailStep.{has_mail, can_answer, has_request, is_kept, after_mail, after_bytes}
use Rattle.ec_app.specs.MailStep.{request_bytes, mail_step}
use Rattle.ec_app.specs.Roles.{is_answer_mailbox}
use Rattle.ec_app.specs.State.{SlaveState}

-- so bytes with a mail whose counter is not kept are answered as that mail
pub after_bytes-taken : (bs : List ℕ) (m : Mail) (s : SlaveState)
    → fault_for (has_sii s.controller.memory) bs ≡ None → m ≡ mail_of bs
    → is_kept s.application.kept m.counter ≡ false → after_mail m s ≡ after_bytes bs s
after_bytes-taken bs m s good fields other =
    let unkept : is_kept s.application.kept (counter_of bs) ≡ false =
    ap (λ (n : Mail). is_kept s.application.kept n.counter) (sym fields) ∙ other in
    rw (good, unkept) (ap (λ (n : Mail). after_mail n s) fields)

-- a result that is no fault is good
pub IsOk-result_err : {T E : Type 0} (r : Result T E) → result_err r ≡ None → IsOk r
IsOk-result_err (Ok x) none = refl
IsOk-result_err (Err e) none = absurd (cc)

-- ---- the mailbox of answers

-- an active mailbox has at least 16 bytes
pub mailbox_length-ge : (s : SyncMan) → is_active s ≡ true → is_mailbox s ≡ true → 16 ≤ s.length
unfolding is_active
mailbox_length-ge s active mailbox = grind (arith, nat_tests)

-- where a state has mails and its mailbox of answers is empty, the tests of a mail that fits find no fault
put_mail_fault-tests : (state active mailbox reads fits full : Bool) (a b c d : AreaFault) → fits ≡ true
    → state && (active && mailbox && reads) && not full ≡ true
    → cond (not active) (Some a)
    (cond (not (mailbox && reads)) (Some b) (cond (not fits) (Some c) (cond full (Some d) None))) ≡ None
put_mail_fault-tests true true true true true false a b c d room all = refl
put_mail_fault-tests true true true true true true a b c d room all = absurd (cc)
put_mail_fault-tests true true true true false full a b c d room all = absurd (cc)
put_mail_fault-tests true true true false fits full a b c d room all = absurd (cc)
put_mail_fault-tests true true false reads fits full a b c d room all = absurd (cc)
put_mail_fault-tests true false mailbox reads fits full a b c d room all = absurd (cc)
put_mail_fault-tests false active mailbox reads fits full a b c d room all = absurd (cc)

-- so where a mail may be answered, the mailbox takes sixteen bytes
pub put_mail_fault-can_answer : (c : ControllerState) (bs : List ℕ) → can_answer c ≡ true → length bs ≡ 16
    → put_mail_fault (sync_manager_at c.memory 1) bs ≡ None
put_mail_fault-can_answer c bs room sixteen =
    let s : SyncMan = sync_manager_at c.memory 1 in
    let answers : is_answer_mailbox s ≡ true = (and_parts _ _ (and_parts _ _ room).0).1 in
    let area = and_parts (is_active s && is_mailbox s) (master_reads s) answers in
    let kind = and_parts (is_active s) (is_mailbox s) area.0 in
    let enough : 16 ≤ s.length = mailbox_length-ge s kind.0 kind.1 in
    let fits : leb (length bs) s.length ≡ true = grind (arith, nat_tests) in
    put_mail_fault-tests (has_mail (al_status c).state) (is_active s) (is_mailbox s) (master_reads s)
    (leb (length bs) s.length) (is_full s) _ _ _ _ fits room

-- once a mail was taken, AL status is as before
al_status-taken : (m : List ℕ) (v : ℕ) → get_or (set m 2053 v) 304 0 ≡ get_or m 304 0
al_status-taken m v = get_or-set_other m 2053 304 v 0 (omega arith)

-- and so is the record of the mailbox of answers
pub sync_manager_at-taken : (m : List ℕ) (v : ℕ) → sync_manager_at (set m 2053 v) 1 ≡ sync_manager_at m 1
unfolding sync_manager_at
sync_manager_at-taken m v = rw (drop-set-lt 2056 m 2053 v (omega arith)) refl

-- so a mail may be answered once it was taken
pub can_answer-taken : (c : ControllerState) → can_answer (with_mail_taken c 0) ≡ can_answer c
can_answer-taken c =
    let status : ℕ = bit_and (get_or c.memory 2053 0) 247 in
    rw (al_status-taken c.memory status, sync_manager_at-taken c.memory status) refl

-- ---- the mailbox of requests

-- a mailbox gives a mail exactly where it is one that the master writes, and full
take_mail_fault-tests : (active mailbox writes full : Bool) (a b c : AreaFault)
    → cond (not active) (Some a)
    (cond (not (mailbox && writes)) (Some b) (cond (not full) (Some c) None)) ≡ None
    → active && mailbox && writes && full ≡ true
take_mail_fault-tests true true true true a b c none = refl
take_mail_fault-tests true true true false a b c none = absurd (cc)
take_mail_fault-tests true true false full a b c none = absurd (cc)
take_mail_fault-tests true false writes full a b c none = absurd (cc)
take_mail_fault-tests false mailbox writes full a b c none = absurd (cc)

-- so where a mail was taken the mail step is what its bytes ask for
pub mail_step-taken : (s : SlaveState) (bs : List ℕ) (taken : ControllerState)
    → can_answer s.controller ≡ true → take_mail_fault (sync_manager_at s.controller.memory 0) ≡ None
    → bs ≡ request_bytes s.controller → taken ≡ with_mail_taken s.controller 0
    → after_bytes bs (record s { controller = taken }) ≡ mail_step s
unfolding mail_step
mail_step-taken s bs taken room none bytes_are taken_is =
    let requests : SyncMan = sync_manager_at s.controller.memory 0 in
    let full : has_request s.controller ≡ true =
    take_mail_fault-tests (is_active requests) (is_mailbox requests) (master_writes requests)
    (is_full requests) _ _ _ none in
    rw (room, full, bytes_are, taken_is) refl
