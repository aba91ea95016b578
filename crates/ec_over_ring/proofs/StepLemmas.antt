-- The step of a slave: with a request in its mailbox it puts the answer into the other one, and with none it
-- does nothing.
use Rattle.std.proofs.Common.{◌≡◌, ℕ, ◌+◌, ◌-◌, ◌<◌, ◌≤◌, Bool, true, false, cond, ◌&&◌, ◌||◌, List}
use Rattle.std.proofs.Common.{◌++◌, length, take, drop, get_or, set, Option, None, Some, refl, sym, ap}
use Rattle.std.proofs.Common.{◌∙◌, arith, inl, replicate, length-append, append_assoc}
use Rattle.std.proofs.Common.{get_or-set_other, get_or-set_same}
use Rattle.std.specs.Prelude.{bit_and, bit_or}
use Rattle.std.specs.Int.{bit_at}
use Rattle.std.specs.Option.{is_some}
use Rattle.std.proofs.Math.Bool.{and-false}
use Rattle.std.proofs.lemmas.Bool.{and_parts, and_from}
use Rattle.std.proofs.lemmas.Bool.Decides.{nat_tests}
use Rattle.std.proofs.lemmas.List.{length-set, length-replicate, length-take-le, take_at, drop_at}
use Rattle.ec_regs.specs.SyncMan.{is_active, is_mailbox, is_full, master_reads}
use Rattle.ec_regs.specs.declared.registers.TheConstants.{MEMORY_SIZE}
use Rattle.ec_regs.specs.declared.sync_man.SyncMan.{SyncMan}
use Rattle.ec_areas.specs.Records.{sync_manager_at}
use Rattle.ec_areas.proofs.Laws.{active_place}
use Rattle.ec_areas.specs.Ranges.{has_sii}
use Rattle.ec_esc.specs.Application.{mail_area, with_control_taken, with_mail_taken, with_mail_put}
use Rattle.ec_esc.specs.State.{ControllerState, with_run, word_at}
use Rattle.ec_esc.proofs.Laws.{length-with_run, get_or-with_run_beside}
use Rattle.ec_app.specs.AlStep.{after_request, al_step}
use Rattle.ec_app.specs.Mail.{mail_bytes, mail_of, counter_of, sent, IsMail}
use Rattle.ec_app.specs.MailStep.{after_bytes, after_mail, can_answer, has_request, is_dropped, is_kept}
use Rattle.ec_app.specs.MailStep.{mail_step, request_bytes}
use Rattle.ec_app.specs.Roles.{is_answer_mailbox, is_request_mailbox}
use Rattle.ec_app.specs.Slave.{step}
use Rattle.ec_app.specs.State.{SlaveState}
use Rattle.ec_app.specs.declared.mail.Mail.{Mail}
use Rattle.ec_app.specs.declared.mail.MailFault.{MailFault}
use Rattle.ec_app.proofs.Laws.{no_fault_for}
use Rattle.ec_over_ring.proofs.AnswerLemmas.{Outcome, outcome_of, with_outcome}
use Rattle.ec_over_ring.proofs.MailboxLemmas.{set_bit, clear_bit, run_set}
use Rattle.ec_over_ring.proofs.ManagerLemmas.{SameBut, but_then, start_same, length_same, answers_same}
use Rattle.ec_over_ring.proofs.SpellingLemmas.{read_back, no_fault}

-- ---- nothing to do

-- no new state is asked for
pub idle_al : (t : SlaveState) → t.controller.written ≡ false → al_step t ≡ t
unfolding al_step
idle_al t none =
    let c : ControllerState = t.controller in
    let taken : SlaveState = record t { controller = with_control_taken c } in
    ap (λ (b : Bool). after_request (cond b (Some (word_at c.memory 288)) None) taken) none
    ∙ ap (λ (b : Bool). record t { controller = record c { written = b } }) (sym none)

-- no request is there
idle_mail : (t : SlaveState) → has_request t.controller ≡ false → mail_step t ≡ t
unfolding mail_step
idle_mail t none =
    let c : ControllerState = t.controller in
    let taken : SlaveState = record t { controller = with_mail_taken c 0 } in
    ap (λ (b : Bool). cond (can_answer c && b) (after_bytes (request_bytes c) taken) t) none
    ∙ ap (λ (b : Bool). cond b (after_bytes (request_bytes c) taken) t) (and-false (can_answer c))

pub empty_mail : (t : SlaveState) → is_full (sync_manager_at t.controller.memory 0) ≡ false
    → mail_step t ≡ t
empty_mail t empty =
    let s : SyncMan = sync_manager_at t.controller.memory 0 in
    idle_mail t (ap (λ (b : Bool). is_request_mailbox s && b) empty ∙ and-false (is_request_mailbox s))

pub idle : (t : SlaveState) → t.controller.written ≡ false
    → is_full (sync_manager_at t.controller.memory 0) ≡ false → step t ≡ t
unfolding step
idle t unasked empty = ap (λ (x : SlaveState). mail_step x) (idle_al t unasked) ∙ empty_mail t empty

-- ---- a request

-- it is answered as the mail that the bytes spell
mail_answered : (t : SlaveState) (m : Mail) (rest : List ℕ) → can_answer t.controller ≡ true
    → has_request t.controller ≡ true → request_bytes t.controller ≡ mail_bytes m ++ rest → IsMail m
    → is_kept t.application.kept m.counter ≡ false
    → mail_step t
    ≡ with_outcome m (record t { controller = with_mail_taken t.controller 0 })
    (outcome_of m t.application.objects)
unfolding mail_step
mail_answered t m rest can has bytes_are is other =
    let c : ControllerState = t.controller in
    let taken : SlaveState = record t { controller = with_mail_taken c 0 } in
    let bytes : List ℕ = mail_bytes m ++ rest in
    let back : mail_of bytes ≡ m = read_back m rest is in
    let device : Bool = has_sii taken.controller.memory in
    let kept : is_dropped device t.application.kept bytes ≡ false =
    ap (λ (o : Option MailFault). is_some o || is_kept t.application.kept (counter_of bytes))
    (no_fault_for device bytes (no_fault m rest is))
    ∙ ap (λ (n : Mail). is_kept t.application.kept n.counter) back ∙ other in
    ap (λ (b : Bool). cond b (after_bytes (request_bytes c) taken) t) (and_from _ _ can has)
    ∙ ap (λ (x : List ℕ). after_bytes x taken) bytes_are
    ∙ ap (λ (b : Bool). cond b taken (after_mail (mail_of bytes) taken)) kept
    ∙ ap (λ (n : Mail). after_mail n taken) back

-- what the slave is then
abbrev pub answer_put : SlaveState → ℕ → Outcome → Mail → SlaveState
answer_put t counter o mail = record {
  controller = with_mail_put (with_mail_taken t.controller 0) 1 (mail_bytes (sent mail));
  application = record t.application { objects = o.1; kept = Some counter };
}

pub answers_request : (t : SlaveState) (m mail : Mail) (rest : List ℕ) → t.controller.written ≡ false
    → can_answer t.controller ≡ true
    → has_request t.controller ≡ true → request_bytes t.controller ≡ mail_bytes m ++ rest → IsMail m
    → is_kept t.application.kept m.counter ≡ false
    → (outcome_of m t.application.objects).0 ≡ Some mail
    → step t ≡ answer_put t m.counter (outcome_of m t.application.objects) mail
unfolding step
answers_request t m mail rest unasked can has bytes_are is other answer =
    let o : Outcome = outcome_of m t.application.objects in
    let taken : SlaveState = record t { controller = with_mail_taken t.controller 0 } in
    ap (λ (x : SlaveState). mail_step x) (idle_al t unasked)
    ∙ mail_answered t m rest can has bytes_are is other
    ∙ ap (λ (x : Option Mail). with_outcome m taken (x, o.1)) answer

-- ---- the mailboxes then

-- the answer fills its mailbox, the request is gone, and else no register has changed
pub record IsAnswering (c : ControllerState) (from n : ℕ) (mail : List ℕ) (after : ControllerState)
    : Type 0 where
  pub same : SameBut c.memory after.memory
  pub unasked : after.written ≡ c.written
  pub mail_is : take n (drop from after.memory) ≡ mail ++ replicate (n - length mail) 0
  pub empty : bit_at (get_or after.memory 2053 0) 3 ≡ 0
  pub full : bit_at (get_or after.memory 2061 0) 3 ≡ 1

-- a run that was put stands where it was put
pub run_put : (m ys : List ℕ) (at n : ℕ) → at ≤ length m → length ys ≡ n
    → take n (drop at (with_run m at ys)) ≡ ys
run_put m ys at n inside size =
    let zs : List ℕ = drop (at + length ys) m in
    ap (λ (xs : List ℕ). take n (drop at xs)) (append_assoc (take at m) ys zs)
    ∙ ap (λ (xs : List ℕ). take n xs) (drop_at (take at m) (ys ++ zs) at (length-take-le at m inside))
    ∙ take_at ys zs n size

-- a mail of sixteen bytes is put
pub put_facts : (c : ControllerState) (s : SyncMan) (mail : List ℕ) → length c.memory ≡ MEMORY_SIZE
    → is_active s ≡ true → 16 ≤ s.length → length mail ≡ 16
    → let put = with_run c.memory s.start (mail_area s mail) in
    SameBut c.memory (set put 2061 (bit_or (get_or put 2061 0) 8))
    × (take s.length (drop s.start (set put 2061 (bit_or (get_or put 2061 0) 8))) ≡ mail_area s mail)
    × (get_or (set put 2061 (bit_or (get_or put 2061 0) 8)) 2053 0 ≡ get_or c.memory 2053 0)
    × (bit_at (get_or (set put 2061 (bit_or (get_or put 2061 0) 8)) 2061 0) 3 ≡ 1)
put_facts c s mail size active room sixteen =
    let bytes : List ℕ = mail_area s mail in
    let zeros : List ℕ = replicate (s.length - length mail) 0 in
    let place = active_place s active in
    let zeros_size : length zeros ≡ s.length - length mail =
    length-replicate {A = ℕ} (s.length - length mail) 0 in
    let bytes_size : length bytes ≡ s.length =
    omega (arith, length-append mail zeros, zeros_size, sixteen, room) in
    let inside : s.start + length bytes ≤ length c.memory = omega (arith, place.1, bytes_size, size) in
    let put : List ℕ = with_run c.memory s.start bytes in
    let put_size : length put ≡ length c.memory = length-with_run c.memory bytes s.start inside in
    let v : ℕ = bit_or (get_or put 2061 0) 8 in
    let kept : (a : ℕ) → a < 4096 → get_or put a 0 ≡ get_or c.memory a 0 =
    λ a low. get_or-with_run_beside c.memory bytes s.start a inside (inl (omega (arith, low, place.0))) in (
      record {
        size = length-set put 2061 v ∙ put_size;
        bytes = λ a low requests answers. get_or-set_other put 2061 a v 0 answers ∙ kept a low;
      },
      run_set put 2061 v s.start s.length (omega (arith, place.0))
          ∙ run_put c.memory bytes s.start s.length (omega (arith, inside)) bytes_size,
      get_or-set_other put 2061 2053 v 0 (omega arith) ∙ kept 2053 (omega arith),
      ap (λ (x : ℕ). bit_at x 3) (get_or-set_same put 2061 v 0 (omega (arith, put_size, size)))
          ∙ set_bit (get_or put 2061 0),
    )

-- a mailbox has sixteen bytes or more
pub enough_room : (s : SyncMan) → is_active s ≡ true → is_mailbox s ≡ true → 16 ≤ s.length
unfolding is_active
enough_room s active mailbox = grind (arith, nat_tests)

pub is_answering : (c : ControllerState) (mail : List ℕ) (from n : ℕ) → length c.memory ≡ MEMORY_SIZE
    → is_answer_mailbox (sync_manager_at c.memory 1) ≡ true → length mail ≡ 16
    → (sync_manager_at c.memory 1).start ≡ from → (sync_manager_at c.memory 1).length ≡ n
    → IsAnswering c from n mail (with_mail_put (with_mail_taken c 0) 1 mail)
is_answering c mail from n size answers sixteen start_is length_is =
    let v : ℕ = bit_and (get_or c.memory 2053 0) 247 in
    let taken : ControllerState = with_mail_taken c 0 in
    let first : SameBut c.memory taken.memory = record {
      size = length-set c.memory 2053 v;
      bytes = λ a low requests answers. get_or-set_other c.memory 2053 a v 0 requests;
    } in
    let s : SyncMan = sync_manager_at taken.memory 1 in
    let kind = and_parts (is_active s && is_mailbox s) (master_reads s)
    (answers_same c.memory taken.memory first ∙ answers) in
    let active = and_parts (is_active s) (is_mailbox s) kind.0 in
    let facts = put_facts taken s mail (first.size ∙ size) active.0 (enough_room s active.0 active.1)
    sixteen in
    let start : s.start ≡ from = start_same c.memory taken.memory 1 first (omega arith) ∙ start_is in
    let count : s.length ≡ n = length_same c.memory taken.memory 1 first (omega arith) ∙ length_is in
    let after : List ℕ = (with_mail_put taken 1 mail).memory in
    record {
      same = but_then c.memory taken.memory after first facts.0;
      unasked = refl;
      mail_is = ap (λ (k : ℕ). take n (drop k after)) (sym start)
          ∙ ap (λ (k : ℕ). take k (drop s.start after)) (sym count)
          ∙ facts.1
          ∙ ap (λ (k : ℕ). mail ++ replicate (k - length mail) 0) count;
      empty = ap (λ (x : ℕ). bit_at x 3)
          (facts.2 ∙ get_or-set_same c.memory 2053 v 0 (omega (arith, size)))
          ∙ clear_bit (get_or c.memory 2053 0);
      full = facts.3;
    }
