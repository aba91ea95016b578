-- A step leaves a slave a slave: its memory and its shown bytes are bytes, and the values of its objects fit.
use Rattle.std.proofs.Common.{◌≡◌, ℕ, zero, suc, ◌+◌, ◌-◌, ◌<◌, ◌≤◌, Bool, true, false, cond, ◌&&◌, List, []}
use Rattle.std.proofs.Common.{◌∷◌, ◌++◌, length, take, drop, get_or, map, None, Some, refl, sym, ◌∙◌}
use Rattle.std.proofs.Common.{arith, subst, replicate}
use Rattle.std.specs.Prelude.{bit_and, bit_or}
use Rattle.std.specs.Int.{w16, w32, to_le_bytes, from_le_bytes}
use Rattle.std.specs.List.{AllByRecursion}
use Rattle.std.specs.Option.{unwrap_or}
use Rattle.std.proofs.lemmas.List.{get_or-drop}
use Rattle.ec_regs.specs.Al.{status_byte}
use Rattle.ec_regs.specs.AlStatusCode.{al_status_code}
use Rattle.ec_regs.specs.Bits.{AreBytes}
use Rattle.ec_regs.specs.declared.al.AlState.{AlState}
use Rattle.ec_regs.specs.declared.al_status_code.AlStatusCode.{AlStatusCode}
use Rattle.ec_regs.specs.declared.al_status_code.AlStatusCode.TheVariants.{BootstrapNotSupported}
use Rattle.ec_regs.specs.declared.al_status_code.AlStatusCode.TheVariants.{UnknownState, InvalidStateChange}
use Rattle.ec_regs.specs.declared.al_status_code.AlStatusCode.TheVariants.{InvalidMailboxConfiguration}
use Rattle.ec_regs.specs.declared.al_status_code.AlStatusCode.TheVariants.{InvalidOutputConfiguration}
use Rattle.ec_regs.specs.declared.al_status_code.AlStatusCode.TheVariants.{InvalidInputConfiguration}
use Rattle.ec_regs.specs.declared.al.AlState.TheVariants.{Init, PreOp, SafeOp, Op}
use Rattle.ec_regs.specs.declared.al.AlStatus.{AlStatus}
use Rattle.ec_regs.specs.declared.registers.TheConstants.{AL_STATUS, AL_STATUS_CODE}
use Rattle.ec_areas.specs.Records.{sync_manager_at}
use Rattle.ec_areas.specs.Ranges.{has_sii}
use Rattle.ec_esc.specs.Application.{al_status, mail_area, with_al, with_control_taken}
use Rattle.ec_esc.specs.Application.{with_mail_taken}
use Rattle.ec_esc.specs.State.{ControllerState, with_run, word_at}
use Rattle.ec_app.specs.AbortCode.{abort_code}
use Rattle.ec_app.specs.AlStep.{after_request, al_answer, al_rows, al_step, asked_state, with_al_answer}
use Rattle.ec_app.specs.AlStep.{with_error}
use Rattle.ec_app.specs.Mail.{mail_bytes, mail_of, sent}
use Rattle.ec_app.specs.MailStep.{after_bytes, after_mail, can_answer, has_request, is_dropped, mail_answer}
use Rattle.ec_app.specs.MailStep.{mail_back, mail_rows, mail_step, named, new_value, request_bytes}
use Rattle.ec_app.specs.MailStep.{objects_after as taken_objects, reply}
use Rattle.ec_app.specs.Objects.{is_at, with_value}
use Rattle.ec_app.specs.Sdo.{index, no_data, sdo_of, sdo_rows, sub, uploaded, value_bytes}
use Rattle.ec_app.specs.Slave.{step}
use Rattle.ec_app.specs.State.{SlaveState}
use Rattle.ec_app.specs.Table.{first_fitting}
use Rattle.ec_app.specs.Value.{FitsValue}
use Rattle.ec_app.specs.declared.abort_code.AbortCode.{AbortCode}
use Rattle.ec_app.specs.declared.abort_code.AbortCode.TheVariants.{UnknownCommand, NoObject, NoSubindex}
use Rattle.ec_app.specs.declared.abort_code.AbortCode.TheVariants.{ReadOfWriteOnly, WriteOfReadOnly}
use Rattle.ec_app.specs.declared.abort_code.AbortCode.TheVariants.{WrongLength}
use Rattle.ec_app.specs.declared.mail.Mail.{Mail}
use Rattle.ec_app.specs.declared.mail.TheConstants.{REQUEST, RESPONSE}
use Rattle.ec_app.specs.declared.objects.Entry.{Entry}
use Rattle.ec_app.specs.declared.sdo.Sdo.{Sdo}
use Rattle.ec_app.specs.declared.sdo.Sdo.TheVariants.{UploadAnswer, DownloadAnswer, Abort, Other}
use Rattle.ec_app.specs.declared.value.Rights.TheVariants.{ReadOnly}
use Rattle.ec_app.specs.declared.value.Value.{Value}
use Rattle.ec_app.specs.declared.value.Value.TheVariants.{One, Two, Four}
use Rattle.ec_app.proofs.Laws.{step_leaves}
use Rattle.ec_over_ring.specs.Transfers.{IsSlave}
use Rattle.ec_over_ring.proofs.AnswerLemmas.{AreValues, object_fits, with_outcome}
use Rattle.ec_over_ring.proofs.BytesLemmas.{AreSmall, append_bytes, cons_bytes, mail_are_bytes, no_bytes}
use Rattle.ec_over_ring.proofs.BytesLemmas.{no_data_small, small_bytes, spelt_small, value_bytes_small}
use Rattle.ec_over_ring.proofs.BytesLemmas.{zero_bytes}
use Rattle.ec_over_ring.proofs.MailboxLemmas.{bytes_set, clear_small, set_small}

-- ---- parts of bytes

take_bytes : (n : ℕ) (xs : List ℕ) → AreBytes xs → AreBytes (take n xs)
take_bytes zero xs are = no_bytes
take_bytes (suc n) [] are = no_bytes
take_bytes (suc n) (x ∷ xs) are =
    cons_bytes x (take n xs) (are 0) (take_bytes n xs (λ k. are (suc k)))

drop_bytes : (n : ℕ) (xs : List ℕ) → AreBytes xs → AreBytes (drop n xs)
drop_bytes n xs are k = subst (λ (x : ℕ). x < 256) (sym (get_or-drop n xs k 0)) (are (n + k))

pub run_bytes : (xs : List ℕ) (at : ℕ) (ys : List ℕ) → AreBytes xs → AreBytes ys
    → AreBytes (with_run xs at ys)
run_bytes xs at ys are new =
    append_bytes (take at xs ++ ys) (drop (at + length ys) xs)
    (append_bytes (take at xs) ys (take_bytes at xs are) new) (drop_bytes (at + length ys) xs are)

pub word_bytes : (n : ℕ) → AreBytes (to_le_bytes w16 n)
word_bytes n = small_bytes (to_le_bytes w16 n) (omega arith, (omega arith, tt))

long_small : (n : ℕ) → AreSmall (to_le_bytes w32 n)
long_small n = (omega arith, (omega arith, (omega arith, (omega arith, tt))))

-- ---- what is kept

-- a slave but for the number of its bytes
record HasBytes (s : SlaveState) : Type 0 where
  memory : AreBytes s.controller.memory
  shown_size : length s.controller.shown ≡ 8192
  shown : AreBytes s.controller.shown
  values : AreValues s.application.objects

-- what holds of each row of a table holds of what it says
pub table_holds : {R : Type 0} (P : R → Type 0) (rows : List (Bool × R)) (other : R)
    → AllByRecursion (λ (row : Bool × R). P row.1) rows → P other → P (first_fitting rows other)
table_holds P [] other each last = last
table_holds P ((true, x) ∷ rows) other each last = each.0
table_holds P ((false, x) ∷ rows) other each last = table_holds P rows other each.1 last

-- of a slave that comes of what it says
slave_holds : {R : Type 0} (f : R → SlaveState) (answer other : R) (rows : List (Bool × R))
    → answer ≡ first_fitting rows other
    → AllByRecursion (λ (row : Bool × R). HasBytes (f row.1)) rows → HasBytes (f other)
    → HasBytes (f answer)
slave_holds {R} f answer other rows is each last =
    subst (λ (a : R). HasBytes (f a)) (sym is) (table_holds (λ (a : R). HasBytes (f a)) rows other each last)

either_way : (b : Bool) (x y : SlaveState) → HasBytes x → HasBytes y → HasBytes (cond b x y)
either_way true x y first second = first
either_way false x y first second = second

-- ---- AL status

small_status : (state : AlState) (error : Bool) → status_byte (record { state = state; error = error }) < 256
small_status Init true = omega arith
small_status Init false = omega arith
small_status PreOp true = omega arith
small_status PreOp false = omega arith
small_status SafeOp true = omega arith
small_status SafeOp false = omega arith
small_status Op true = omega arith
small_status Op false = omega arith

al_bytes : (s : SlaveState) (status : AlStatus) (code : ℕ) → HasBytes s
    → HasBytes (record s { controller = with_al s.controller status code })
al_bytes s status code has = record {
  memory = run_bytes (with_run s.controller.memory AL_STATUS (status_byte status ∷ 0 ∷ [])) AL_STATUS_CODE
      (to_le_bytes w16 code)
      (run_bytes s.controller.memory AL_STATUS (status_byte status ∷ 0 ∷ []) has.memory
      (small_bytes (status_byte status ∷ 0 ∷ [])
      (small_status status.state status.error, (omega arith, tt))))
      (word_bytes code);
  shown_size = has.shown_size;
  shown = has.shown;
  values = has.values;
}

answer_bytes : (s : SlaveState) (control : ℕ) → HasBytes s → HasBytes (with_al_answer s (al_answer s control))
unfolding al_answer
answer_bytes s control has =
    let refused : (code : AlStatusCode)
    → HasBytes (record s { controller = with_error s.controller code }) =
    λ code.
    al_bytes s (record { state = (al_status s.controller).state; error = true }) (al_status_code code) has in
    let state : AlState = asked_state control in
    let entered : HasBytes (record s {
      controller = with_al s.controller
          (record { state = state; error = false }) 0;
    }) =
    al_bytes s (record { state = state; error = false }) 0 has in
    slave_holds (λ a. with_al_answer s a) (al_answer s control) _ (al_rows s control) refl (
      has,
      (
        refused BootstrapNotSupported,
        (
          refused UnknownState,
          (
            record {
              memory = entered.memory;
              shown_size = entered.shown_size;
              shown = entered.shown;
              values = entered.values;
            },
            (
              refused InvalidStateChange,
              (
                refused InvalidMailboxConfiguration,
                (refused InvalidOutputConfiguration, (refused InvalidInputConfiguration, tt)),
              ),
            ),
          ),
        ),
      ),
    )
    (record {
      memory = entered.memory;
      shown_size = entered.shown_size;
      shown = entered.shown;
      values = entered.values;
    })

asked_bytes : (b : Bool) (control : ℕ) (t : SlaveState) → HasBytes t
    → HasBytes (after_request (cond b (Some control) None) t)
asked_bytes true control t has = answer_bytes t control has
asked_bytes false control t has = has

al_step_bytes : (s : SlaveState) → HasBytes s → HasBytes (al_step s)
unfolding al_step
al_step_bytes s has =
    asked_bytes s.controller.written (word_at s.controller.memory 288)
    (record s { controller = with_control_taken s.controller })
    (record { memory = has.memory; shown_size = has.shown_size; shown = has.shown; values = has.values })

-- ---- a mail

-- what an SDO of bytes names is a byte, and the value that it brings fits
sub_small : (bs : List ℕ) → AreBytes bs → sub (sdo_of bs) < 256
unfolding sdo_of
sub_small bs are =
    let h : get_or bs 3 0 < 256 = are 3 in
    table_holds (λ (sdo : Sdo). sub sdo < 256) (sdo_rows bs) (Other bs)
    (h, (h, (h, (h, (h, (h, (h, (h, (h, tt))))))))) h

value_small : (bs : List ℕ) → AreBytes bs → FitsValue (new_value (sdo_of bs))
unfolding sdo_of
value_small bs are =
    let d : AreBytes (drop 4 bs) = drop_bytes 4 bs are in
    let none : 0 < 256 = omega arith in
    let one : get_or bs 4 0 < 256 = are 4 in
    let two : from_le_bytes w16 (drop 4 bs) < 65536 = omega (arith, d 0, d 1) in
    let four : from_le_bytes w32 (drop 4 bs) < 4294967296 = omega (arith, d 0, d 1, d 2, d 3) in
    table_holds (λ (sdo : Sdo). FitsValue (new_value sdo)) (sdo_rows bs) (Other bs)
    (none, (none, (none, (none, (four, (two, (one, (none, (none, tt))))))))) none

small_command : (v : Value) → uploaded v < 256
small_command (One x) = omega arith
small_command (Two x) = omega arith
small_command (Four x) = omega arith

-- a mail that is put
put_bytes : (s : SlaveState) (m : Mail) (objects : List Entry) (mail : Mail) → HasBytes s
    → AreBytes (mail_bytes (sent mail)) → AreValues objects
    → HasBytes (with_outcome m s (Some mail, objects))
put_bytes s m objects mail has bytes fits =
    let c : ControllerState = s.controller in
    let area : List ℕ = mail_area (sync_manager_at c.memory 1) (mail_bytes (sent mail)) in
    let put : List ℕ = with_run c.memory (sync_manager_at c.memory 1).start area in
    let put_are : AreBytes put =
    run_bytes c.memory (sync_manager_at c.memory 1).start area has.memory
    (append_bytes (mail_bytes (sent mail))
    (replicate ((sync_manager_at c.memory 1).length - length (mail_bytes (sent mail))) 0) bytes
    (zero_bytes ((sync_manager_at c.memory 1).length - length (mail_bytes (sent mail))))) in
    record {
      memory = bytes_set put 2061 (bit_or (get_or put 2061 0) 8) put_are
          (set_small (get_or put 2061 0) (put_are 2061));
      shown_size = has.shown_size;
      shown = has.shown;
      values = fits;
    }

one_stored : (b : Bool) (v : Value) (e : Entry) → FitsValue v → FitsValue e.value
    → FitsValue (cond b (record e { value = v }) e).value
one_stored true v e new old = new
one_stored false v e new old = old

stored_fit : (i j : ℕ) (v : Value) (es : List Entry) → FitsValue v → AreValues es
    → AreValues (map (with_value i j v) es)
stored_fit i j v [] new fits = tt
stored_fit i j v (e ∷ es) new fits =
    (one_stored (is_at i j e) v e new fits.0, stored_fit i j v es new fits.1)

-- what a slave leaves of a mail of bytes
mail_left : (s : SlaveState) (m : Mail) → HasBytes s → m.counter ≤ 7 → sub m.sdo < 256
    → FitsValue (new_value m.sdo) → HasBytes (after_mail m s)
unfolding mail_answer
mail_left s m has counter small new =
    let objects : List Entry = s.application.objects in
    let value : Value = (unwrap_or (named m.sdo objects) (ReadOnly, One 0)).1 in
    let old : FitsValue value = object_fits (index m.sdo) (sub m.sdo) objects has.values in
    let aborts : (reason : AbortCode)
    → HasBytes (with_outcome m s (
      Some (mail_back m REQUEST
          (Abort (index m.sdo) (sub m.sdo) (abort_code reason))),
      objects,
    )) =
    λ reason.
    let code : ℕ = abort_code reason in
    put_bytes s m objects (mail_back m REQUEST (Abort (index m.sdo) (sub m.sdo) code)) has
    (mail_are_bytes (mail_back m REQUEST (Abort (index m.sdo) (sub m.sdo) code)) counter (omega arith)
    (spelt_small 128 (index m.sdo) (sub m.sdo) (to_le_bytes w32 code) (omega arith) small (long_small code)))
    has.values in
    let tells : HasBytes (with_outcome m s (
      Some (mail_back m RESPONSE
          (UploadAnswer (index m.sdo) (sub m.sdo) value)),
      objects,
    )) =
    put_bytes s m objects (mail_back m RESPONSE (UploadAnswer (index m.sdo) (sub m.sdo) value)) has
    (mail_are_bytes (mail_back m RESPONSE (UploadAnswer (index m.sdo) (sub m.sdo) value)) counter
    (omega arith)
    (spelt_small (uploaded value) (index m.sdo) (sub m.sdo) (value_bytes value) (small_command value) small
    (value_bytes_small value old)))
    has.values in
    slave_holds (λ a. with_outcome m s (reply m a, taken_objects m a objects)) (mail_answer m objects) _
    (mail_rows m objects) refl (
      record { memory = has.memory; shown_size = has.shown_size; shown = has.shown; values = has.values },
      (
        aborts UnknownCommand,
        (
          aborts NoObject,
          (
            aborts NoSubindex,
            (aborts ReadOfWriteOnly, (aborts WriteOfReadOnly, (aborts WrongLength, (tells, tt)))),
          ),
        ),
      ),
    )
    (put_bytes s m (map (with_value (index m.sdo) (sub m.sdo) (new_value m.sdo)) objects)
    (mail_back m RESPONSE (DownloadAnswer (index m.sdo) (sub m.sdo))) has
    (mail_are_bytes (mail_back m RESPONSE (DownloadAnswer (index m.sdo) (sub m.sdo))) counter (omega arith)
    (spelt_small 96 (index m.sdo) (sub m.sdo) no_data (omega arith) small no_data_small))
    (stored_fit (index m.sdo) (sub m.sdo) (new_value m.sdo) objects new has.values))

mail_step_bytes : (s : SlaveState) → HasBytes s → HasBytes (mail_step s)
unfolding mail_step
mail_step_bytes s has =
    let c : ControllerState = s.controller in
    let bytes : List ℕ = request_bytes c in
    let v : ℕ = bit_and (get_or c.memory 2053 0) 247 in
    let taken : SlaveState = record s { controller = with_mail_taken c 0 } in
    let are : AreBytes bytes =
    take_bytes (sync_manager_at c.memory 0).length (drop (sync_manager_at c.memory 0).start c.memory)
    (drop_bytes (sync_manager_at c.memory 0).start c.memory has.memory) in
    let sdo : AreBytes (take 8 (drop 8 bytes)) = take_bytes 8 (drop 8 bytes) (drop_bytes 8 bytes are) in
    let emptied : HasBytes taken = record {
      memory = bytes_set c.memory 2053 v has.memory (clear_small (get_or c.memory 2053 0) (has.memory 2053));
      shown_size = has.shown_size;
      shown = has.shown;
      values = has.values;
    } in
    either_way (can_answer c && has_request c) (after_bytes bytes taken) s
    (either_way (is_dropped (has_sii taken.controller.memory) s.application.kept bytes) taken (after_mail (mail_of bytes) taken) emptied
    (mail_left taken (mail_of bytes) emptied (omega arith) (sub_small (take 8 (drop 8 bytes)) sdo)
    (value_small (take 8 (drop 8 bytes)) sdo)))
    has

-- ---- a step

pub step_slave : (s : SlaveState) → IsSlave s → IsSlave (step s)
unfolding step
step_slave s is =
    let has : HasBytes (mail_step (al_step s)) =
    mail_step_bytes (al_step s)
    (al_step_bytes s (record {
      memory = is.controller.memory;
      shown_size = is.controller.shown_size;
      shown = is.controller.shown;
      values = is.values;
    })) in
    record {
      controller = record {
        memory_size = (step_leaves s is.controller.memory_size).size ∙ is.controller.memory_size;
        memory = has.memory;
        shown_size = has.shown_size;
        shown = has.shown;
      };
      values = has.values;
    }
