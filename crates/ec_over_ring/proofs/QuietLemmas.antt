-- A mailbox of requests that is empty stays so while no mail is written to it, and no object changes then.
use Rattle.std.proofs.Common.{◌≡◌, ℕ, ◌+◌, ◌*◌, ◌/◌, ◌<◌, Bool, true, false, cond, eqb, ◌&&◌}
use Rattle.std.proofs.Common.{List, length, get_or, set, Option, None, Some, refl, sym, ap, ◌∙◌, arith}
use Rattle.std.proofs.Common.{inr, ⊎_elim, get_or-set_other, get_or-set_same}
use Rattle.std.specs.Prelude.{◌≢◌, bit_and}
use Rattle.std.specs.Int.{bit_at}
use Rattle.std.specs.List.{position}
use Rattle.std.proofs.lemmas.Bool.{and_parts, cases_Bool, cases_eq, eqb-true}
use Rattle.std.proofs.lemmas.List.FromFn.{get_or-map-range_with_len}
use Rattle.ec_regs.specs.Bits.{with_bits}
use Rattle.ec_regs.specs.SyncMan.{is_active, is_full, status_address}
use Rattle.ec_regs.specs.AlStatusCode.{al_status_code}
use Rattle.ec_regs.specs.declared.al.AlStatus.{AlStatus}
use Rattle.ec_regs.specs.declared.al_status_code.AlStatusCode.{AlStatusCode}
use Rattle.ec_regs.specs.declared.al_status_code.AlStatusCode.TheVariants.{BootstrapNotSupported}
use Rattle.ec_regs.specs.declared.al_status_code.AlStatusCode.TheVariants.{InvalidInputConfiguration}
use Rattle.ec_regs.specs.declared.al_status_code.AlStatusCode.TheVariants.{InvalidMailboxConfiguration}
use Rattle.ec_regs.specs.declared.al_status_code.AlStatusCode.TheVariants.{InvalidOutputConfiguration}
use Rattle.ec_regs.specs.declared.al_status_code.AlStatusCode.TheVariants.{InvalidStateChange, UnknownState}
use Rattle.ec_regs.specs.declared.registers.TheConstants.{AL_CONTROL, MEMORY_SIZE, STATION_ADDRESS}
use Rattle.ec_regs.specs.declared.sync_man.SyncMan.{SyncMan}
use Rattle.ec_regs.proofs.Laws.{get_or-with_bits_kept, length-with_bits}
use Rattle.ec_areas.specs.Ranges.{filled_by, meets_one, takes_mail}
use Rattle.ec_areas.specs.Records.{sync_manager_at, sync_managers_of}
use Rattle.ec_areas.proofs.Laws.{active_place}
use Rattle.ec_wire.specs.Command.{addressing, reads, writes}
use Rattle.ec_wire.specs.Datagram.{DatagramRecord, ado_of, adp_of}
use Rattle.ec_wire.specs.declared.command.Addressing.{Addressing}
use Rattle.ec_wire.specs.declared.command.Addressing.TheVariants.{ConfiguredStation}
use Rattle.ec_wire.specs.declared.command.Command.{Command}
use Rattle.ec_esc.specs.Application.{al_status, with_al, with_control_taken}
use Rattle.ec_esc.specs.Pass.{Effect, Half, effect, pass, range_taken, serves_range_write, where_served}
use Rattle.ec_esc.specs.Pass.{write_half}
use Rattle.ec_esc.specs.State.{ControllerState, IsController, with_run, word_at}
use Rattle.ec_esc.specs.Writing.{settled, settled_byte, with_emptied, with_filled}
use Rattle.ec_esc.proofs.Laws.{get_or-with_run_beside, length-with_run}
use Rattle.ec_app.specs.AlStep.{after_request, al_answer, al_rows, al_step, asked_state, with_al_answer}
use Rattle.ec_app.specs.AlStep.{with_error, with_state}
use Rattle.ec_app.specs.Slave.{step}
use Rattle.ec_app.specs.State.{SlaveState}
use Rattle.ec_over_ring.specs.Recovery.{request_stands}
use Rattle.ec_over_ring.proofs.ControlLemmas.{settled_size}
use Rattle.ec_over_ring.proofs.MailboxLemmas.{clear_bit}
use Rattle.ec_over_ring.proofs.ManagerLemmas.{manager_is}
use Rattle.ec_over_ring.proofs.ShapeLemmas.{al_objects}
use Rattle.ec_over_ring.proofs.SlaveLemmas.{table_holds}
use Rattle.ec_over_ring.proofs.StepLemmas.{empty_mail}

-- ---- the mark

-- bit 3 of the status of sync manager 0
abbrev pub is_marked : List ℕ → Bool
is_marked m = eqb (bit_at (get_or m 2053 0) 3) 1

pub marked_is : (s : SlaveState) → request_stands s ≡ is_marked s.controller.memory
marked_is s = ap (λ (m : SyncMan). is_full m) (manager_is s.controller.memory 0)

same_mark : (x y : List ℕ) → get_or y 2053 0 ≡ get_or x 2053 0 → is_marked y ≡ is_marked x
same_mark x y same = ap (λ (b : ℕ). eqb (bit_at b 3) 1) same

-- ---- a pass

-- no mailbox begins among the registers
takes_none : (s : SyncMan) (from n : ℕ) → from < 4096 → takes_mail from n s ≡ false
unfolding takes_mail
takes_none s from n low =
    ⊎_elim
    (λ (takes : takes_mail from n s ≡ true).
    let a = and_parts _ _ takes in
    let b = and_parts _ _ a.0 in
    let c = and_parts _ _ b.0 in
    let d = and_parts _ _ c.0 in
    let e = and_parts (is_active s) (eqb s.start from) d.0 in
    let place = active_place s e.0 in
    let start : s.start ≡ from = eqb-true s.start from e.1 in
    absurd (omega (arith, place.0, start, low)))
    (λ (none : takes_mail from n s ≡ false). none)
    (cases_Bool (takes_mail from n s))

either_none : (b : Bool) (o : Option ℕ) → o ≡ None → cond b o None ≡ None
either_none true o none = none
either_none false o none = refl

none_found : (m : List ℕ) (from n : ℕ) → from < 4096
    → position (takes_mail from n) (sync_managers_of m) ≡ None
unfolding sync_managers_of
none_found m from n low =
    rw (
      takes_none (sync_manager_at m 0) from n low,
      takes_none (sync_manager_at m 1) from n low,
      takes_none (sync_manager_at m 2) from n low,
      takes_none (sync_manager_at m 3) from n low,
      takes_none (sync_manager_at m 4) from n low,
      takes_none (sync_manager_at m 5) from n low,
      takes_none (sync_manager_at m 6) from n low,
      takes_none (sync_manager_at m 7) from n low,
    ) refl

none_filled : (m : List ℕ) (from n : ℕ) → from < 4096 → filled_by (sync_managers_of m) from n ≡ None
unfolding filled_by
none_filled m from n low =
    either_none (meets_one (sync_managers_of m) from n)
    (position (takes_mail from n) (sync_managers_of m)) (none_found m from n low)

served_mail : (w b : Bool) (h : Half) → h.mail ≡ None → (where_served w (where_served b h)).mail ≡ None
served_mail true true h none = none
served_mail true false h none = refl
served_mail false b h none = refl

no_mail : (x : Command) (c : ControllerState) (address n : ℕ) → addressing x ≡ ConfiguredStation
    → ado_of address < 4096 → (effect x c address n).writing.mail ≡ None
no_mail x c address n station low =
    let from : ℕ = ado_of address in
    let gain : ℕ = cond (reads x) 2 1 in
    ap (λ (a : Addressing). (where_served (writes x) (write_half a gain c address n)).mail) station
    ∙ served_mail (writes x)
    (eqb (adp_of address) (word_at c.memory STATION_ADDRESS) && serves_range_write c from n)
    (range_taken gain c from n) (none_filled c.memory from n low)

either_mark : (b : Bool) (x : ℕ) → eqb (bit_at x 3) 1 ≡ false → eqb (bit_at (cond b 0 x) 3) 1 ≡ false
either_mark true x none = refl
either_mark false x none = none

settled_mark : (before after : List ℕ) → length after ≡ MEMORY_SIZE → is_marked after ≡ false
    → is_marked (settled before after) ≡ false
unfolding settled
settled_mark before after size none =
    let byte : get_or (settled before after) 2053 0 ≡ settled_byte before after 2053 =
    get_or-map-range_with_len (settled_byte before after) 0 (length after) 2053 2053 0 (omega (arith, size))
    (omega arith) in
    ap (λ (b : ℕ). eqb (bit_at b 3) 1) byte ∙ either_mark _ (get_or after 2053 0) none

emptied_mark : (mail : Option ℕ) (m : List ℕ) → length m ≡ MEMORY_SIZE → is_marked m ≡ false
    → is_marked (with_emptied mail m) ≡ false
emptied_mark None m size none = none
emptied_mark (Some i) m size none =
    let at : ℕ = status_address i in
    let v : ℕ = bit_and (get_or m at 0) 247 in
    ⊎_elim
    (λ (own : 2053 ≡ at).
    ap (λ (k : ℕ). eqb (bit_at (get_or (set m at v) k 0) 3) 1) own
    ∙ ap (λ (b : ℕ). eqb (bit_at b 3) 1) (get_or-set_same m at v 0 (omega (arith, size, own)))
    ∙ ap (λ (b : ℕ). eqb b 1) (clear_bit (get_or m at 0)))
    (λ (other : 2053 ≢ at). same_mark m (set m at v) (get_or-set_other m at 2053 v 0 other) ∙ none)
    (cases_eq 2053 at)

pub pass_mark : (c : ControllerState) (d : DatagramRecord) → addressing d.command ≡ ConfiguredStation
    → IsController c → ado_of d.address < 4096
    → ((p : ℕ) → p / 8 ≡ 2053 → (effect d.command c d.address (length d.payload)).writing.places p ≡ None)
    → is_marked c.memory ≡ false → is_marked (pass c d).state.memory ≡ false
unfolding pass
pass_mark c d station controller low places none =
    let e : Effect = effect d.command c d.address (length d.payload) in
    let new : List ℕ = with_bits c.memory d.payload e.writing.places in
    let memory : List ℕ = settled c.memory new in
    let size : length new ≡ MEMORY_SIZE =
    length-with_bits c.memory d.payload e.writing.places ∙ controller.memory_size in
    let byte : get_or new 2053 0 ≡ get_or c.memory 2053 0 =
    get_or-with_bits_kept c.memory d.payload e.writing.places 2053 controller.memory
    (λ b below. places (8 * 2053 + b) (omega (arith, below))) in
    let mark : is_marked memory ≡ false =
    settled_mark c.memory new size (same_mark c.memory new byte ∙ none) in
    ap (λ (o : Option ℕ). is_marked (with_emptied e.reading.mail (with_filled o memory)))
    (no_mail d.command c d.address (length d.payload) station low)
    ∙ emptied_mark e.reading.mail memory (settled_size c.memory new ∙ size) mark

-- ---- a step

al_kept : (c : ControllerState) (status : AlStatus) (code : ℕ) → length c.memory ≡ MEMORY_SIZE
    → get_or (with_al c status code).memory 2053 0 ≡ get_or c.memory 2053 0
al_kept c status code size =
    let first : List ℕ = with_run c.memory 304 _ in
    let first_size : length first ≡ length c.memory = length-with_run c.memory _ 304 (omega (arith, size)) in
    get_or-with_run_beside first _ 308 2053 (omega (arith, first_size, size)) (inr (omega arith))
    ∙ get_or-with_run_beside c.memory _ 304 2053 (omega (arith, size)) (inr (omega arith))

-- the byte behind an answer to a request for a state
abbrev byte_of : SlaveState → ℕ
byte_of s = get_or s.controller.memory 2053 0

refused_kept : (s : SlaveState) (code : AlStatusCode) → length s.controller.memory ≡ MEMORY_SIZE
    → byte_of (record s { controller = with_error s.controller code }) ≡ byte_of s
refused_kept s code size =
    al_kept s.controller (record { state = (al_status s.controller).state; error = true }) (al_status_code
    code) size

entered_kept : (s : SlaveState) (control : ℕ) → length s.controller.memory ≡ MEMORY_SIZE
    → byte_of (record s { controller = with_state s.controller (asked_state control) }) ≡ byte_of s
entered_kept s control size =
    al_kept s.controller (record { state = asked_state control; error = false }) 0 size

answer_kept : (s : SlaveState) (control : ℕ) → length s.controller.memory ≡ MEMORY_SIZE
    → byte_of (with_al_answer s (al_answer s control)) ≡ byte_of s
unfolding al_answer
answer_kept s control size =
    table_holds (λ a. byte_of (with_al_answer s a) ≡ byte_of s) (al_rows s control) _ (
      refl,
      (
        refused_kept s BootstrapNotSupported size,
        (
          refused_kept s UnknownState size,
          (
            entered_kept s control size,
            (
              refused_kept s InvalidStateChange size,
              (
                refused_kept s InvalidMailboxConfiguration size,
                (
                  refused_kept s InvalidOutputConfiguration size,
                  (refused_kept s InvalidInputConfiguration size, tt),
                ),
              ),
            ),
          ),
        ),
      ),
    ) (entered_kept s control size)

request_kept : (b : Bool) (control : ℕ) (s : SlaveState) → length s.controller.memory ≡ MEMORY_SIZE
    → byte_of (after_request (cond b (Some control) None) s) ≡ byte_of s
request_kept true control s size = answer_kept s control size
request_kept false control s size = refl

al_step_kept : (s : SlaveState) → length s.controller.memory ≡ MEMORY_SIZE → byte_of (al_step s) ≡ byte_of s
unfolding al_step
al_step_kept s size =
    request_kept s.controller.written (word_at s.controller.memory AL_CONTROL)
    (record s { controller = with_control_taken s.controller }) size

-- no request is there, and the objects are as they were
pub record IsQuiet (s t : SlaveState) : Type 0 where
  pub none : request_stands t ≡ false
  pub objects : t.application.objects ≡ s.application.objects

pub quiet_step : (s : SlaveState) → length s.controller.memory ≡ MEMORY_SIZE → request_stands s ≡ false
    → IsQuiet s (step s)
unfolding step
quiet_step s size none =
    let x : SlaveState = al_step s in
    let empty : request_stands x ≡ false =
    marked_is x ∙ same_mark s.controller.memory x.controller.memory (al_step_kept s size)
    ∙ sym (marked_is s) ∙ none in
    let same : step s ≡ x = empty_mail x empty in
    record {
      none = ap (λ (y : SlaveState). request_stands y) same ∙ empty;
      objects = ap (λ (y : SlaveState). y.application.objects) same ∙ al_objects s;
    }
