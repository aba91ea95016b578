-- What a write leaves that writes nothing, or no register: statuses, shown bytes and the mark.
use Rattle.std.proofs.Common.{◌≡◌, ℕ, ◌+◌, ◌*◌, ◌/◌, ◌<◌, Bool, true, false, ◌&&◌}
use Rattle.std.proofs.Common.{◌||◌, cond, eqb, leb, ltb, List, [], ◌∷◌, length, get_or}
use Rattle.std.proofs.Common.{Option, None, ◌∙◌, ap, refl, arith, ⊎_elim}
use Rattle.std.proofs.Math.Path.{fun_ext}
use Rattle.std.proofs.Math.Bool.{and-false, or-false}
use Rattle.std.proofs.lemmas.Bool.{and_parts, cases_Bool}
use Rattle.std.proofs.lemmas.Bool.Decides.{nat_tests}
use Rattle.std.proofs.lemmas.List.{ext_get_or}
use Rattle.std.proofs.lemmas.List.FromFn.{length-map-range_with_len, get_or-map-range_with_len}
use Rattle.std.specs.Prelude.{not}
use Rattle.ec_regs.specs.declared.registers.TheConstants.{SYNC_MANAGER_COUNT}
use Rattle.ec_regs.specs.Bits.{AreBytes, with_bits}
use Rattle.ec_regs.specs.SyncMan.{is_active, is_buffered, master_writes}
use Rattle.ec_regs.specs.declared.sync_man.SyncMan.{SyncMan}
use Rattle.ec_regs.specs.declared.registers.TheConstants.{MEMORY_SIZE, PROCESS_MEMORY, AL_CONTROL}
use Rattle.ec_regs.proofs.Laws.{length-with_bits, with_bits_none, get_or-with_bits_kept}
use Rattle.ec_areas.specs.Ranges.{is_in_sync_manager, sync_manager_number, sync_manager_offset}
use Rattle.ec_areas.specs.Records.{sync_manager_at, sync_managers_of}
use Rattle.ec_areas.specs.Records.{SameRegisters}
use Rattle.ec_areas.proofs.Laws.{names_nowhere, sync_manager_same, sync_managers_same}
use Rattle.ec_esc.specs.State.{ControllerState, IsController}
use Rattle.ec_esc.specs.Writing.{is_switched, settled, settled_byte, hands_over, is_shown_anew, shown_byte}
use Rattle.ec_esc.specs.Writing.{shown_after}
use Rattle.ec_esc.specs.Writing.{with_filled}
use Rattle.ec_esc.specs.Pass.{Half, touches, nothing, written_by}

-- ---- what a write leaves that writes no register

-- one flag does not differ from itself
switched_self : (b : Bool) → cond b (not b) b ≡ false
switched_self true = refl
switched_self false = refl

-- a sync manager that stays is not switched
switched_same : (before after : List ℕ) (i : ℕ) → SameRegisters before after → i < SYNC_MANAGER_COUNT
    → is_switched before after i ≡ false
switched_same before after i same below =
    let s : SyncMan = sync_manager_at before i in
    ap (λ (t : SyncMan). cond (is_active s) (not (is_active t)) (is_active t))
    (sync_manager_same before after i same below)
    ∙ switched_self (is_active s)

-- a byte of a sync manager's record is that of one of eight
number_below : (a : ℕ) → is_in_sync_manager a ≡ true → sync_manager_number a < SYNC_MANAGER_COUNT
number_below a inside =
    let parts = and_parts (leb 2048 a) (ltb a 2112) inside in
    let high : ltb a 2112 ≡ true = parts.1 in
    grind (arith, nat_tests)

-- so no status is cleared
pub settled_same : (before after : List ℕ) → SameRegisters before after → settled before after ≡ after
unfolding settled
settled_same before after same =
    let size = length-map-range_with_len (settled_byte before after) 0 (length after) in
    ext_get_or 0 (settled before after) after size
    (λ a inside.
    let steady : settled_byte before after a ≡ get_or after a 0 =
    ⊎_elim
    (λ (register : is_in_sync_manager a ≡ true).
    rw (
      switched_same before after (sync_manager_number a) same (number_below a register),
      and-false
          (is_in_sync_manager a && eqb (sync_manager_offset a) 5),
    ) refl)
    (λ (elsewhere : is_in_sync_manager a ≡ false). rw elsewhere refl)
    (cases_Bool (is_in_sync_manager a)) in
    get_or-map-range_with_len (settled_byte before after) 0 (length after) a a 0 (omega arith)
    (omega arith) ∙ steady)

-- ---- shown bytes

-- they depend on what is said of each address
pub shown_after_same : (f g : ℕ → Bool) (befores afters : List SyncMan) (memory shown : List ℕ)
    → ((a : ℕ) → f a ≡ g a)
    → shown_after f befores afters memory shown ≡ shown_after g befores afters memory shown
shown_after_same f g befores afters memory shown same =
    ap (λ (h : ℕ → Bool). shown_after h befores afters memory shown) (fun_ext same)

-- an area that stays is not handed over where nothing is written
hands_over_nothing : (s : SyncMan) → hands_over (λ _. false) s s ≡ false
hands_over_nothing s =
    ⊎_elim
    (λ (active : is_active s ≡ true). rw (active, and-false (is_buffered s && master_writes s)) refl)
    (λ (inactive : is_active s ≡ false). rw inactive refl)
    (cases_Bool (is_active s))

-- so no byte is shown anew
shown_anew_nothing : (managers : List SyncMan) (a : ℕ) → is_shown_anew (λ _. false) managers managers a
    ≡ false
unfolding is_shown_anew
shown_anew_nothing [] a = refl
shown_anew_nothing (s ∷ ss) a = rw (hands_over_nothing s, shown_anew_nothing ss a) refl

-- and all shown bytes stay
pub shown_after_nothing : (managers : List SyncMan) (memory shown : List ℕ)
    → shown_after (λ _. false) managers managers memory shown ≡ shown
unfolding shown_after
shown_after_nothing managers memory shown =
    let byte = shown_byte (λ _. false) managers managers memory shown in
    let size = length-map-range_with_len byte 0 (length shown) in
    ext_get_or 0 (shown_after (λ _. false) managers managers memory shown) shown size
    (λ k inside.
    get_or-map-range_with_len byte 0 (length shown) k k 0 (omega arith) (omega arith)
    ∙ rw (shown_anew_nothing managers (4096 + k)) refl)

-- ---- halves that do nothing

-- a memory has its own registers
same_registers : (c : ControllerState) → length c.memory ≡ MEMORY_SIZE → SameRegisters c.memory c.memory
same_registers c size = record { size = refl; room = omega arith; bytes = λ a below. refl }

-- a write of nothing leaves the controller
pub written_by_nothing : (c : ControllerState) (payload : List ℕ) → AreBytes c.memory → length c.memory
    ≡ MEMORY_SIZE
    → written_by nothing payload c ≡ c
written_by_nothing c payload are size =
    let kept : with_bits c.memory payload (λ _. None)
    ≡ c.memory = with_bits_none c.memory payload (λ _. None) are (λ i inside. refl) in
    let steady : settled c.memory (with_bits c.memory payload (λ _. None)) ≡ c.memory =
    ap (settled c.memory) kept ∙ settled_same c.memory c.memory (same_registers c size) in
    let managers = sync_managers_of c.memory in
    let F : List ℕ → ControllerState = λ m. record {
      memory = m;
      shown = shown_after (touches (λ _. None)) managers (sync_managers_of m) m c.shown;
      written = c.written || touches (λ _. None) AL_CONTROL;
    } in
    let untouched : (a : ℕ) → touches (λ _. None) a
    ≡ false = λ a. names_nowhere (λ _. None) 8 (λ i below. refl) in
    let shown : shown_after (touches (λ _. None)) managers managers c.memory c.shown ≡ c.shown =
    shown_after_same (touches (λ _. None)) (λ _. false) managers managers c.memory c.shown untouched
    ∙ shown_after_nothing managers c.memory c.shown in
    let mark : (c.written || touches (λ _. None) AL_CONTROL) ≡ c.written =
    ap (λ b. c.written || b) (untouched AL_CONTROL) ∙ or-false c.written in
    ap F steady
    ∙ ap (λ (s : List ℕ). record {
      memory = c.memory;
      shown = s;
      written = c.written || touches (λ _. None) AL_CONTROL;
    }) shown
    ∙ ap (λ (w : Bool). record { memory = c.memory; shown = c.shown; written = w }) mark

-- data that take nothing stay
pub taken_nothing : (payload memory : List ℕ) → AreBytes payload → with_bits payload memory (λ _. None)
    ≡ payload
taken_nothing payload memory are = with_bits_none payload memory (λ _. None) are (λ i inside. refl)

-- ---- a write that reaches no register and fills no mailbox

-- registers stay
pub registers_kept : (c : ControllerState) (payload : List ℕ) (places : ℕ → Option ℕ) → IsController c
    → ((p : ℕ) → p / 8 < PROCESS_MEMORY → places p ≡ None)
    → SameRegisters c.memory (with_bits c.memory payload places)
registers_kept c payload places controller none =
    let size = controller.memory_size in
    record {
      size = length-with_bits c.memory payload places;
      room = omega arith;
      bytes = λ a below.
          get_or-with_bits_kept c.memory payload places a controller.memory
          (λ b bit. let byte : (8 * a + b) / 8 < PROCESS_MEMORY = omega arith in none (8 * a + b) byte);
    }

-- it changes memory bits and shown bytes alone
pub written_plain : (c : ControllerState) (half : Half) (payload : List ℕ) → IsController c → half.mail ≡ None
    → ((p : ℕ) → p / 8 < PROCESS_MEMORY → half.places p ≡ None)
    → written_by half payload c
    ≡ record c {
      memory = with_bits c.memory payload half.places;
      shown = shown_after (touches half.places) (sync_managers_of c.memory) (sync_managers_of c.memory)
          (with_bits c.memory payload half.places) c.shown;
    }
written_plain c half payload controller no_mail none =
    let memory : List ℕ = with_bits c.memory payload half.places in
    let managers = sync_managers_of c.memory in
    let same = registers_kept c payload half.places controller none in
    let mark : touches half.places AL_CONTROL ≡ false =
    names_nowhere (λ b. half.places (8 * AL_CONTROL + b)) 8
    (λ b bit. let byte : (8 * 288 + b) / 8 < PROCESS_MEMORY = omega arith in none (8 * 288 + b) byte) in
    let F : Option ℕ → List ℕ → List SyncMan → Bool → ControllerState = λ o m ms w. record {
      memory = with_filled o m;
      shown = shown_after (touches half.places) managers ms m c.shown;
      written = w;
    } in
    let touched = c.written || touches half.places AL_CONTROL in
    ap (λ (o : Option ℕ). F o (settled c.memory memory) (sync_managers_of
    (settled c.memory memory)) touched) no_mail
    ∙ ap (λ (m : List ℕ). F None m (sync_managers_of m) touched) (settled_same c.memory memory same)
    ∙ ap (λ (ms : List SyncMan). F None memory ms touched) (sync_managers_same c.memory memory same)
    ∙ ap (F None memory managers) (ap (λ b. c.written || b) mark ∙ or-false c.written)
