-- Behind each datagram a controller is one: it has its size, and each of its bytes is one.
use Rattle.std.specs.Prelude.{◌≡◌, ◌≤◌, ◌<◌, ℕ, ◌+◌, Bool, true, false}
use Rattle.std.specs.Prelude.{List, [], ◌∷◌, length, Option, None, Some, refl}
use Rattle.std.proofs.Common.{arith, ◌∙◌, ◌*◌, ap, subst, sym, cond, get_or, set, ⊎_elim, bit_or, bit_and}
use Rattle.std.proofs.Common.{get_or-set_same, get_or-set_other}
use Rattle.std.proofs.lemmas.Bool.{cases_lt, cases_eq, cases_Bool}
use Rattle.std.proofs.lemmas.List.{length-set, get_or_past}
use Rattle.std.proofs.lemmas.List.FromFn.{length-map-range_with_len, get_or-map-range_with_len}
use Rattle.std.proofs.lemmas.Nat.{or_lt}
use Rattle.std.specs.Int.Bits.{and_lt}
use Rattle.ec_regs.specs.Bits.{AreBytes, with_bits}
use Rattle.ec_regs.specs.SyncMan.{status_address, repeat_asked}
use Rattle.ec_regs.specs.declared.sync_man.SyncMan.{SyncMan}
use Rattle.ec_regs.proofs.Laws.{length-with_bits, AreBytes-with_bits}
use Rattle.ec_areas.specs.Records.{sync_manager_at, sync_managers_of}
use Rattle.ec_wire.specs.Datagram.{DatagramRecord}
use Rattle.ec_esc.specs.Application.{holds_mail, with_mail_again, with_mail_repeated, with_repeat_told}
use Rattle.ec_esc.specs.Pass.{Effect, pass, frame_pass, effect, state_after, touches}
use Rattle.ec_esc.specs.State.{ControllerState, IsController}
use Rattle.ec_esc.specs.Writing.{settled, settled_byte, is_shown_anew, shown_byte, shown_after, with_filled}
use Rattle.ec_esc.specs.Writing.{with_emptied}
use Rattle.ec_esc.proofs.ShowLemmas.{length-shown_after, get_or-shown_after}

-- ---- bytes

set_bytes : (xs : List ℕ) (i v : ℕ) → v < 256 → AreBytes xs → AreBytes (set xs i v)
set_bytes xs i v small all k =
    ⊎_elim
    (λ (here : k ≡ i).
    ⊎_elim
    (λ (inside : i < length xs). rw (here, get_or-set_same xs i v 0 inside) small)
    (λ (past : length xs ≤ i).
    omega (arith, get_or_past (set xs i v) k 0 (omega (arith, length-set xs i v, here, past))))
    (cases_lt i (length xs)))
    (λ elsewhere. rw (get_or-set_other xs i k v 0 elsewhere) (all k))
    (cases_eq k i)

settled_bytes : (before after : List ℕ) → AreBytes after → AreBytes (settled before after)
unfolding settled
settled_bytes before after all k =
    let size = length-map-range_with_len (settled_byte before after) 0 (length after) in
    ⊎_elim
    (λ (inside : k < length after).
    let below : settled_byte before after k < 256 = one _ (get_or after k 0) (all k) in
    omega (
      arith,
      get_or-map-range_with_len (settled_byte before after) 0 (length after) k k 0 (omega arith) (omega arith),
    ))
    (λ (past : length after ≤ k). omega (arith, get_or_past (settled before after) k 0 (omega (arith, size))))
    (cases_lt k (length after))
  where
    one : (b : Bool) (x : ℕ) → x < 256 → cond b 0 x < 256
    one true x small = omega arith
    one false x small = small

settled_length : (before after : List ℕ) → length (settled before after) ≡ length after
unfolding settled
settled_length before after = length-map-range_with_len (settled_byte before after) 0 (length after)

shown_bytes : (f : ℕ → Bool) (befores afters : List SyncMan) (memory shown : List ℕ) → AreBytes memory
    → AreBytes shown
    → AreBytes (shown_after f befores afters memory shown)
shown_bytes f befores afters memory shown m s k =
    ⊎_elim
    (λ (inside : k < length shown).
    let byte = shown_byte f befores afters memory shown k in
    let below : byte < 256 =
    elim (is_shown_anew f befores afters (4096 + k)) as
    (λ b. cond b (get_or memory (4096 + k) 0) (get_or shown k 0) < 256) [
      | true ↦ m (4096 + k)
      | false ↦ s k
    ] in
    omega (arith, get_or-shown_after f befores afters memory shown k inside))
    (λ (past : length shown ≤ k).
    omega (
      arith,
      get_or_past (shown_after f befores afters memory shown) k 0
          (omega (arith, length-shown_after f befores afters memory shown)),
    ))
    (cases_lt k (length shown))

-- ---- the memory behind what is filled and emptied

filled_bytes : (o : Option ℕ) (m : List ℕ) → AreBytes m → AreBytes (with_filled o m)
filled_bytes None m all = all
filled_bytes (Some i) m all =
    set_bytes m (status_address i) (bit_or (get_or m (status_address i) 0) 8)
    (or_lt 8 (get_or m (status_address i) 0) 8 (all (status_address i)) (omega arith)) all

filled_length : (o : Option ℕ) (m : List ℕ) → length (with_filled o m) ≡ length m
filled_length None m = refl
filled_length (Some i) m = length-set m (status_address i) (bit_or (get_or m (status_address i) 0) 8)

-- a controller whose master has the last mail once more stays one
again_bytes : (s : SyncMan) (i : ℕ) (stood m : List ℕ) → AreBytes m → AreBytes (with_mail_again s i stood m)
again_bytes s i stood m all =
    ⊎_elim
    (λ (yes : holds_mail s stood ≡ true).
    subst (λ (b : Bool). AreBytes (cond b (with_filled (Some i) m) m)) (sym yes) (filled_bytes (Some i) m all))
    (λ (no : holds_mail s stood ≡ false).
    subst (λ (b : Bool). AreBytes (cond b (with_filled (Some i) m) m)) (sym no) all)
    (cases_Bool (holds_mail s stood))

again_length : (s : SyncMan) (i : ℕ) (stood m : List ℕ) → length (with_mail_again s i stood m) ≡ length m
again_length s i stood m =
    ⊎_elim
    (λ (yes : holds_mail s stood ≡ true).
    ap (λ (b : Bool). length (cond b (with_filled (Some i) m) m)) yes ∙ filled_length (Some i) m)
    (λ (no : holds_mail s stood ≡ false). ap (λ (b : Bool). length (cond b (with_filled (Some i) m) m)) no)
    (cases_Bool (holds_mail s stood))

pub repeat_told_controller : (c : ControllerState) (i : ℕ) → IsController c
    → IsController (with_repeat_told c i)
repeat_told_controller c i is =
    let asked : ℕ = 2 * repeat_asked (sync_manager_at c.memory i) in
    let small : asked < 256 = omega arith in
    record {
      memory_size = length-set c.memory (2048 + 8 * i + 7) asked ∙ is.memory_size;
      memory = set_bytes c.memory (2048 + 8 * i + 7) asked small is.memory;
      shown_size = is.shown_size;
      shown = is.shown;
    }

pub repeated_controller : (c : ControllerState) (i : ℕ) → IsController c → IsController (with_mail_repeated c i)
repeated_controller c i is =
    let s : SyncMan = sync_manager_at c.memory i in
    let told : ControllerState = with_repeat_told c i in
    let still : IsController told = repeat_told_controller c i is in
    record {
      memory_size = again_length s i c.memory told.memory ∙ still.memory_size;
      memory = again_bytes s i c.memory told.memory still.memory;
      shown_size = is.shown_size;
      shown = is.shown;
    }

emptied_bytes : (o : Option ℕ) (m : List ℕ) → AreBytes m → AreBytes (with_emptied o m)
emptied_bytes None m all = all
emptied_bytes (Some i) m all =
    set_bytes m (status_address i) (bit_and (get_or m (status_address i) 0) 247)
    (and_lt 8 (get_or m (status_address i) 0) 247 (all (status_address i)) (omega arith)) all

emptied_length : (o : Option ℕ) (m : List ℕ) → length (with_emptied o m) ≡ length m
emptied_length None m = refl
emptied_length (Some i) m = length-set m (status_address i) (bit_and (get_or m (status_address i) 0) 247)

state_is : (e : Effect) (c : ControllerState) (payload : List ℕ) → IsController c
    → IsController (state_after e c payload)
state_is e c payload is =
    let bits : List ℕ = with_bits c.memory payload e.writing.places in
    let memory : List ℕ = settled c.memory bits in
    let filled : List ℕ = with_filled e.writing.mail memory in
    let all : AreBytes memory =
    settled_bytes c.memory bits (AreBytes-with_bits c.memory payload e.writing.places) in
    let before = sync_managers_of c.memory in
    let after = sync_managers_of memory in
    record {
      memory_size = emptied_length e.reading.mail filled ∙ filled_length e.writing.mail memory
          ∙ settled_length c.memory bits ∙ length-with_bits c.memory payload e.writing.places
          ∙ is.memory_size;
      memory = emptied_bytes e.reading.mail filled (filled_bytes e.writing.mail memory all);
      shown_size = length-shown_after (touches e.writing.places) before after memory c.shown ∙ is.shown_size;
      shown = shown_bytes (touches e.writing.places) before after memory c.shown all is.shown;
    }

-- behind a datagram
pub pass_is : (c : ControllerState) (d : DatagramRecord) → IsController c → IsController (pass c d).state
unfolding pass
pass_is c d is = state_is (effect d.command c d.address (length d.payload)) c d.payload is

-- behind a frame
pub frame_is : (c : ControllerState) (ds : List DatagramRecord) → IsController c
    → IsController (frame_pass c ds).state
unfolding frame_pass
frame_is c [] is = is
frame_is c (d ∷ ds) is = frame_is (pass c d).state ds (pass_is c d is)
