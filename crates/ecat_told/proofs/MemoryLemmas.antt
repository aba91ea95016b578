-- A pass leaves a controller a memory of its size, and of bytes.
use Rattle.std.proofs.Common.{◌≡◌, ◌≢◌, ℕ, ◌<◌, ◌≤◌, Bool, true, false, cond, List, length, get_or, set}
use Rattle.std.proofs.Common.{Option, None, Some, refl, sym, ap, ◌∙◌, arith, subst, ⊎_elim, get_or-set_other}
use Rattle.std.proofs.Common.{get_or-set_same}
use Rattle.std.specs.Prelude.{bit_and, bit_or}
use Rattle.std.proofs.lemmas.Bool.{cases_eq, cases_lt}
use Rattle.std.proofs.lemmas.List.{get_or_past, length-set}
use Rattle.std.proofs.lemmas.List.FromFn.{get_or-map-range_with_len, length-map-range_with_len}
use Rattle.std.proofs.lemmas.Nat.{and_le_l, or_lt}
use Rattle.ec_regs.specs.Bits.{AreBytes, with_bits}
use Rattle.ec_regs.specs.SyncMan.{status_address}
use Rattle.ec_regs.proofs.Laws.{AreBytes-with_bits, length-with_bits}
use Rattle.ec_wire.specs.Datagram.{DatagramRecord}
use Rattle.ec_esc.specs.Pass.{Effect, effect, pass}
use Rattle.ec_esc.specs.State.{ControllerState}
use Rattle.ec_esc.specs.Writing.{settled, settled_byte, with_emptied, with_filled}
use Rattle.ecat_told.proofs.PassLemmas.{HasMemory}

set_small : (x : ℕ) → x < 256 → bit_or x 8 < 256
set_small x small = or_lt 8 x 8 small (omega arith)

clear_small : (x : ℕ) → x < 256 → bit_and x 247 < 256
clear_small x small = let less : bit_and x 247 ≤ x = and_le_l x 247 in omega (arith, less, small)

bytes_set : (m : List ℕ) (a v : ℕ) → AreBytes m → v < 256 → AreBytes (set m a v)
bytes_set m a v bytes small k =
    ⊎_elim
    (λ (here : k ≡ a).
    ⊎_elim
    (λ (inside : a < length m).
    subst (λ (x : ℕ). x < 256)
    (sym (ap (λ (j : ℕ). get_or (set m a v) j 0) here ∙ get_or-set_same m a v 0 inside))
    small)
    (λ (past : length m ≤ a).
    let size : length (set m a v) ≡ length m = length-set m a v in
    let none : get_or (set m a v) k 0 ≡ 0 = get_or_past (set m a v) k 0 (omega (arith, size, here, past)) in
    omega (arith, none))
    (cases_lt a (length m)))
    (λ (other : k ≢ a). subst (λ (x : ℕ). x < 256) (sym (get_or-set_other m a k v 0 other)) (bytes k))
    (cases_eq k a)

filled_size : (mail : Option ℕ) (m : List ℕ) → length (with_filled mail m) ≡ length m
filled_size None m = refl
filled_size (Some i) m = length-set m (status_address i) (bit_or (get_or m (status_address i) 0) 8)

emptied_size : (mail : Option ℕ) (m : List ℕ) → length (with_emptied mail m) ≡ length m
emptied_size None m = refl
emptied_size (Some i) m = length-set m (status_address i) (bit_and (get_or m (status_address i) 0) 247)

filled_bytes : (mail : Option ℕ) (m : List ℕ) → AreBytes m → AreBytes (with_filled mail m)
filled_bytes None m are = are
filled_bytes (Some i) m are =
    let at : ℕ = status_address i in
    bytes_set m at (bit_or (get_or m at 0) 8) are (set_small (get_or m at 0) (are at))

emptied_bytes : (mail : Option ℕ) (m : List ℕ) → AreBytes m → AreBytes (with_emptied mail m)
emptied_bytes None m are = are
emptied_bytes (Some i) m are =
    let at : ℕ = status_address i in
    bytes_set m at (bit_and (get_or m at 0) 247) are (clear_small (get_or m at 0) (are at))

settled_size : (before after : List ℕ) → length (settled before after) ≡ length after
unfolding settled
settled_size before after = length-map-range_with_len (settled_byte before after) 0 (length after)

either_small : (b : Bool) (x y : ℕ) → x < 256 → y < 256 → cond b x y < 256
either_small true x y first second = first
either_small false x y first second = second

settled_bytes : (before after : List ℕ) → AreBytes after → AreBytes (settled before after)
unfolding settled
settled_bytes before after bytes k =
    ⊎_elim
    (λ (inside : k < length after).
    subst (λ (x : ℕ). x < 256)
    (sym (get_or-map-range_with_len (settled_byte before after) 0 (length after) k k 0 (omega arith)
    (omega (arith, inside))))
    (either_small _ 0 (get_or after k 0) (omega arith) (bytes k)))
    (λ (past : length after ≤ k).
    let size : length (settled before after) ≡ length after = settled_size before after in
    let none : get_or (settled before after) k 0 ≡ 0 =
    get_or_past (settled before after) k 0 (omega (arith, size, past)) in
    omega (arith, none))
    (cases_lt k (length after))

-- whatever datagram passes
pub passed_memory : (c : ControllerState) (d : DatagramRecord) → HasMemory c → HasMemory (pass c d).state
unfolding pass
passed_memory c d controller =
    let e : Effect = effect d.command c d.address (length d.payload) in
    let new : List ℕ = with_bits c.memory d.payload e.writing.places in
    let memory : List ℕ = settled c.memory new in
    let filled : List ℕ = with_filled e.writing.mail memory in
    record {
      memory_size = emptied_size e.reading.mail filled ∙ filled_size e.writing.mail memory
          ∙ settled_size c.memory new ∙ length-with_bits c.memory d.payload e.writing.places
          ∙ controller.memory_size;
      memory = emptied_bytes e.reading.mail filled (filled_bytes e.writing.mail memory
          (settled_bytes c.memory new (AreBytes-with_bits c.memory d.payload e.writing.places)));
    }
