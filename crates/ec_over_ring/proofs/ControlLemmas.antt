-- AL control is written by station: the slave that is meant counts it, and finds it as it was sent.
use Rattle.std.proofs.Common.{◌≡◌, ℕ, zero, suc, ◌+◌, ◌*◌, ◌/◌, ◌-◌, ◌<◌, Bool, true, false, cond, eqb}
use Rattle.std.proofs.Common.{ltb, leb, ◌&&◌, ◌||◌, List, [], ◌∷◌, length, get_or, Option, None, Some}
use Rattle.std.proofs.Common.{refl, sym, ap, ◌∙◌, arith, subst, ◌≤◌, ⊎_elim}
use Rattle.std.specs.Prelude.{not}
use Rattle.std.specs.Option.{is_some, IsSome}
use Rattle.std.proofs.Math.Bool.{or-true}
use Rattle.std.proofs.lemmas.Bool.{cases_lt}
use Rattle.std.proofs.lemmas.Bool.Decides.{nat_tests}
use Rattle.std.proofs.lemmas.List.{get_or_past}
use Rattle.std.proofs.lemmas.List.FromFn.{length-map-range_with_len, get_or-map-range_with_len}
use Rattle.std.proofs.lemmas.Nat.Bits.{same_from_bits_below}
use Rattle.ec_regs.specs.Bits.{AreBytes, with_bits}
use Rattle.ec_regs.specs.declared.registers.TheConstants.{STATION_ADDRESS, AL_CONTROL, MEMORY_SIZE}
use Rattle.ec_regs.proofs.Laws.{get_or-with_bits_kept}
use Rattle.ec_regs.proofs.Laws.{AreBytes-with_bits, length-with_bits, bit_of_byte, bit-with_bits_taken}
use Rattle.ec_areas.proofs.Laws.{filled_registers, locked_registers, names_at}
use Rattle.ec_areas.specs.Ranges.{filled_by, takes_writes, some_address}
use Rattle.ec_areas.specs.Ranges.{serves_physical_write}
use Rattle.ec_areas.specs.Records.{sync_managers_of}
use Rattle.ec_wire.specs.Datagram.{DatagramRecord, adp_of, ado_of}
use Rattle.ec_wire.specs.declared.command.Command.TheVariants.{Fpwr}
use Rattle.ec_esc.specs.State.{ControllerState, IsController, word_at}
use Rattle.ec_esc.specs.Writing.{settled, settled_byte}
use Rattle.ec_esc.specs.Pass.{Effect, nothing, where_served, effect, applied, range_taken, range_targets}
use Rattle.ec_esc.specs.Pass.{is_written, written_places, touches, serves_range_write, pass}
use Rattle.ec_esc.proofs.Laws.{length-shown_after}
use Rattle.ec_services.specs.Ask.{request}
use Rattle.ec_over_ring.proofs.MailboxLemmas.{bytes_shown, either_small}

-- ---- what the write does

-- both bytes of AL control take writes
control_taken : (m : List ℕ) → some_address (takes_writes m) 288 2 ≡ true
unfolding some_address takes_writes
control_taken m = refl

-- so it is served
pub control_served : (m : List ℕ) → serves_physical_write m (sync_managers_of m) 288 2 ≡ true
control_served m =
    let rest : Bool = is_some (filled_by (sync_managers_of m) 288 2) in
    ap (λ (b : Bool). (not b && some_address (takes_writes m) 288 2) || rest)
    (locked_registers (sync_managers_of m) 288 2 (omega arith))
    ∙ ap (λ (b : Bool). b || rest) (control_taken m)

write_effect : ControllerState → Effect
write_effect c = record {
  reading = nothing;
  writing = record { places = range_targets c 288 2; gain = 1; mail = None };
}

control_effect : (c : ControllerState) (address : ℕ)
    → eqb (adp_of address) (word_at c.memory STATION_ADDRESS) ≡ true → ado_of address ≡ AL_CONTROL
    → effect Fpwr c address 2 ≡ write_effect c
unfolding write_effect
control_effect c address meant place =
    ap (λ (b : Bool). record {
      reading = nothing;
      writing = where_served (b && serves_range_write c (ado_of address) 2) (range_taken 1 c
          (ado_of address) 2);
    }) meant
    ∙ ap (λ (a : ℕ). record {
      reading = nothing;
      writing = where_served (serves_range_write c a 2) (range_taken 1 c a 2);
    }) place
    ∙ ap (λ (b : Bool). record {
      reading = nothing;
      writing = where_served b (range_taken 1 c 288 2);
    }) (control_served c.memory)
    ∙ ap (λ (o : Option ℕ). record {
      reading = nothing;
      writing = record { places = range_targets c 288 2; gain = 1; mail = o };
    }) (filled_registers (sync_managers_of c.memory) 288 2 (omega arith))

-- ---- the bytes of AL control

-- the data bit that a bit of a byte takes
target_at : (m : List ℕ) (a k b : ℕ) → is_written m 288 2 a ≡ true → a ≡ 288 + k → b < 8
    → written_places m 288 2 (8 * a + b) ≡ Some (8 * k + b)
target_at m a k b taken is below =
    let byte : (8 * a + b) / 8 ≡ a = omega (arith, below) in
    let place : 8 * a + b - 8 * 288 ≡ 8 * k + b = omega (arith, is) in
    ap (λ (x : ℕ). cond (is_written m 288 2 x) (Some (8 * a + b - 8 * 288)) None) byte
    ∙ ap (λ (t : Bool). cond t (Some (8 * a + b - 8 * 288)) None) taken
    ∙ ap (λ (x : ℕ). Some x) place

first_written : (m : List ℕ) → is_written m 288 2 288 ≡ true
unfolding takes_writes
first_written m = refl

second_written : (m : List ℕ) → is_written m 288 2 289 ≡ true
unfolding takes_writes
second_written m = refl

-- a byte that is written is that of the data
written_byte : (m payload : List ℕ) (a k : ℕ) → length m ≡ MEMORY_SIZE → a < MEMORY_SIZE → AreBytes payload
    → is_written m 288 2 a ≡ true → a ≡ 288 + k
    → get_or (with_bits m payload (written_places m 288 2)) a 0 ≡ get_or payload k 0
written_byte m payload a k size inside bytes taken is =
    let places : ℕ → Option ℕ = written_places m 288 2 in
    same_from_bits_below 8 (get_or (with_bits m payload places) a 0) (get_or payload k 0)
    (AreBytes-with_bits m payload places a) (bytes k)
    (λ b below.
    sym (bit_of_byte (with_bits m payload places) a b below)
    ∙ bit-with_bits_taken m payload places (8 * a + b) (8 * k + b) (omega (arith, size, inside, below))
    (target_at m a k b taken is below)
    ∙ bit_of_byte payload k b below)

-- no status of a sync manager stands there
kept_byte : (before after : List ℕ) (a : ℕ) → a < 2048 → a < length after
    → get_or (settled before after) a 0 ≡ get_or after a 0
unfolding settled
kept_byte before after a register inside =
    let below : ltb a 2048 ≡ true = grind (arith, nat_tests) in
    let outside : leb 2048 a ≡ false = grind (arith, nat_tests) in
    get_or-map-range_with_len (settled_byte before after) 0 (length after) a a 0 (omega arith) (omega arith)
    ∙ rw outside refl

-- ---- the controller that was written to

-- AL control is as it was sent, and marked; the memory has its size
pub record HasControl (control : ℕ) (c : ControllerState) : Type 0 where
  pub written : c.written ≡ true
  pub is : word_at c.memory AL_CONTROL ≡ control
  pub size : length c.memory ≡ MEMORY_SIZE

control_touched : (m : List ℕ) → touches (written_places m 288 2) AL_CONTROL ≡ true
control_touched m =
    names_at (λ b. written_places m 288 2 (8 * 288 + b)) 8 0 (omega arith) (some_of _ _
    (target_at m 288 0 0 (first_written m) refl (omega arith)))
  where
    some_of : (o : Option ℕ) (x : ℕ) → o ≡ Some x → IsSome o
    some_of o x is = subst (λ (y : Option ℕ). IsSome y) (sym is) refl

pub settled_size : (before after : List ℕ) → length (settled before after) ≡ length after
unfolding settled
settled_size before after = length-map-range_with_len (settled_byte before after) 0 (length after)

pub control_written : (c : ControllerState) (address control : ℕ) → IsController c → control < 256
    → eqb (adp_of address) (word_at c.memory STATION_ADDRESS) ≡ true → ado_of address ≡ AL_CONTROL
    → HasControl control (pass c (request Fpwr address (control ∷ 0 ∷ []))).state
unfolding pass write_effect
control_written c address control controller small meant place =
    let payload : List ℕ = control ∷ 0 ∷ [] in
    let d : DatagramRecord = request Fpwr address payload in
    let P : Effect → Type 0 = λ e. HasControl control (applied e c d).state in
    let places : ℕ → Option ℕ = written_places c.memory 288 2 in
    let new : List ℕ = with_bits c.memory payload places in
    let size : length new ≡ MEMORY_SIZE = length-with_bits c.memory payload places ∙ controller.memory_size in
    let bytes : AreBytes payload = two_bytes control small in
    let low : get_or (settled c.memory new) 288 0 ≡ control =
    kept_byte c.memory new 288 (omega arith) (omega (arith, size))
    ∙ written_byte c.memory payload 288 0 controller.memory_size (omega arith) bytes
    (first_written c.memory) refl in
    let high : get_or (settled c.memory new) 289 0 ≡ 0 =
    kept_byte c.memory new 289 (omega arith) (omega (arith, size))
    ∙ written_byte c.memory payload 289 1 controller.memory_size (omega arith) bytes
    (second_written c.memory) refl in
    subst P (sym (control_effect c address meant place))
    (record {
      written = ap (λ b. c.written || b) (control_touched c.memory) ∙ or-true c.written;
      is = omega (arith, low, high);
      size = settled_size c.memory new ∙ size;
    })
  where
    two_bytes : (x : ℕ) → x < 256 → AreBytes (x ∷ 0 ∷ [])
    two_bytes x small zero = small
    two_bytes x small (suc zero) = omega arith
    two_bytes x small (suc (suc k)) = omega arith

-- ---- what else the write leaves

-- it is counted once
pub control_counted : (c : ControllerState) (address control : ℕ)
    → eqb (adp_of address) (word_at c.memory STATION_ADDRESS) ≡ true → ado_of address ≡ AL_CONTROL
    → (pass c (request Fpwr address (control ∷ 0 ∷ []))).datagram.counter ≡ 1
unfolding pass write_effect
control_counted c address control meant place =
    let d : DatagramRecord = request Fpwr address (control ∷ 0 ∷ []) in
    ap (λ (e : Effect). (applied e c d).datagram.counter) (control_effect c address meant place)

-- a byte that is not written stays
other_byte : (m payload : List ℕ) (a : ℕ) → AreBytes m → is_written m 288 2 a ≡ false
    → get_or (with_bits m payload (written_places m 288 2)) a 0 ≡ get_or m a 0
other_byte m payload a bytes elsewhere =
    get_or-with_bits_kept m payload (written_places m 288 2) a bytes
    (λ b below.
    let byte : (8 * a + b) / 8 ≡ a = omega (arith, below) in
    ap (λ (x : ℕ). cond (is_written m 288 2 x) (Some (8 * a + b - 8 * 288)) None) byte
    ∙ ap (λ (t : Bool). cond t (Some (8 * a + b - 8 * 288)) None) elsewhere)

-- as the station address does
pub control_station : (c : ControllerState) (address control : ℕ) → IsController c
    → eqb (adp_of address) (word_at c.memory STATION_ADDRESS) ≡ true → ado_of address ≡ AL_CONTROL
    → word_at (pass c (request Fpwr address (control ∷ 0 ∷ []))).state.memory STATION_ADDRESS
    ≡ word_at c.memory STATION_ADDRESS
unfolding pass write_effect
control_station c address control controller meant place =
    let payload : List ℕ = control ∷ 0 ∷ [] in
    let d : DatagramRecord = request Fpwr address payload in
    let new : List ℕ = with_bits c.memory payload (written_places c.memory 288 2) in
    let size : length new ≡ MEMORY_SIZE =
    length-with_bits c.memory payload (written_places c.memory 288 2) ∙ controller.memory_size in
    let low : get_or (settled c.memory new) 16 0 ≡ get_or c.memory 16 0 =
    kept_byte c.memory new 16 (omega arith) (omega (arith, size))
    ∙ other_byte c.memory payload 16 controller.memory refl in
    let high : get_or (settled c.memory new) 17 0 ≡ get_or c.memory 17 0 =
    kept_byte c.memory new 17 (omega arith) (omega (arith, size))
    ∙ other_byte c.memory payload 17 controller.memory refl in
    ap (λ (e : Effect). word_at (applied e c d).state.memory STATION_ADDRESS)
    (control_effect c address meant place)
    ∙ omega (arith, low, high)

-- and a controller stays one
pub bytes_settled : (before after : List ℕ) → AreBytes after → AreBytes (settled before after)
unfolding settled
bytes_settled before after bytes k =
    ⊎_elim
    (λ (inside : k < length after).
    subst (λ (x : ℕ). x < 256)
    (sym (get_or-map-range_with_len (settled_byte before after) 0 (length after) k k 0 (omega arith)
    (omega (arith, inside))))
    (either_small _ 0 (get_or after k 0) (omega arith) (bytes k)))
    (λ (past : length after ≤ k).
    let size : length (settled before after) ≡ length after = settled_size before after in
    let none : get_or (settled before after) k 0 ≡ 0 =
    get_or_past (settled before after) k 0 (omega (arith, size, past)) in
    omega (arith, none))
    (cases_lt k (length after))

pub control_controller : (c : ControllerState) (address control : ℕ) → IsController c
    → eqb (adp_of address) (word_at c.memory STATION_ADDRESS) ≡ true → ado_of address ≡ AL_CONTROL
    → IsController (pass c (request Fpwr address (control ∷ 0 ∷ []))).state
unfolding pass write_effect
control_controller c address control controller meant place =
    let payload : List ℕ = control ∷ 0 ∷ [] in
    let d : DatagramRecord = request Fpwr address payload in
    let P : Effect → Type 0 = λ e. IsController (applied e c d).state in
    let places : ℕ → Option ℕ = written_places c.memory 288 2 in
    let new : List ℕ = with_bits c.memory payload places in
    let size : length new ≡ MEMORY_SIZE = length-with_bits c.memory payload places ∙ controller.memory_size in
    let memory : List ℕ = settled c.memory new in
    let bytes : AreBytes memory = bytes_settled c.memory new (AreBytes-with_bits c.memory payload places) in
    subst P (sym (control_effect c address meant place))
    (record {
      memory_size = settled_size c.memory new ∙ size;
      memory = bytes;
      shown_size = length-shown_after _ _ _ memory c.shown ∙ controller.shown_size;
      shown = bytes_shown _ _ _ memory c.shown bytes controller.shown;
    })
