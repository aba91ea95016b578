-- Registers are written by station: the slave that is meant counts the write, and then they hold the data.
use Rattle.std.proofs.Common.{◌≡◌, ℕ, ◌+◌, ◌*◌, ◌/◌, ◌-◌, ◌<◌, ◌≤◌, Bool, true, cond, eqb, ltb, leb}
use Rattle.std.proofs.Common.{◌&&◌, ◌||◌, List, length, get_or, Option, None, Some, refl, sym, ap, ◌∙◌, arith}
use Rattle.std.specs.Prelude.{not, ◌≢◌}
use Rattle.std.specs.Option.{is_some}
use Rattle.std.proofs.lemmas.Bool.{and_from}
use Rattle.std.proofs.lemmas.Bool.Decides.{nat_tests}
use Rattle.std.proofs.lemmas.Nat.Bits.{same_from_bits_below}
use Rattle.ec_regs.specs.Bits.{AreBytes, with_bits}
use Rattle.ec_regs.specs.SyncMan.{status_address}
use Rattle.ec_regs.specs.declared.registers.TheConstants.{MEMORY_SIZE, PROCESS_MEMORY, STATION_ADDRESS}
use Rattle.ec_regs.proofs.Laws.{AreBytes-with_bits, bit-with_bits_taken, bit_of_byte, length-with_bits}
use Rattle.ec_areas.specs.Ranges.{filled_by, is_range, serves_physical_write, some_address, takes_writes}
use Rattle.ec_areas.specs.Records.{sync_managers_of}
use Rattle.ec_areas.proofs.Laws.{filled_registers, locked_registers}
use Rattle.ec_wire.specs.Datagram.{DatagramRecord, ado_of, adp_of}
use Rattle.ec_wire.specs.declared.command.Command.TheVariants.{Fpwr}
use Rattle.ec_esc.specs.Pass.{Effect, applied, effect, is_written, nothing, pass, range_taken, range_targets}
use Rattle.ec_esc.specs.Pass.{serves_range_write, where_served, written_places}
use Rattle.ec_esc.specs.State.{ControllerState, IsController, word_at}
use Rattle.ec_services.specs.Ask.{request}
use Rattle.ec_over_ring.proofs.SparedLemmas.{settled_kept}

-- registers of which one takes writes
pub record CanWrite (m : List ℕ) (from n : ℕ) : Type 0 where
  pub some : 1 ≤ n
  pub inside : from + n ≤ PROCESS_MEMORY
  pub takes : some_address (takes_writes m) from n ≡ true

write_served : (m : List ℕ) (from n : ℕ) → CanWrite m from n
    → serves_physical_write m (sync_managers_of m) from n ≡ true
write_served m from n can =
    let rest : Bool = is_some (filled_by (sync_managers_of m) from n) in
    let some : 1 ≤ n = can.some in
    let inside : from + n ≤ 4096 = can.inside in
    let first : leb 1 n ≡ true = grind (arith, nat_tests) in
    let last : leb (from + n) 12288 ≡ true = grind (arith, nat_tests) in
    ap (λ (b : Bool). is_range from n && ((not b && some_address (takes_writes m) from n) || rest))
    (locked_registers (sync_managers_of m) from n inside)
    ∙ ap (λ (b : Bool). is_range from n && (b || rest)) can.takes
    ∙ and_from _ _ (and_from _ _ first last) refl

write_effect : ControllerState → ℕ → ℕ → Effect
write_effect c from n = record {
  reading = nothing;
  writing = record { places = range_targets c from n; gain = 1; mail = None };
}

range_effect : (c : ControllerState) (address from n : ℕ)
    → eqb (adp_of address) (word_at c.memory STATION_ADDRESS) ≡ true → ado_of address ≡ from
    → CanWrite c.memory from n → effect Fpwr c address n ≡ write_effect c from n
unfolding write_effect
range_effect c address from n meant place can =
    ap (λ (b : Bool). record {
      reading = nothing;
      writing = where_served (b && serves_range_write c (ado_of address) n) (range_taken 1 c
          (ado_of address) n);
    }) meant
    ∙ ap (λ (a : ℕ). record {
      reading = nothing;
      writing = where_served (serves_range_write c a n) (range_taken 1 c a n);
    }) place
    ∙ ap (λ (b : Bool). record {
      reading = nothing;
      writing = where_served b (range_taken 1 c from n);
    }) (write_served c.memory from n can)
    ∙ ap (λ (o : Option ℕ). record {
      reading = nothing;
      writing = record { places = range_targets c from n; gain = 1; mail = o };
    }) (filled_registers (sync_managers_of c.memory) from n can.inside)

-- it is counted once
pub range_counted : (c : ControllerState) (address from : ℕ) (bytes : List ℕ)
    → eqb (adp_of address) (word_at c.memory STATION_ADDRESS) ≡ true → ado_of address ≡ from
    → CanWrite c.memory from (length bytes)
    → (pass c (request Fpwr address bytes)).datagram.counter ≡ 1
unfolding pass write_effect
range_counted c address from bytes meant place can =
    let d : DatagramRecord = request Fpwr address bytes in
    ap (λ (e : Effect). (applied e c d).datagram.counter)
    (range_effect c address from (length bytes) meant place can)

-- the data bit that a bit of a byte takes
target_at : (m : List ℕ) (from n k b : ℕ) → is_written m from n (from + k) ≡ true → b < 8
    → written_places m from n (8 * (from + k) + b) ≡ Some (8 * k + b)
target_at m from n k b taken below =
    let byte : (8 * (from + k) + b) / 8 ≡ from + k = omega (arith, below) in
    let place : 8 * (from + k) + b - 8 * from ≡ 8 * k + b = omega arith in
    ap (λ (x : ℕ). cond (is_written m from n x) (Some (8 * (from + k) + b - 8 * from)) None) byte
    ∙ ap (λ (t : Bool). cond t (Some (8 * (from + k) + b - 8 * from)) None) taken
    ∙ ap (λ (x : ℕ). Some x) place

-- a byte that is written is that of the data
byte_written : (m bytes : List ℕ) (from n k : ℕ) → length m ≡ MEMORY_SIZE → from + k < MEMORY_SIZE
    → AreBytes bytes → is_written m from n (from + k) ≡ true
    → get_or (with_bits m bytes (written_places m from n)) (from + k) 0 ≡ get_or bytes k 0
byte_written m bytes from n k size inside are taken =
    let places : ℕ → Option ℕ = written_places m from n in
    same_from_bits_below 8 (get_or (with_bits m bytes places) (from + k) 0) (get_or bytes k 0)
    (AreBytes-with_bits m bytes places (from + k)) (are k)
    (λ b below.
    sym (bit_of_byte (with_bits m bytes places) (from + k) b below)
    ∙ bit-with_bits_taken m bytes places (8 * (from + k) + b) (8 * k + b)
    (omega (arith, size, inside, below)) (target_at m from n k b taken below)
    ∙ bit_of_byte bytes k b below)

-- and stands there, where it is no status of a sync manager
pub range_put : (c : ControllerState) (address from k : ℕ) (bytes : List ℕ) → IsController c
    → eqb (adp_of address) (word_at c.memory STATION_ADDRESS) ≡ true → ado_of address ≡ from
    → CanWrite c.memory from (length bytes) → AreBytes bytes → k < length bytes
    → takes_writes c.memory (from + k) ≡ true → ((i : ℕ) → from + k ≢ status_address i)
    → get_or (pass c (request Fpwr address bytes)).state.memory (from + k) 0 ≡ get_or bytes k 0
unfolding pass write_effect
range_put c address from k bytes controller meant place can are below takes none =
    let d : DatagramRecord = request Fpwr address bytes in
    let n : ℕ = length bytes in
    let inside : from + n ≤ 4096 = can.inside in
    let memory : length c.memory ≡ MEMORY_SIZE = controller.memory_size in
    let new : List ℕ = with_bits c.memory bytes (written_places c.memory from n) in
    let size : length new ≡ length c.memory =
    length-with_bits c.memory bytes (written_places c.memory from n) in
    let first : leb from (from + k) ≡ true = grind (arith, nat_tests) in
    let last : ltb (from + k) (from + n) ≡ true = grind (arith, nat_tests) in
    let taken : is_written c.memory from n (from + k) ≡ true =
    and_from _ _ (and_from _ _ first last) takes in
    ap (λ (e : Effect). get_or (applied e c d).state.memory (from + k) 0)
    (range_effect c address from n meant place can)
    ∙ settled_kept c.memory new (from + k) (omega (arith, size, memory, inside, below)) none
    ∙ byte_written c.memory bytes from n k controller.memory_size (omega (arith, inside, below)) are taken
