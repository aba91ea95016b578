-- Registers are read by station: what the slave that is meant answers, and what it is left as.
use Rattle.std.proofs.Common.{◌≡◌, ℕ, ◌+◌, ◌≤◌, Bool, true, eqb, ◌&&◌, List, length, take, drop}
use Rattle.std.proofs.Common.{Option, None, sym, ap, ◌∙◌, arith, replicate}
use Rattle.std.proofs.lemmas.List.{length-take-le, length-drop, length-replicate}
use Rattle.ec_regs.specs.Bits.{with_bits}
use Rattle.ec_regs.specs.declared.registers.TheConstants.{STATION_ADDRESS, PROCESS_MEMORY, MEMORY_SIZE}
use Rattle.ec_regs.proofs.Laws.{copied_run, get_or-run, AreBytes-run}
use Rattle.ec_areas.proofs.Laws.{reads_registers, emptied_registers}
use Rattle.ec_areas.specs.Records.{sync_managers_of}
use Rattle.ec_wire.specs.Datagram.{DatagramRecord, adp_of, ado_of}
use Rattle.ec_wire.specs.declared.command.Command.TheVariants.{Fprd}
use Rattle.ec_esc.specs.State.{ControllerState, IsController, word_at}
use Rattle.ec_esc.specs.Pass.{Effect, nothing, where_served, effect, applied, range_given, range_sources}
use Rattle.ec_esc.specs.Pass.{serves_range_read}
use Rattle.ec_esc.specs.Pass.{written_by, pass}
use Rattle.ec_esc.proofs.Laws.{written_nothing}
use Rattle.ec_services.specs.Ask.{request}

-- what a read of n registers does in the controller that is addressed
read_effect : ControllerState → ℕ → Effect
read_effect c from = record {
  reading = record { places = range_sources from; gain = 1; mail = None };
  writing = nothing;
}

reads_effect : (c : ControllerState) (address from n : ℕ) → eqb (adp_of address)
    (word_at c.memory STATION_ADDRESS) ≡ true
    → ado_of address ≡ from → 1 ≤ n → from + n ≤ PROCESS_MEMORY
    → effect Fprd c address n ≡ read_effect c from
unfolding read_effect
reads_effect c address from n meant place some inside =
    ap (λ (b : Bool). record {
      reading = where_served (b && serves_range_read c (ado_of address) n)
          (range_given (range_sources (ado_of address)) c (ado_of address) n);
      writing = nothing;
    }) meant
    ∙ ap (λ (a : ℕ). record {
      reading = where_served (serves_range_read c a n) (range_given (range_sources a) c a n);
      writing = nothing;
    }) place
    ∙ ap (λ (b : Bool). record {
      reading = where_served b (range_given (range_sources from) c from n);
      writing = nothing;
    }) (reads_registers (sync_managers_of c.memory) from n some inside)
    ∙ ap (λ (o : Option ℕ). record {
      reading = record { places = range_sources from; gain = 1; mail = o };
      writing = nothing;
    }) (emptied_registers (sync_managers_of c.memory) from n some inside)

-- the bytes of registers
pub run_size : (m : List ℕ) (from n : ℕ) → from + n ≤ length m → length (take n (drop from m)) ≡ n
run_size m from n inside =
    length-take-le n (drop from m) (let size = length-drop from m in omega (arith, size, inside))

read_bytes : (c : ControllerState) (from n : ℕ) → IsController c → from + n ≤ PROCESS_MEMORY
    → with_bits (replicate n 0) c.memory (range_sources from) ≡ take n (drop from c.memory)
read_bytes c from n controller inside =
    let zs : List ℕ = take n (drop from c.memory) in
    let memory : length c.memory ≡ MEMORY_SIZE = controller.memory_size in
    let size : length zs ≡ n = run_size c.memory from n (omega (arith, memory, inside)) in
    let zeros : length (replicate n 0) ≡ n = length-replicate {A = ℕ} n 0 in
    sym (copied_run zs (replicate n 0) c.memory from (size ∙ sym zeros)
    (AreBytes-run zs c.memory from n (omega (arith, size)) controller.memory
    (λ k below. get_or-run c.memory from n k below))
    (λ k below. get_or-run c.memory from n k (omega (arith, below, zeros))))

-- registers are read, and the controller stays
pub registers_read : (c : ControllerState) (address from n : ℕ) → IsController c
    → eqb (adp_of address) (word_at c.memory STATION_ADDRESS) ≡ true
    → ado_of address ≡ from → 1 ≤ n → from + n ≤ PROCESS_MEMORY
    → pass c (request Fprd address (replicate n 0))
    ≡ record {
      datagram = record (request Fprd address (take n (drop from c.memory))) { counter = 1 };
      state = c;
    }
unfolding pass read_effect
registers_read c address from n controller meant place some inside =
    let d : DatagramRecord = request Fprd address (replicate n 0) in
    let size : length (replicate n 0) ≡ n = length-replicate {A = ℕ} n 0 in
    ap (λ (m : ℕ). applied (effect Fprd c address m) c d) size
    ∙ ap (λ (e : Effect). applied e c d) (reads_effect c address from n meant place some inside)
    ∙ ap (λ (bytes : List ℕ). record {
      datagram = record (request Fprd address bytes) { counter = 1 };
      state = written_by nothing (replicate n 0) c;
    }) (read_bytes c from n controller inside)
    ∙ ap (λ (x : ControllerState). record {
      datagram = record (request Fprd address (take n (drop from c.memory))) { counter = 1 };
      state = x;
    }) (written_nothing c (replicate n 0) controller)
