-- A read after a write, where no FMMU for reading meets one for writing: it finds what it would find before.
use Rattle.std.proofs.Common.{◌≡◌, ℕ, ◌+◌, ◌*◌, true, List, length, Option, None, Some, ◌∙◌, ap, refl}
use Rattle.ec_regs.specs.Bits.{AreBytes, placed_bit, with_bits}
use Rattle.ec_regs.specs.declared.fmmu.Fmmu.{Fmmu}
use Rattle.ec_regs.specs.declared.registers.TheConstants.{MEMORY_SIZE}
use Rattle.ec_regs.specs.declared.sync_man.SyncMan.{SyncMan}
use Rattle.ec_regs.proofs.Laws.{bit-with_bits_kept, with_bits_same_bits}
use Rattle.ec_areas.specs.Apart.{are_apart}
use Rattle.ec_areas.specs.Logical.{read_places, names}
use Rattle.ec_areas.specs.Records.{fmmus_of, sync_managers_of}
use Rattle.ec_areas.specs.Records.{SameRegisters}
use Rattle.ec_areas.proofs.Laws.{unwritten, fmmus_same, sync_managers_same}
use Rattle.ec_esc.specs.Pass.{read_sources, write_sources, serves_read}
use Rattle.ec_esc.specs.State.{ControllerState}
use Rattle.ec_esc.proofs.PlannedLemmas.{registers_stay}
use Rattle.ec_esc.proofs.ServedLemmas.{mapped_state}

-- the memory once it was written through FMMUs
abbrev written_memory : ControllerState → ℕ → List ℕ → List ℕ
written_memory c address payload = with_bits c.memory payload (write_sources c address (length payload))

-- the write reaches no register
registers_same : (c : ControllerState) (address : ℕ) (payload : List ℕ) → length c.memory ≡ MEMORY_SIZE
    → AreBytes c.memory
    → SameRegisters c.memory (written_memory c address payload)
registers_same c address payload size are =
    registers_stay c.memory payload (sync_managers_of c.memory) (fmmus_of c.memory) (8 * address)
    (8 * length payload) size are

-- so bits are read from the same places
sources_same : (c : ControllerState) (address : ℕ) (payload : List ℕ) → length c.memory ≡ MEMORY_SIZE
    → AreBytes c.memory
    → read_sources (mapped_state c address payload) address ≡ read_sources c address
sources_same c address payload size are =
    let same = registers_same c address payload size are in
    let memory = written_memory c address payload in
    ap (λ (ms : List SyncMan). read_places ms (fmmus_of memory) (8 * address))
    (sync_managers_same c.memory memory same)
    ∙ ap (λ (fs : List Fmmu). read_places (sync_managers_of c.memory) fs (8 * address))
    (fmmus_same c.memory memory same)

-- and each of them is as it was
read_bit : (c : ControllerState) (address : ℕ) (payload : List ℕ) (i : ℕ)
    → are_apart (fmmus_of c.memory) ≡ true
    → placed_bit payload (written_memory c address payload) (read_sources c address) i
    ≡ placed_bit payload c.memory (read_sources c address) i
unfolding placed_bit
read_bit c address payload i apart =
    let P : Option ℕ → Type 0 = λ o. read_sources c address i ≡ o
    → placed_bit payload (written_memory c address payload) (λ _. o) i
    ≡ placed_bit payload c.memory (λ _. o) i in
    elim (read_sources c address i) as P [
      | None ↦ λ _. refl
      | Some p ↦ λ e.
          bit-with_bits_kept c.memory payload (write_sources c address (length payload)) p
          (unwritten (sync_managers_of c.memory) (fmmus_of c.memory) (8 * address + i) p
          (8 * address) (8 * length payload) apart e)
    ] refl

-- the data are those of a read on arrival
pub read_after : (c : ControllerState) (address : ℕ) (payload : List ℕ)
    → are_apart (fmmus_of c.memory) ≡ true
    → length c.memory ≡ MEMORY_SIZE → AreBytes c.memory
    → with_bits payload (written_memory c address payload)
    (read_sources (mapped_state c address payload) address)
    ≡ with_bits payload c.memory (read_sources c address)
read_after c address payload apart size are =
    ap (λ (places : ℕ → Option ℕ). with_bits payload (written_memory c address payload) places)
    (sources_same c address payload size are)
    ∙ with_bits_same_bits payload (written_memory c address payload) c.memory (read_sources c address)
    (read_sources c address) (λ i _. read_bit c address payload i apart)

-- and it is served where that one is
pub serves_after : (c : ControllerState) (address : ℕ) (payload : List ℕ) → length c.memory ≡ MEMORY_SIZE
    → AreBytes c.memory
    → serves_read (mapped_state c address payload) address (length payload)
    ≡ serves_read c address (length payload)
serves_after c address payload size are =
    ap (λ (places : ℕ → Option ℕ). names places (8 * length payload))
    (sources_same c address payload size are)
