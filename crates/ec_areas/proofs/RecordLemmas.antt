-- The records in a memory depend on the registers alone.
use Rattle.std.proofs.Common.{◌≡◌, ℕ, ◌+◌, ◌*◌, ◌<◌, ◌≤◌, List, length, take, drop, sym, ◌∙◌, ap}
use Rattle.std.proofs.Common.{refl, arith}
use Rattle.std.proofs.lemmas.List.{ext_get_or, length-take-le, length-drop}
use Rattle.ec_regs.specs.declared.registers.TheConstants.{FMMU_COUNT, SYNC_MANAGER_COUNT}
use Rattle.ec_regs.specs.Fmmu.{fmmu_of}
use Rattle.ec_regs.specs.SyncMan.{sync_man_of}
use Rattle.ec_regs.specs.declared.registers.TheConstants.{PROCESS_MEMORY}
use Rattle.ec_regs.proofs.Laws.{get_or-run}
use Rattle.ec_areas.specs.Records.{fmmu_at, fmmus_of, sync_manager_at, sync_managers_of, SameRegisters}

-- a run of registers is the same
run_same : (before after : List ℕ) (at n : ℕ) → SameRegisters before after → at + n ≤ PROCESS_MEMORY
    → take n (drop at after) ≡ take n (drop at before)
run_same before after at n same fits =
    let size_of : (m : List ℕ) → PROCESS_MEMORY ≤ length m → length (take n (drop at m)) ≡ n =
    λ m room. length-take-le n (drop at m) (omega (arith, length-drop at m)) in
    let size = same.size in
    let room = same.room in
    let after_size : length (take n (drop at after)) ≡ n = size_of after (omega arith) in
    ext_get_or 0 (take n (drop at after)) (take n (drop at before)) (after_size ∙ sym (size_of before room))
    (λ k inside.
    let below : k < n = omega arith in
    get_or-run after at n k below ∙ same.bytes (at + k) (omega arith) ∙ sym (get_or-run before at n k below))

-- so is each sync manager
pub sync_manager_same : (before after : List ℕ) (i : ℕ) → SameRegisters before after → i < SYNC_MANAGER_COUNT
    → sync_manager_at after i ≡ sync_manager_at before i
unfolding sync_manager_at
sync_manager_same before after i same below = ap sync_man_of (run_same before after (2048 + 8 * i) 8 same
    (omega arith))

-- each FMMU
pub fmmu_same : (before after : List ℕ) (i : ℕ) → SameRegisters before after → i < FMMU_COUNT → fmmu_at after i
    ≡ fmmu_at before i
unfolding fmmu_at
fmmu_same before after i same below = ap fmmu_of (run_same before after (1536 + 16 * i) 16 same (omega arith))

-- all sync managers
pub sync_managers_same : (before after : List ℕ) → SameRegisters before after → sync_managers_of after
    ≡ sync_managers_of before
unfolding sync_managers_of
sync_managers_same before after same =
    rw (
      sync_manager_same before after 0 same (omega arith),
      sync_manager_same before after 1 same (omega arith),
      sync_manager_same before after 2 same (omega arith),
      sync_manager_same before after 3 same (omega arith),
      sync_manager_same before after 4 same (omega arith),
      sync_manager_same before after 5 same (omega arith),
      sync_manager_same before after 6 same (omega arith),
      sync_manager_same before after 7 same (omega arith),
    ) refl

-- and all FMMUs
pub fmmus_same : (before after : List ℕ) → SameRegisters before after → fmmus_of after ≡ fmmus_of before
unfolding fmmus_of
fmmus_same before after same =
    rw (
      fmmu_same before after 0 same (omega arith),
      fmmu_same before after 1 same (omega arith),
      fmmu_same before after 2 same (omega arith),
      fmmu_same before after 3 same (omega arith),
      fmmu_same before after 4 same (omega arith),
      fmmu_same before after 5 same (omega arith),
      fmmu_same before after 6 same (omega arith),
      fmmu_same before after 7 same (omega arith),
    ) refl
