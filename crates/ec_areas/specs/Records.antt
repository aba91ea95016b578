-- The eight FMMU records and the eight sync manager records of a controller stand in its memory (IEC
-- 61158-4-12, register layout).
use Rattle.std.specs.Prelude.{◌≡◌, ℕ, ◌+◌, ◌*◌, ◌<◌, ◌≤◌, List, [], ◌∷◌, length, slice_index, take, drop}
use Rattle.ec_regs.specs.declared.fmmu.Fmmu.{Fmmu}
use Rattle.ec_regs.specs.declared.sync_man.SyncMan.{SyncMan}
use Rattle.ec_regs.specs.declared.registers.TheConstants.{FMMU_BASE, FMMU_SIZE, SYNC_MANAGER_BASE}
use Rattle.ec_regs.specs.declared.registers.TheConstants.{SYNC_MANAGER_SIZE, PROCESS_MEMORY}
use Rattle.ec_regs.specs.Fmmu.{fmmu_of}
use Rattle.ec_regs.specs.SyncMan.{sync_man_of}

-- the FMMU with a number, 0 to 7
unfoldable pub fmmu_at : List ℕ → ℕ → Fmmu
fmmu_at memory i = fmmu_of (take FMMU_SIZE (drop (FMMU_BASE + FMMU_SIZE * i) memory))

-- all FMMUs, by number
unfoldable pub fmmus_of : List ℕ → List Fmmu
fmmus_of memory =
    fmmu_at memory 0 ∷ fmmu_at memory 1 ∷ fmmu_at memory 2 ∷ fmmu_at memory 3
    ∷ fmmu_at memory 4 ∷ fmmu_at memory 5 ∷ fmmu_at memory 6 ∷ fmmu_at memory 7 ∷ []

-- the sync manager with a number, 0 to 7
unfoldable pub sync_manager_at : List ℕ → ℕ → SyncMan
sync_manager_at memory i =
    sync_man_of (take SYNC_MANAGER_SIZE (drop (SYNC_MANAGER_BASE + SYNC_MANAGER_SIZE * i) memory))

-- all sync managers, by number
unfoldable pub sync_managers_of : List ℕ → List SyncMan
sync_managers_of memory =
    sync_manager_at memory 0 ∷ sync_manager_at memory 1 ∷ sync_manager_at memory 2
    ∷ sync_manager_at memory 3 ∷ sync_manager_at memory 4 ∷ sync_manager_at memory 5
    ∷ sync_manager_at memory 6 ∷ sync_manager_at memory 7 ∷ []

-- two memories of one length whose registers are the same
pub record SameRegisters (before after : List ℕ) : Type 0 where
  pub size : length after ≡ length before
  pub room : PROCESS_MEMORY ≤ length before
  pub bytes : (a : ℕ) → a < PROCESS_MEMORY → slice_index after a ≡ slice_index before a
