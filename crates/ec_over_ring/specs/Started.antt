-- What stands in the slaves of a line that was started over a ring (IEC 61158-4-12, sync manager and FMMU
-- entities; IEC 61158-6-12, AL management).
use Rattle.std.specs.Prelude.{◌≡◌, ◌≢◌, ◌<◌, ℕ, ◌+◌, ◌*◌, false, Option, None, Some, List, [], ◌∷◌, length}
use Rattle.std.specs.Prelude.{slice_get, slice_index, take}
use Rattle.std.specs.List.{AllByRecursion}
use Rattle.ec_regs.specs.Fmmu.{fmmu_bytes}
use Rattle.ec_regs.specs.SyncMan.{sync_man_bytes}
use Rattle.ec_regs.specs.declared.al.AlState.TheVariants as state
use Rattle.ec_regs.specs.declared.fmmu.Fmmu.{Fmmu}
use Rattle.ec_regs.specs.declared.registers.TheConstants.{FMMU_BASE, FMMU_SIZE, SYNC_MANAGER_ACTIVATE}
use Rattle.ec_regs.specs.declared.registers.TheConstants.{SYNC_MANAGER_BASE, SYNC_MANAGER_SIZE}
use Rattle.ec_regs.specs.declared.registers.TheConstants.{SYNC_MANAGER_STATUS}
use Rattle.ec_regs.specs.declared.sync_man.SyncMan.{SyncMan}
use Rattle.ec_esc.specs.Application.{al_status}
use Rattle.ec_app.specs.State.{SlaveState}
use Rattle.ec_ring.specs.Ring.{RingState}
use Rattle.ec_run.specs.Phase.{steps_of}
use Rattle.ec_run.specs.Step.{fmmu_number, manager_number}
use Rattle.ec_run.specs.declared.phase.Phase.TheVariants.{SafeOp}
use Rattle.ec_run.specs.declared.step.Step.{Step}
use Rattle.ec_run.specs.declared.step.Step.TheVariants.{SyncManager, Fmmu as FmmuRecord}
use Rattle.ec_run.specs.declared.wanted.Wanted.{Wanted}
use Rattle.ec_over_ring.specs.States.{HasStation}

-- ---- what is wanted

-- a station address of 16 bits, and FMMUs of sixteen bytes
pub record IsWanted (wanted : Wanted) : Type 0 where
  pub station : wanted.station < 65536
  pub fmmus : AllByRecursion (λ (f : Fmmu). length (fmmu_bytes f) ≡ FMMU_SIZE) wanted.fmmus

-- each slave of a line with a station address of its own
abbrev pub AreWanted : List Wanted → Type 0
AreWanted [] = Unit {0}
AreWanted (wanted ∷ rest) =
    IsWanted wanted × AllByRecursion (λ (other : Wanted). other.station ≢ wanted.station) rest
    × AreWanted rest

-- ---- what stands

-- the registers from an address on hold these bytes
abbrev pub Holds : List ℕ → ℕ → List ℕ → Type 0
Holds memory from bytes =
    (k : ℕ) → k < length bytes → slice_index memory (from + k) ≡ slice_index bytes k

-- those of a sync manager hold the start, length and control of a record, and its switch; the bytes between
-- and behind them are the slave's
abbrev pub HoldsManager : List ℕ → ℕ → Option SyncMan → Type 0
HoldsManager memory n None = ⊥
HoldsManager memory n (Some s) =
    let at = SYNC_MANAGER_BASE + SYNC_MANAGER_SIZE * n in
    Holds memory at (take SYNC_MANAGER_STATUS (sync_man_bytes s))
    × Holds memory (at + SYNC_MANAGER_ACTIVATE)
    (slice_index (sync_man_bytes s) SYNC_MANAGER_ACTIVATE ∷ [])

-- those of an FMMU hold a record
abbrev pub HoldsFmmu : List ℕ → ℕ → Option Fmmu → Type 0
HoldsFmmu memory n None = ⊥
HoldsFmmu memory n (Some f) = Holds memory (FMMU_BASE + FMMU_SIZE * n) (fmmu_bytes f)

-- the record that a step sets stands, if it sets one
abbrev pub HoldsSet : Wanted → List ℕ → Step → Type 0
HoldsSet wanted memory (SyncManager n) =
    HoldsManager memory (manager_number n) (slice_get wanted.managers (manager_number n))
HoldsSet wanted memory (FmmuRecord n) =
    HoldsFmmu memory (fmmu_number n) (slice_get wanted.fmmus (fmmu_number n))
HoldsSet wanted memory _ = Unit {0}

-- a slave of a ring alone has its station address and is in Op without an error, and its sync managers from
-- number 2 on and its FMMUs stand as they are wanted
pub record IsSetUp (r : RingState) (wanted : Wanted) : Type 0 where
  pub before : List SlaveState
  pub slave : SlaveState
  pub behind : List SlaveState
  pub has : HasStation wanted.station r before slave behind
  pub status : al_status slave.controller ≡ record { state = state.Op; error = false }
  pub unasked : slave.controller.written ≡ false
  pub records : AllByRecursion (HoldsSet wanted slave.controller.memory) (steps_of SafeOp)
