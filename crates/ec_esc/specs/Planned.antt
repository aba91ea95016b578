-- A controller keeps the records of its memory decoded (IEC 61158-4-12, register layout), and its AL status
-- names a state (IEC 61158-6-12, AL status).
use Rattle.std.specs.Prelude.{◌≡◌, ℕ, Bool, true, List, length}
use Rattle.ec_regs.specs.declared.fmmu.Fmmu.{Fmmu}
use Rattle.ec_regs.specs.declared.registers.TheConstants.{MEMORY_SIZE}
use Rattle.ec_regs.specs.declared.sync_man.SyncMan.{SyncMan}
use Rattle.ec_areas.specs.declared.extent.Extent.{Extent}
use Rattle.ec_areas.specs.Extent.{extent_of}
use Rattle.ec_areas.specs.Records.{fmmus_of, sync_managers_of}
use Rattle.ec_esc.specs.State.{NamesState}

-- these FMMUs and sync managers are those whose records stand in the memory, where the FMMUs were surveyed it
-- is kept what they reach all together, and AL status names a state
pub record IsPlanned
    (memory : List ℕ) (fmmus : List Fmmu) (extent : Extent) (is_surveyed : Bool) (managers : List SyncMan)
    : Type 0 where
  pub size : length memory ≡ MEMORY_SIZE
  pub fmmus_are : fmmus ≡ fmmus_of memory
  pub extent_is : is_surveyed ≡ true → extent ≡ extent_of fmmus
  pub managers_are : managers ≡ sync_managers_of memory
  pub status : NamesState memory
