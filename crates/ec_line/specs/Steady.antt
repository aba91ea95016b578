-- The bytes of a controller that no accepted item changes: its registers and the areas of its inputs.
use Rattle.std.specs.Prelude.{◌≡◌, ℕ, Bool, true, ◌&&◌, ◌||◌, nat_lt, List, [], ◌∷◌, length, slice_index}
use Rattle.std.specs.List.{list_any}
use Rattle.ec_regs.specs.SyncMan.{is_buffered, master_reads}
use Rattle.ec_regs.specs.declared.sync_man.SyncMan.{SyncMan}
use Rattle.ec_regs.specs.declared.registers.TheConstants.{PROCESS_MEMORY}
use Rattle.ec_areas.specs.Areas.{guards}
use Rattle.ec_areas.specs.Records.{sync_managers_of}
use Rattle.ec_esc.specs.State.{ControllerState, IsController}

-- does the byte lie in an active buffered area that the master reads
abbrev pub is_input : List SyncMan → ℕ → Bool
is_input managers address = list_any (λ s. guards s address && is_buffered s && master_reads s) managers

-- is the byte a register, or in such an area
unfoldable pub is_steady : List SyncMan → ℕ → Bool
is_steady managers address = nat_lt address PROCESS_MEMORY || is_input managers address

-- two states of a controller whose steady bytes are the same
pub record SameSteady (before after : ControllerState) : Type 0 where
  pub size : length after.memory ≡ length before.memory
  pub bytes : (a : ℕ) → is_steady (sync_managers_of before.memory) a ≡ true
      → slice_index after.memory a ≡ slice_index before.memory a

-- the controllers of a line as they are now: each has the steady bytes that it had at first
abbrev pub IsLater : List ControllerState → List ControllerState → Type 0
IsLater [] [] = Unit {0}
IsLater (x ∷ xs) (y ∷ ys) = (SameSteady x y × IsController y) × IsLater xs ys
IsLater _ _ = ⊥
