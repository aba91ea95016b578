use Rattle.std.proofs.Common.{◌≡◌, ◌<◌, ℕ, Bool, Some, length}
use Rattle.std.specs.Fn.{FnReturnsAt}
use Rattle.std.specs.List.{slice_get}
use Rattle.ec_regs.specs.declared.registers.TheConstants.{SYNC_MANAGER_COUNT}
use Rattle.ec_regs.specs.declared.sync_man.SyncMan.{SyncMan}
use Rattle.ec_areas.proofs.showing.told_of_each.Given as goal

-- the areas before this one have their answers
abbrev pub invariant-loop-i : goal.invariant-loop-i
invariant-loop-i g l = record {
  size : length l.told ≡ SYNC_MANAGER_COUNT;
  said : (j : ℕ) (s : SyncMan) → j < l.i → slice_get l.areas j ≡ Some s
      → (b : Bool) × (slice_get l.told j ≡ Some b) × FnReturnsAt g.F.Fn l.test s b;
}
