use Rattle.std.proofs.Common.{◌≡◌, ℕ, List, length}
use Rattle.ec_regs.specs.declared.registers.TheConstants.{SYNC_MANAGER_COUNT}
use Rattle.ec_areas.specs.Records.{sync_manager_at, sync_managers_of}
use Rattle.ec_esc.specs.Renewal.{ChangesWithin}
use Rattle.ec_esc.proofs.PlannedLemmas.{RenewedTo}
use Rattle.ec_esc.proofs.renewal.renew_managers.Given as goal

-- the sync managers before this one are those of the memory
abbrev pub invariant-loop-number : goal.invariant-loop-number
invariant-loop-number l = record {
  size : length l.managers ≡ SYNC_MANAGER_COUNT;
  renewed : (before : List ℕ) → l.initial.managers ≡ sync_managers_of before
      → ChangesWithin l.written.first l.written.count before l.memory
      → RenewedTo l.number l.initial.managers l.managers (sync_manager_at l.memory);
}
