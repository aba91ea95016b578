use Rattle.std.proofs.Common.{◌≡◌, ℕ, List, length}
use Rattle.ec_regs.specs.declared.registers.TheConstants.{FMMU_COUNT}
use Rattle.ec_areas.specs.Records.{fmmu_at, fmmus_of}
use Rattle.ec_esc.specs.Renewal.{ChangesWithin}
use Rattle.ec_esc.proofs.PlannedLemmas.{RenewedTo}
use Rattle.ec_esc.proofs.renewal.renew_fmmus.Given as goal

-- the FMMUs before this one are those of the memory
abbrev pub invariant-loop-number : goal.invariant-loop-number
invariant-loop-number l = record {
  size : length l.fmmus ≡ FMMU_COUNT;
  renewed : (before : List ℕ) → l.initial.fmmus ≡ fmmus_of before
      → ChangesWithin l.written.first l.written.count before l.memory
      → RenewedTo l.number l.initial.fmmus l.fmmus (fmmu_at l.memory);
}
