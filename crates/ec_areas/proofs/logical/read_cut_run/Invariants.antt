use Rattle.std.proofs.Common.{◌≡◌, ◌*◌, ◌-◌, ◌≤◌, length}
use Rattle.ec_regs.specs.Bits.{with_bits}
use Rattle.ec_areas.specs.Areas.{is_readable}
use Rattle.ec_areas.specs.Logical.{names}
use Rattle.ec_areas.proofs.ReachLemmas.{kept}
use Rattle.ec_areas.proofs.logical.read_cut_run.Given as goal

-- the first bits of the run are done, and it is known whether one of them may be read
abbrev pub invariant-loop-done : goal.invariant-loop-done
invariant-loop-done l = record {
  within : l.done ≤ l.run.count;
  bits : l.into ≡ with_bits l.initial.into l.memory (kept
      (is_readable l.managers) l.run.at l.run.physical l.done);
  served : l.served ≡ names (kept (is_readable l.managers) l.run.at l.run.physical l.done)
      (8 * length l.initial.into);
}

abbrev pub decreases-loop-done : goal.decreases-loop-done
decreases-loop-done l = l.run.count - l.done
