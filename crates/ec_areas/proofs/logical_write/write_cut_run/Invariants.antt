use Rattle.std.proofs.Common.{◌≡◌, ◌*◌, ◌-◌, ◌≤◌, length}
use Rattle.ec_regs.specs.Bits.{with_bits}
use Rattle.ec_areas.specs.Areas.{is_writable}
use Rattle.ec_areas.specs.Logical.{names}
use Rattle.ec_areas.proofs.ReachLemmas.{kept, laid}
use Rattle.ec_areas.proofs.logical_write.write_cut_run.Given as goal

-- the first bits of the run are done, and it is known whether one of them may be written
abbrev pub invariant-loop-done : goal.invariant-loop-done
invariant-loop-done l = record {
  within : l.done ≤ l.run.count;
  bits : l.memory ≡ with_bits l.initial.memory l.payload (laid
      (is_writable l.managers) l.run.physical l.run.at l.done);
  served : l.served ≡ names (kept (is_writable l.managers) l.run.at l.run.physical l.done)
      (8 * length l.payload);
}

abbrev pub decreases-loop-done : goal.decreases-loop-done
decreases-loop-done l = l.run.count - l.done
