use Rattle.std.proofs.Common.{◌≡◌, ◌*◌, ◌||◌, length, drop}
use Rattle.ec_regs.specs.Bits.{AreBytes, with_bits}
use Rattle.ec_areas.specs.Logical.{read_places, names}
use Rattle.ec_areas.proofs.logical.read_mapped.Given as goal

-- reading through the FMMUs that are left gives what reading through all gives
abbrev pub invariant-loop-fmmu : goal.invariant-loop-fmmu
invariant-loop-fmmu l = record {
  bytes : AreBytes l.into;
  bits : with_bits l.into l.memory (read_places l.managers (drop l.fmmu-index l.fmmus) (8 * l.address))
      ≡ with_bits l.initial.into l.memory (read_places l.managers l.fmmus (8 * l.address));
  served : (l.served || names (read_places l.managers (drop l.fmmu-index l.fmmus) (8 * l.address))
      (8 * length l.initial.into)) ≡ names (read_places l.managers l.fmmus (8 * l.address))
      (8 * length l.initial.into);
}
