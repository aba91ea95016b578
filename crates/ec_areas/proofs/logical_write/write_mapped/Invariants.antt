use Rattle.std.proofs.Common.{◌≡◌, ◌*◌, ◌||◌, length, drop}
use Rattle.ec_regs.specs.Bits.{AreBytes, with_bits}
use Rattle.ec_areas.specs.Logical.{write_map, target_places, names}
use Rattle.ec_areas.proofs.logical_write.write_mapped.Given as goal

-- writing through the FMMUs that are left gives what writing through all gives
abbrev pub invariant-loop-fmmu : goal.invariant-loop-fmmu
invariant-loop-fmmu l = record {
  bytes : AreBytes l.memory;
  bits : with_bits l.memory l.payload (write_map l.managers (drop l.fmmu-index l.fmmus) (8 * l.address)
      (8 * length l.payload)) ≡ with_bits l.initial.memory l.payload (write_map l.managers l.fmmus
      (8 * l.address) (8 * length l.payload));
  served : (l.served || names (target_places l.managers (drop l.fmmu-index l.fmmus) (8 * l.address))
      (8 * length l.payload)) ≡ names (target_places l.managers l.fmmus (8 * l.address))
      (8 * length l.payload);
}
