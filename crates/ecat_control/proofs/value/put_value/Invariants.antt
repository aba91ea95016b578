-- The bytes of the places before stay in front.
use Rattle.std.proofs.Common.{◌≤◌, length}
use Rattle.ecat_control.proofs.value.put_value.Given as goal

abbrev pub invariant-loop-byte : goal.invariant-loop-byte
invariant-loop-byte l = l.from ≤ length l.change.bytes.items
