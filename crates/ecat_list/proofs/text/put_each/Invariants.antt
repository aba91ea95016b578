use Rattle.std.proofs.Common.{◌≡◌, ◌++◌, take}
use Rattle.ecat_list.proofs.text.put_each.Given as goal

abbrev pub invariant-loop-byte : goal.invariant-loop-byte
invariant-loop-byte l = l.text.items ≡ l.fn.text.items ++ take l.byte-index l.bytes
