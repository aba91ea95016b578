use Rattle.std.proofs.Common.{◌≡◌, ◌*◌, ◌++◌, take}
use Rattle.ecat_list.specs.Digits.{hex}
use Rattle.ecat_list.proofs.text.put_hex.Given as goal

abbrev pub invariant-loop-k : goal.invariant-loop-k
invariant-loop-k l = l.text.items ≡ l.fn.text.items ++ hex (take (64 * l.k) l.bytes)
