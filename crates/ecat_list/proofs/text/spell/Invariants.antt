use Rattle.std.proofs.Common.{◌≡◌, ◌*◌, length, take}
use Rattle.ecat_list.specs.Digits.{hex}
use Rattle.ecat_list.proofs.text.spell.Given as goal

abbrev pub invariant-loop-k : goal.invariant-loop-k
invariant-loop-k l = (length l.digits ≡ length l.fn.digits)
    × (take (2 * l.k) l.digits ≡ hex (take l.k l.bytes))
