use Rattle.std.proofs.Common.{◌≡◌, ◌+◌, ◌*◌, ◌++◌, drop, take}
use Rattle.ecat_list.specs.Digits.{hex}
use Rattle.ecat_list.proofs.row.Row.lead_hex.Given as goal

abbrev pub invariant-loop-k : goal.invariant-loop-k
invariant-loop-k l = (l.self.from ≡ l.fn.self.from)
    × (drop l.from l.self.bytes
    ≡ hex (take (16 * l.k) l.bytes) ++ drop (l.from + 2 * (16 * l.k)) l.fn.self.bytes)
