use Rattle.std.proofs.Common.{◌≡◌, ◌++◌, drop, take}
use Rattle.ecat_list.specs.Line.{lines_from}
use Rattle.ecat_list.proofs.line.put_lines.Given as goal

abbrev pub invariant-loop-k : goal.invariant-loop-k
invariant-loop-k l = l.text.items ≡ l.fn.text.items ++ lines_from l.style (drop l.first.from l.first.bytes) 0 (take l.k l.frame)
