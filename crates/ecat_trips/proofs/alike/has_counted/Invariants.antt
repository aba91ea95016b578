use Rattle.std.proofs.Common.{◌≡◌, drop}
use Rattle.std.specs.List.{list_any}
use Rattle.ecat_trips.specs.Alike.{has_count}
use Rattle.ecat_trips.proofs.alike.has_counted.Given as goal

abbrev pub invariant-loop-k : goal.invariant-loop-k
invariant-loop-k l = list_any has_count l.frame ≡ list_any has_count (drop l.k l.frame)
