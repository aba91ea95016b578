-- The first k items are placed.
use Rattle.std.proofs.Common.{take}
use Rattle.std.specs.List.{AllByRecursion}
use Rattle.ec_check.specs.Line.{controllers_by}
use Rattle.ec_map.specs.Place.{IsPlaced}
use Rattle.ecat_text.proofs.refusal.misplaced_in.Given as goal

abbrev pub invariant-loop-k : goal.invariant-loop-k
invariant-loop-k g l =
    AllByRecursion (IsPlaced (controllers_by g.S.Mapped.controller l.line)) (take l.k l.items)
