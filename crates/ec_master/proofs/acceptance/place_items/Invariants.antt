-- The first k items are placed.
use Rattle.std.proofs.Common.{take}
use Rattle.std.specs.List.{AllByRecursion}
use Rattle.ec_check.specs.Line.{controllers}
use Rattle.ec_map.specs.Place.{IsPlaced}
use Rattle.ec_master.proofs.acceptance.place_items.Given as goal

abbrev pub invariant-loop-k : goal.invariant-loop-k
invariant-loop-k l = AllByRecursion (IsPlaced (controllers l.line)) (take l.k l.work)
