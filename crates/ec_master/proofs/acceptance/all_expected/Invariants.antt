-- The first k places are done.
use Rattle.std.proofs.Common.{◌≡◌, ◌≤◌, map, take, length}
use Rattle.ec_check.specs.Line.{controllers}
use Rattle.ec_map.specs.Share.{expected_of}
use Rattle.ec_master.specs.declared.work.TheConstants.{MAX_ITEMS}
use Rattle.ec_master.proofs.acceptance.all_expected.Given as goal

abbrev pub invariant-loop-k : goal.invariant-loop-k
invariant-loop-k l = record {
  limit : length l.work ≤ MAX_ITEMS;
  places : length l.all ≡ MAX_ITEMS;
  done : take l.k l.all ≡ map (expected_of (controllers l.line)) (take l.k l.work);
}
