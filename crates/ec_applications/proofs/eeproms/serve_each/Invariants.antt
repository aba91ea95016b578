-- What those that are left make of line and contents now is what all make of them at first.
use Rattle.std.proofs.Common.{◌≡◌, ◌++◌, length, take, drop}
use Rattle.ec_applications.specs.Eeproms.{all_served, all_kept}
use Rattle.ec_applications.proofs.eeproms.serve_each.Given as goal

abbrev pub invariant-loop-k : goal.invariant-loop-k
invariant-loop-k l = record {
  size : length l.all ≡ length l.initial.all;
  ring : all_served (drop l.k l.all) l.ring ≡ all_served l.initial.all l.initial.ring;
  own : take l.k l.all ++ all_kept (drop l.k l.all) l.ring ≡ all_kept l.initial.all l.initial.ring;
}
