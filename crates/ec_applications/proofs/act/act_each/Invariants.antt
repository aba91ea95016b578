-- What those that are left make of the line now is what all make of it at first.
use Rattle.std.proofs.Common.{◌≡◌, drop}
use Rattle.ec_applications.specs.Acting.{acted}
use Rattle.ec_applications.proofs.act.act_each.Given as goal

abbrev pub invariant-loop-one : goal.invariant-loop-one
invariant-loop-one l = acted l.times (drop l.one-index l.all) l.ring ≡ acted l.times l.initial.all l.initial.ring
