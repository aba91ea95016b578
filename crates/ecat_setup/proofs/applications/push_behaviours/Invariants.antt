-- Those so far stand behind.
use Rattle.std.proofs.Common.{◌≡◌, ◌++◌, map, take}
use Rattle.ecat_setup.specs.Applications.{placed_at}
use Rattle.ecat_setup.proofs.applications.push_behaviours.Given as goal

abbrev pub invariant-loop-behaviour : goal.invariant-loop-behaviour
invariant-loop-behaviour l =
    l.all.items ≡ l.initial.all.items ++ map (placed_at l.place) (take l.behaviour-index l.behaviours)
