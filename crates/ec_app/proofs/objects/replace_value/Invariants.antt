use Rattle.std.proofs.Common.{◌≡◌, ◌++◌, map, take, drop}
use Rattle.ec_app.specs.Objects.{with_value}
use Rattle.ec_app.proofs.objects.replace_value.Given as goal

abbrev pub invariant-loop-entry : goal.invariant-loop-entry
invariant-loop-entry l =
    l.entries ≡ map (with_value l.index l.sub l.value) (take l.entry-index l.fn.entries)
    ++ drop l.entry-index l.fn.entries
