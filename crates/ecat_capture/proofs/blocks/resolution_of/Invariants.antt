-- What is left of the options tells what all of them tell.
use Rattle.std.proofs.Common.{◌≡◌, ◌-◌}
use Rattle.ecat_capture.specs.Blocks.{resolution_of, resolution_within}
use Rattle.ecat_capture.proofs.blocks.resolution_of.Given as goal

abbrev pub invariant-loop : goal.invariant-loop
invariant-loop l =
    resolution_of l.order l.options ≡ resolution_within (l.end - l.counter) l.order l.rest
