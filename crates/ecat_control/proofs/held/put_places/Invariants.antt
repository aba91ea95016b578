-- What the places that are left make of the outputs now is what all of them make of those at first.
use Rattle.std.proofs.Common.{◌≡◌, drop, length}
use Rattle.ecat_control.specs.Changes.{changed}
use Rattle.ecat_control.proofs.held.put_places.Given as goal

abbrev pub invariant-loop-place : goal.invariant-loop-place
invariant-loop-place l = record {
  goes_on : changed l.spans l.bytes (drop l.place-index l.places) l.outputs
      ≡ changed l.spans l.bytes l.places l.initial.outputs;
  size : length l.outputs ≡ length l.initial.outputs;
}
