-- The texts that are left to pass lead from the place now to where all lead at first.
use Rattle.std.proofs.Common.{◌≡◌, ◌-◌, ◌*◌, ◌≤◌}
use Rattle.ec_sii.specs.Reading.{text_place}
use Rattle.ec_sii.proofs.categories.text_place.Given as goal

abbrev pub invariant-loop-passed : goal.invariant-loop-passed
invariant-loop-passed l = record {
  small : l.at ≤ 256 * l._passed;
  left : text_place l.bytes l.at (l.number - l._passed) ≡ text_place l.bytes 1 (l.number - 1);
}
