use Rattle.std.proofs.Common.{◌≡◌, drop}
use Rattle.ecat_scene.specs.Numbers.{after_digits}
use Rattle.ecat_scene.proofs.numbers.digits.Given as goal

-- what is left of the row makes of the value now what all of it makes of 0
abbrev pub invariant-loop-byte : goal.invariant-loop-byte
invariant-loop-byte l =
    after_digits l.base (drop l.byte-index l.row) l.value ≡ after_digits l.base l.row 0
