use Rattle.std.proofs.Common.{◌≡◌, ℕ, refl, None}
use Rattle.ec_esc.specs.State.{ControllerState}
use Rattle.ec_line.specs.Claims.{taken}
use Rattle.ec_wire.specs.declared.kind.Kind.TheVariants.{Lrd}
use Rattle.ec_line.proofs.promises.takes_by_pairs.Goals as goal
use Rattle.ec_line.proofs.Laws.{taken_lwr, taken_lrw, untaken_lwr, untaken_lrw}

taken_lrd : (a n : ℕ) (k : ControllerState) (p : ℕ)
    → taken (record { kind = Lrd; address = a; count = n }) k p ≡ None
unfolding taken
taken_lrd a n k p = refl

pub returns : goal.returns
returns c = record {
  lwr = λ a n k p i fit inside pair. taken_lwr a n k p i fit inside pair;
  lrw = λ a n k p i fit inside pair. taken_lrw a n k p i fit inside pair;
  not_lwr = λ a n k p none. untaken_lwr a n k p none;
  not_lrw = λ a n k p none. untaken_lrw a n k p none;
  lrd = λ a n k p. taken_lrd a n k p;
}
