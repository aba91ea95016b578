use Rattle.std.proofs.Common.{◌≡◌, ℕ, ◌*◌, Bool, true, false, cond, ltb, refl, Option, None}
use Rattle.ec_esc.specs.State.{ControllerState}
use Rattle.ec_line.specs.Claims.{claim}
use Rattle.ec_wire.specs.declared.kind.Kind.TheVariants.{Lwr}
use Rattle.ec_line.proofs.promises.claims_by_pairs.Goals as goal
use Rattle.ec_line.proofs.Laws.{claim_lrd, claim_lrw, unclaimed_lrd, unclaimed_lrw}

either_none : (b : Bool) → (o : Option ℕ) → cond b o o ≡ o
either_none true o = refl
either_none false o = refl

claim_lwr : (a n : ℕ) (k : ControllerState) (i : ℕ)
    → claim (record { kind = Lwr; address = a; count = n }) k i ≡ None
unfolding claim
claim_lwr a n k i = either_none (ltb i (8 * n)) None

pub returns : goal.returns
returns c = record {
  lrd = λ a n k i p fit inside pair. claim_lrd a n k i p fit inside pair;
  lrw = λ a n k i p fit inside pair. claim_lrw a n k i p fit inside pair;
  not_lrd = λ a n k i none. unclaimed_lrd a n k i none;
  not_lrw = λ a n k i none. unclaimed_lrw a n k i none;
  lwr = λ a n k i. claim_lwr a n k i;
}
