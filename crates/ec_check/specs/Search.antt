-- The checker looks for faults number by number: a part of it answers for all faults whose numbers begin with
-- given ones.
use Rattle.std.specs.Prelude.{ℕ, ◌<◌, Result, MatchResult, List, [], ◌∷◌, ◌++◌}
use Rattle.ec_esc.specs.State.{ControllerState}
use Rattle.ec_check.specs.declared.fault.MapFault.{MapFault}
use Rattle.ec_check.specs.Order.{IsBefore, BeginsWith}
use Rattle.ec_check.specs.Fit.{Breaks, numbers}

-- the line has no fault whose numbers begin so
pub record HasNone (beginning : List ℕ) (line : List ControllerState) : Type 0 where
  pub none : (fault : MapFault) → Breaks line fault → ¬ BeginsWith beginning (numbers fault)

-- nor with a number below this one after them
abbrev pub HasNoneBelow : List ℕ → List ControllerState → ℕ → Type 0
HasNoneBelow beginning line bound = (n : ℕ) → n < bound → HasNone (beginning ++ n ∷ []) line

-- the first of the faults whose numbers begin so
pub record IsFirstOf (beginning : List ℕ) (line : List ControllerState) (fault : MapFault) : Type 0 where
  pub broken : Breaks line fault
  pub begins : BeginsWith beginning (numbers fault)
  pub first : (other : MapFault) → Breaks line other → BeginsWith beginning (numbers other)
      → ¬ IsBefore (numbers other) (numbers fault)

-- what is answered for the faults whose numbers begin so: that there is none, or the first
abbrev pub Answers : {T : Type 0} → List ℕ → List ControllerState → Result T MapFault → Type 0
Answers beginning line result = MatchResult result (λ _. HasNone beginning line) (IsFirstOf beginning line)
