-- How answers for longer beginnings make one for a shorter one.
use Rattle.std.proofs.Common.{⊎_elim, ℕ, ◌<◌, List, [], ◌∷◌, ◌++◌}
use Rattle.ec_esc.specs.State.{ControllerState}
use Rattle.ec_check.specs.declared.fault.MapFault.{MapFault}
use Rattle.ec_check.specs.Order.{BeginsWith}
use Rattle.ec_check.specs.Fit.{Breaks, numbers}
use Rattle.ec_check.specs.Search.{HasNone, HasNoneBelow, IsFirstOf}
use Rattle.ec_check.proofs.OrderLemmas.{BeginsWith-shorter, BeginsWith-itself, IsBefore-begins}
use Rattle.ec_check.proofs.OrderLemmas.{IsBefore-cases}

-- the first fault that goes on with n is the first of all if there is none that goes on with less
pub IsFirstOf-shorter : (beginning : List ℕ) (line : List ControllerState) (n : ℕ) (fault : MapFault)
    → HasNoneBelow beginning line n → IsFirstOf (beginning ++ n ∷ []) line fault
    → IsFirstOf beginning line fault
IsFirstOf-shorter beginning line n fault below found = record {
  broken = found.broken;
  begins = BeginsWith-shorter beginning (n ∷ []) (numbers fault) found.begins;
  first = λ other broken begins before.
      ⊎_elim
      (λ (less : (m : ℕ) × (m < n) × BeginsWith (beginning ++ m ∷ []) (numbers other)).
      (below less.0 less.1).none other broken less.2)
      (λ (same : BeginsWith (beginning ++ n ∷ []) (numbers other)). found.first other broken same before)
      (IsBefore-cases beginning (numbers other) (numbers fault) n begins found.begins before);
}

-- a fault is the first of those with its numbers
pub IsFirstOf-itself : (line : List ControllerState) (fault : MapFault) → Breaks line fault
    → IsFirstOf (numbers fault) line fault
IsFirstOf-itself line fault broken = record {
  broken = broken;
  begins = BeginsWith-itself (numbers fault);
  first = λ other _ begins before. IsBefore-begins (numbers fault) (numbers other) begins before;
}

-- the line has no fault that begins so if each goes on with a number for which there is none
abbrev pub GoesOnBelow : List ℕ → List ControllerState → ℕ → Type 0
GoesOnBelow beginning line bound =
    (fault : MapFault) → Breaks line fault → BeginsWith beginning (numbers fault)
    → (n : ℕ) × (n < bound) × BeginsWith (beginning ++ n ∷ []) (numbers fault)

pub HasNone-all : (beginning : List ℕ) (line : List ControllerState) (bound : ℕ)
    → HasNoneBelow beginning line bound → GoesOnBelow beginning line bound → HasNone beginning line
HasNone-all beginning line bound below goes_on = record {
  none = λ fault broken begins.
      let next : (n : ℕ) × (n < bound) × BeginsWith (beginning ++ n ∷ []) (numbers fault) =
      goes_on fault broken begins in
      (below next.0 next.1).none fault broken next.2;
}
