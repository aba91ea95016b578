-- How answers for longer beginnings make one for a shorter one.
use Rattle.std.proofs.Common.{⊎_elim, ℕ, ◌<◌, List, [], ◌∷◌, ◌++◌}
use Rattle.ec_check.specs.Order.{BeginsWith}
use Rattle.ec_map.specs.First.{HasNone, HasNoneBelow, IsFirstOf}
use Rattle.ec_check.proofs.Laws.{BeginsWith-shorter, BeginsWith-itself, IsBefore-begins, IsBefore-cases}

-- the first that goes on with n is the first of all if there is none that goes on with less
pub IsFirstOf-shorter : {F : Type 0} (numbers : F → List ℕ) (Is : F → Type 0) (beginning : List ℕ) (n : ℕ)
    (found : F) → HasNoneBelow numbers Is beginning n → IsFirstOf numbers Is (beginning ++ n ∷ []) found
    → IsFirstOf numbers Is beginning found
IsFirstOf-shorter {F} numbers Is beginning n found below first = record {
  is = first.is;
  begins = BeginsWith-shorter beginning (n ∷ []) (numbers found) first.begins;
  first = λ other is begins before.
      ⊎_elim
      (λ (less : (m : ℕ) × (m < n) × BeginsWith (beginning ++ m ∷ []) (numbers other)).
      (below less.0 less.1).none other is less.2)
      (λ (same : BeginsWith (beginning ++ n ∷ []) (numbers other)). first.first other is same before)
      (IsBefore-cases beginning (numbers other) (numbers found) n begins first.begins before);
}

-- one is the first of those with its numbers
pub IsFirstOf-itself : {F : Type 0} (numbers : F → List ℕ) (Is : F → Type 0) (found : F) → Is found
    → IsFirstOf numbers Is (numbers found) found
IsFirstOf-itself {F} numbers Is found is = record {
  is = is;
  begins = BeginsWith-itself (numbers found);
  first = λ other _ begins before. IsBefore-begins (numbers found) (numbers other) begins before;
}

-- there is none that begins so if each goes on with a number for which there is none
abbrev pub GoesOnBelow : {F : Type 0} → (F → List ℕ) → (F → Type 0) → List ℕ → ℕ → Type 0
GoesOnBelow numbers Is beginning bound =
    (found : _) → Is found → BeginsWith beginning (numbers found)
    → (n : ℕ) × (n < bound) × BeginsWith (beginning ++ n ∷ []) (numbers found)

pub HasNone-all : {F : Type 0} (numbers : F → List ℕ) (Is : F → Type 0) (beginning : List ℕ) (bound : ℕ)
    → HasNoneBelow numbers Is beginning bound → GoesOnBelow numbers Is beginning bound
    → HasNone numbers Is beginning
HasNone-all {F} numbers Is beginning bound below goes_on = record {
  none = λ found is begins.
      let next : (n : ℕ) × (n < bound) × BeginsWith (beginning ++ n ∷ []) (numbers found) =
      goes_on found is begins in
      (below next.0 next.1).none found is next.2;
}
