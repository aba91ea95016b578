-- What a scan of a line finds is the first of its kind: that of the smallest numbers, from left to right, as
-- the mapping checker names faults.
use Rattle.std.specs.Prelude.{ℕ, ◌<◌, Option, MatchOption, List, [], ◌∷◌, ◌++◌}
use Rattle.ec_check.specs.Order.{IsBefore, BeginsWith}

-- it is of the kind, and none of the kind comes before it
pub record IsFirst {F : Type 0} (numbers : F → List ℕ) (Is : F → Type 0) (found : F) : Type 0 where
  pub is : Is found
  pub first : (other : F) → Is other → ¬ IsBefore (numbers other) (numbers found)

-- ---- a part of a scan, which is of all whose numbers begin with given ones

-- there is none whose numbers begin so
pub record HasNone {F : Type 0} (numbers : F → List ℕ) (Is : F → Type 0) (beginning : List ℕ) : Type 0 where
  pub none : (found : F) → Is found → ¬ BeginsWith beginning (numbers found)

-- nor with a number below this one after them
abbrev pub HasNoneBelow : {F : Type 0} → (F → List ℕ) → (F → Type 0) → List ℕ → ℕ → Type 0
HasNoneBelow numbers Is beginning bound =
    (n : ℕ) → n < bound → HasNone numbers Is (beginning ++ n ∷ [])

-- the first of those whose numbers begin so
pub record IsFirstOf
    {F : Type 0} (numbers : F → List ℕ) (Is : F → Type 0) (beginning : List ℕ) (found : F) : Type 0 where
  pub is : Is found
  pub begins : BeginsWith beginning (numbers found)
  pub first : (other : F) → Is other → BeginsWith beginning (numbers other)
      → ¬ IsBefore (numbers other) (numbers found)

-- what is answered for those whose numbers begin so: that there is none, or the first
abbrev pub Answers : {F : Type 0} → (F → List ℕ) → (F → Type 0) → List ℕ → Option F → Type 0
Answers numbers Is beginning result =
    MatchOption result (HasNone numbers Is beginning) (IsFirstOf numbers Is beginning)
