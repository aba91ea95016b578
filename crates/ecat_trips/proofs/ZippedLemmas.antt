-- Lists of which the first items are changed.
use Rattle.std.proofs.Common.{◌≡◌, ℕ, zero, suc, ◌<◌, ◌≤◌, List, [], ◌∷◌, length, get_or, set, take, refl}
use Rattle.std.proofs.Common.{ap, arith}
use Rattle.ecat_trips.specs.Zipped.{zipped}

module _ {X : Type 0} (f : X → X → X → X) (d : X) where
  -- the items from place k on are those of before
  pub nth-zipped : (k : ℕ) (xs ys zs : List X) → get_or (zipped f (take k xs) ys zs) k d ≡ get_or ys k d
  nth-zipped zero xs ys zs = refl
  nth-zipped (suc k) [] ys zs = refl
  nth-zipped (suc k) (x ∷ xs) [] zs = refl
  nth-zipped (suc k) (x ∷ xs) (y ∷ ys) [] = refl
  nth-zipped (suc k) (x ∷ xs) (y ∷ ys) (z ∷ zs) = nth-zipped k xs ys zs

  -- with the item at k changed, one more is
  pub set-zipped : (k : ℕ) (xs ys zs : List X) → k < length xs → k < length ys → k < length zs
      → set (zipped f (take k xs) ys zs) k (f (get_or xs k d) (get_or ys k d) (get_or zs k d))
      ≡ zipped f (take (suc k) xs) ys zs
  set-zipped k [] ys zs in_xs in_ys in_zs = absurd (omega arith)
  set-zipped k (x ∷ xs) [] zs in_xs in_ys in_zs = absurd (omega arith)
  set-zipped k (x ∷ xs) (y ∷ ys) [] in_xs in_ys in_zs = absurd (omega arith)
  set-zipped zero (x ∷ xs) (y ∷ ys) (z ∷ zs) in_xs in_ys in_zs = refl
  set-zipped (suc k) (x ∷ xs) (y ∷ ys) (z ∷ zs) in_xs in_ys in_zs =
      ap (λ rest. f x y z ∷ rest) (set-zipped k xs ys zs (omega arith) (omega arith) (omega arith))

  -- past the end of the first list all are
  pub zipped-all : (k : ℕ) (xs ys zs : List X) → length xs ≤ k
      → zipped f (take k xs) ys zs ≡ zipped f xs ys zs
  zipped-all zero [] ys zs past = refl
  zipped-all zero (x ∷ xs) ys zs past = absurd (omega arith)
  zipped-all (suc k) [] ys zs past = refl
  zipped-all (suc k) (x ∷ xs) [] zs past = refl
  zipped-all (suc k) (x ∷ xs) (y ∷ ys) [] past = refl
  zipped-all (suc k) (x ∷ xs) (y ∷ ys) (z ∷ zs) past =
      ap (λ rest. f x y z ∷ rest) (zipped-all k xs ys zs (omega arith))

  -- past the end of the second
  pub zipped-all-second : (k : ℕ) (xs ys zs : List X) → length ys ≤ k
      → zipped f (take k xs) ys zs ≡ zipped f xs ys zs
  zipped-all-second zero [] ys zs past = refl
  zipped-all-second zero (x ∷ xs) [] zs past = refl
  zipped-all-second zero (x ∷ xs) (y ∷ ys) zs past = absurd (omega arith)
  zipped-all-second (suc k) [] ys zs past = refl
  zipped-all-second (suc k) (x ∷ xs) [] zs past = refl
  zipped-all-second (suc k) (x ∷ xs) (y ∷ ys) [] past = refl
  zipped-all-second (suc k) (x ∷ xs) (y ∷ ys) (z ∷ zs) past =
      ap (λ rest. f x y z ∷ rest) (zipped-all-second k xs ys zs (omega arith))

  -- past the end of the third
  pub zipped-all-third : (k : ℕ) (xs ys zs : List X) → length zs ≤ k
      → zipped f (take k xs) ys zs ≡ zipped f xs ys zs
  zipped-all-third zero [] ys zs past = refl
  zipped-all-third zero (x ∷ xs) [] zs past = refl
  zipped-all-third zero (x ∷ xs) (y ∷ ys) [] past = refl
  zipped-all-third zero (x ∷ xs) (y ∷ ys) (z ∷ zs) past = absurd (omega arith)
  zipped-all-third (suc k) [] ys zs past = refl
  zipped-all-third (suc k) (x ∷ xs) [] zs past = refl
  zipped-all-third (suc k) (x ∷ xs) (y ∷ ys) [] past = refl
  zipped-all-third (suc k) (x ∷ xs) (y ∷ ys) (z ∷ zs) past =
      ap (λ rest. f x y z ∷ rest) (zipped-all-third k xs ys zs (omega arith))

  -- as many as before
  pub length-zipped : (xs ys zs : List X) → length (zipped f xs ys zs) ≡ length ys
  length-zipped [] ys zs = refl
  length-zipped (x ∷ xs) [] zs = refl
  length-zipped (x ∷ xs) (y ∷ ys) [] = refl
  length-zipped (x ∷ xs) (y ∷ ys) (z ∷ zs) = ap suc (length-zipped xs ys zs)
