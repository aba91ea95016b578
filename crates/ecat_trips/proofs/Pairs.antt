-- Two lists that are compared pair by pair, one pair further.
use Rattle.std.proofs.Common.{◌≡◌, ℕ, suc, ◌+◌, ◌<◌, ◌≤◌, ◌&&◌, Bool, true, false, List, [], ◌∷◌, length}
use Rattle.std.proofs.Common.{get_or}
use Rattle.std.proofs.Common.{drop, refl, ap, ◌∙◌}
use Rattle.std.specs.Cmp.Lexicographic.{pointwise}
use Rattle.std.specs.List.{list_any}
use Rattle.std.proofs.lemmas.List.{drop_more, drop_all}

-- from place k on: the pair there, and those behind it
pub pointwise-drop : {X : Type 0} (f : X → X → Bool) (xs ys : List X) (k : ℕ) (d : X) → k < length xs
    → k < length ys
    → pointwise f (drop k xs) (drop k ys) ≡ (f (get_or xs k d) (get_or ys k d)
    && pointwise f (drop (k + 1) xs) (drop (k + 1) ys))
pointwise-drop f xs ys k d in_xs in_ys =
    ap (λ zs. pointwise f zs (drop k ys)) (drop_more xs k d in_xs)
    ∙ ap (λ zs. pointwise f (get_or xs k d ∷ drop (k + 1) xs) zs) (drop_more ys k d in_ys)

-- a pair that fails, and one that passes
pub pointwise-fails : {X : Type 0} (f : X → X → Bool) (xs ys : List X) (k : ℕ) (d : X) → k < length xs
    → k < length ys → f (get_or xs k d) (get_or ys k d) ≡ false
    → pointwise f (drop k xs) (drop k ys) ≡ false
pointwise-fails f xs ys k d in_xs in_ys e =
    pointwise-drop f xs ys k d in_xs in_ys
    ∙ ap (λ b. b && pointwise f (drop (k + 1) xs) (drop (k + 1) ys)) e

pub pointwise-passes : {X : Type 0} (f : X → X → Bool) (xs ys : List X) (k : ℕ) (d : X) → k < length xs
    → k < length ys → f (get_or xs k d) (get_or ys k d) ≡ true
    → pointwise f (drop k xs) (drop k ys) ≡ pointwise f (drop (k + 1) xs) (drop (k + 1) ys)
pointwise-passes f xs ys k d in_xs in_ys e =
    pointwise-drop f xs ys k d in_xs in_ys
    ∙ ap (λ b. b && pointwise f (drop (k + 1) xs) (drop (k + 1) ys)) e

-- past the end of both there is none
pub pointwise-end : {X : Type 0} (f : X → X → Bool) (xs ys : List X) (k : ℕ) → length xs ≤ k → length ys ≤ k
    → pointwise f (drop k xs) (drop k ys) ≡ true
pointwise-end f xs ys k past_xs past_ys =
    ap (λ zs. pointwise f zs (drop k ys)) (drop_all k xs past_xs)
    ∙ ap (λ zs. pointwise f [] zs) (drop_all k ys past_ys)

-- lists that are not as long fail
pub pointwise-long : {X : Type 0} (f : X → X → Bool) (xs ys : List X)
    → (length xs ≡ length ys → ⊥) → pointwise f xs ys ≡ false
pointwise-long f [] [] h = absurd (h refl)
pointwise-long f [] (y ∷ ys) h = refl
pointwise-long f (x ∷ xs) [] h = refl
pointwise-long f (x ∷ xs) (y ∷ ys) h =
    elim (f x y) as (λ b. (b && pointwise f xs ys) ≡ false)
    [ true ↦ pointwise-long f xs ys (λ e. h (ap suc e)) | false ↦ refl ]

-- from place k on: the item there, and those behind it
pub list_any-drop : {X : Type 0} (f : X → Bool) (xs : List X) (k : ℕ) (d : X) → k < length xs
    → list_any f (drop k xs) ≡ list_any f (get_or xs k d ∷ drop (k + 1) xs)
list_any-drop f xs k d in_xs = ap (list_any f) (drop_more xs k d in_xs)
