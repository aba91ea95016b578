-- The numbers of lost frames, which stand beside them.
use Rattle.std.proofs.Common.{◌≡◌, ℕ, suc, ◌++◌, List, length}
use Rattle.std.proofs.Common.{map, take, drop, remove, sym, ap, ◌∙◌, arith}
use Rattle.std.specs.List.{take-map, drop-map}
use Rattle.std.proofs.lemmas.List.{append-nil, drop_all, map-append}

-- what is told of each, without one place
pub remove-map : {X Y : Type 0} (f : X → Y) (i : ℕ) (xs : List X) → remove (map f xs) i ≡ map f (remove xs i)
remove-map f i xs =
    (λ t. take-map f i xs t ++ drop-map f (suc i) xs t)
    ∙ sym (map-append f (take i xs) (drop (suc i) xs))

-- without the last of n
pub remove-last : {X : Type 0} (n : ℕ) (xs : List X) → length xs ≡ suc n → remove xs n ≡ take n xs
remove-last n xs e =
    ap (λ ys. take n xs ++ ys) (drop_all (suc n) xs (omega (arith, e))) ∙ append-nil (take n xs)
