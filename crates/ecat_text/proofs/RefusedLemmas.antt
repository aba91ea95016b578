-- The items of a list that stand first, one by one.
use Rattle.std.proofs.Common.{◌≡◌, ◌<◌, ◌+◌, ◌++◌, ℕ, zero, suc, suc-add, ap, arith, List, [], ◌∷◌, length}
use Rattle.std.proofs.Common.{take, get_or}
use Rattle.ec_map.specs.Item.{ItemRecord}

-- the first of them, and the one behind
pub take-one_more : (k : ℕ) (rs : List ItemRecord) (e : ItemRecord) → k < length rs → e ≡ get_or rs k e
    → take k rs ++ e ∷ [] ≡ take (k + 1) rs
take-one_more k [] e inside is = absurd (omega (arith, inside))
take-one_more zero (r ∷ rs) e inside is = ap (λ (x : ItemRecord). x ∷ []) is
take-one_more (suc k) (r ∷ rs) e inside is =
    rw (suc-add k 1) (ap (λ (xs : List ItemRecord). r ∷ xs) (take-one_more k rs e (omega (arith, inside)) is))
