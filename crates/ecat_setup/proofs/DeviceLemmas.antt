-- Lists of which some are kept, and slaves of which one is changed.
use Rattle.std.proofs.Common.{◌≡◌, ◌<◌, ℕ, ◌+◌, ◌++◌, Bool, true, false, cond, List, [], ◌∷◌}
use Rattle.std.proofs.Common.{Some, length, map, ap, get_or, refl, sym, ◌∙◌, arith}
use Rattle.std.proofs.lemmas.List.{map-append, map-set}
use Rattle.std.proofs.lemmas.Option.{slice_get-get_or, slice_get-map}
use Rattle.std.proofs.lemmas.List.FromFn.{map-range_with_len_more}
use Rattle.std.specs.List.{range_with_len}
use Rattle.std.specs.Option.{option_map}
use Rattle.std.specs.Prelude.{filter, slice_get, slice_set}
use Rattle.ecat_scene.specs.Scene.{SlaveRecord, slave_record}
use Rattle.ecat_scene.specs.declared.scene.SceneSlave.{SceneSlave}
use Rattle.ecat_setup.specs.Devices.{placed}

-- those that are kept as they are seen are those that are seen and kept
pub map-filter : {X Y : Type 0} (f : X → Y) (test : Y → Bool) (xs : List X)
    → map f (filter (λ x. test (f x)) xs) ≡ filter test (map f xs)
map-filter f test [] = refl
map-filter f test (x ∷ xs) =
    elim (test (f x)) as (λ b. map f (cond b (x ∷ filter (λ y. test (f y)) xs) (filter (λ y. test (f y)) xs))
    ≡ cond b (f x ∷ filter test (map f xs)) (filter test (map f xs)))
    [ true ↦ ap (λ ys. f x ∷ ys) (map-filter f test xs) | false ↦ map-filter f test xs ]

-- where the slave at a place is changed, the records are those with its own changed
pub placed-at : (change : SlaveRecord → SlaveRecord) (xs : List SceneSlave) (k : ℕ) (d y : SceneSlave)
    → k < length xs → slave_record y ≡ change (slave_record (get_or xs k d))
    → map slave_record (slice_set xs k y)
    ≡ placed change (map slave_record xs) k (slice_get (map slave_record xs) k)
placed-at change xs k d y inside changed =
    let all : List SlaveRecord = map slave_record xs in
    let found : slice_get all k ≡ Some (slave_record (get_or xs k d)) =
    slice_get-map slave_record xs k ∙ ap (option_map slave_record) (slice_get-get_or xs k d inside) in
    map-set slave_record xs k y ∙ ap (λ s. slice_set all k s) changed ∙ sym (ap (placed change all k) found)

-- one that is seen to be of the next number makes those of the numbers so far those of one number more
pub numbered_more : {X Y : Type 0} (see : X → Y) (f : ℕ → Y) (xs ys : List X) (k : ℕ) (x : X)
    → map see xs ≡ map f (range_with_len 0 k) → ys ≡ xs ++ x ∷ [] → see x ≡ f k
    → map see ys ≡ map f (range_with_len 0 (k + 1))
numbered_more see f xs ys k x before pushed one =
    ap (map see) pushed ∙ map-append see xs (x ∷ [])
    ∙ ap (λ zs. zs ++ see x ∷ []) before ∙ ap (λ y. map f (range_with_len 0 k) ++ y ∷ []) one
    ∙ sym (map-range_with_len_more f 0 k k (omega arith))

-- and so where they are seen as they are
pub numbered_next : {X : Type 0} (f : ℕ → X) (xs ys : List X) (k : ℕ) (x : X)
    → xs ≡ map f (range_with_len 0 k) → ys ≡ xs ++ x ∷ [] → x ≡ f k → ys ≡ map f (range_with_len 0 (k + 1))
numbered_next f xs ys k x before pushed one =
    pushed ∙ ap (λ zs. zs ++ x ∷ []) before ∙ ap (λ y. map f (range_with_len 0 k) ++ y ∷ []) one
    ∙ sym (map-range_with_len_more f 0 k k (omega arith))
