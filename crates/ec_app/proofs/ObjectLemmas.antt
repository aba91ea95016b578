-- A dictionary's entries stay distinct when one is added whose place is free, and when a value is replaced.
use Rattle.std.proofs.Common.{◌≡◌, ℕ, ◌+◌, ◌<◌, Bool, true, false, not, eqb, ◌||◌, cond, List, [], ◌∷◌, ◌++◌}
use Rattle.std.proofs.Common.{length, map, take, drop, get_or, set, sym, ◌∙◌, ap, refl, arith}
use Rattle.std.specs.List.{refill}
use Rattle.std.proofs.lemmas.Bool.{and_parts, and_from}
use Rattle.std.proofs.lemmas.Bool.Decides.{nat_tests}
use Rattle.std.proofs.lemmas.List.Folds.{list_any-append}
use Rattle.std.proofs.lemmas.List.{take_at, length_push, length-map, length-take-le, append_assoc, drop_more}
use Rattle.std.proofs.lemmas.List.{get_or_at, set_at, map_more}
use Rattle.ec_app.specs.Objects.{IsDictionary, is_at, stands_at, are_distinct, with_value}
use Rattle.ec_app.specs.declared.objects.Entry.{Entry}
use Rattle.ec_app.specs.declared.value.Value.{Value}

-- equality of numbers by test is symmetric
eqb_comm : (x y : ℕ) → eqb x y ≡ eqb y x
eqb_comm x y = grind (arith, nat_tests)

-- an entry is at another's place where the other is at its
is_at_comm : (a b : Entry) → is_at a.index a.sub b ≡ is_at b.index b.sub a
is_at_comm a b = rw (eqb_comm b.index a.index, eqb_comm b.sub a.sub) refl

-- a place that none of some entries has, and none of others, none of them all has
none_of_both : (x y : Bool) → not x ≡ true → y ≡ false → not (x || (y || false)) ≡ true
none_of_both true y h e = absurd (cc)
none_of_both false y h e = rw e refl

-- where neither of two holds, the first does not, nor the second
or_parts : (x y : Bool) → (x || y) ≡ false → (x ≡ false) × (y ≡ false)
or_parts true y h = absurd (cc)
or_parts false y h = (refl, h)

-- distinct entries and one at a free place are distinct
are_distinct_push : (es : List Entry) (e : Entry) → are_distinct es ≡ true
    → stands_at e.index e.sub es ≡ false
    → are_distinct (es ++ e ∷ []) ≡ true
are_distinct_push [] e distinct free = refl
are_distinct_push (x ∷ xs) e distinct free =
    let parts : (not (stands_at x.index x.sub xs) ≡ true) × (are_distinct xs ≡ true) =
    and_parts _ _ distinct in
    let others : (is_at e.index e.sub x ≡ false) × (stands_at e.index e.sub xs ≡ false) = or_parts _ _ free in
    let fresh : not (stands_at x.index x.sub (xs ++ e ∷ [])) ≡ true =
    ap not (list_any-append (is_at x.index x.sub) xs (e ∷ []))
    ∙ none_of_both (stands_at x.index x.sub xs) (is_at x.index x.sub e) parts.0 (is_at_comm x e ∙ others.0) in
    and_from _ _ fresh (are_distinct_push xs e parts.1 others.1)

-- a replaced value leaves the entry at its place
is_at-with_value : (i s index sub : ℕ) (value : Value) (e : Entry)
    → is_at i s (with_value index sub value e) ≡ is_at i s e
is_at-with_value i s index sub value e =
    elim (is_at index sub e) as (λ test. is_at i s (cond test (record e { value = value }) e) ≡ is_at i s e)
    [ true ↦ refl | false ↦ refl ]

-- so the same places are taken
stands_at-map-with_value : (i s index sub : ℕ) (value : Value) (es : List Entry)
    → stands_at i s (map (with_value index sub value) es) ≡ stands_at i s es
stands_at-map-with_value i s index sub value [] = refl
stands_at-map-with_value i s index sub value (e ∷ es) =
    rw (is_at-with_value i s index sub value e, stands_at-map-with_value i s index sub value es) refl

-- a replaced value leaves an entry's place
place-with_value : (index sub : ℕ) (value : Value) (e : Entry)
    → ((with_value index sub value e).index ≡ e.index) × ((with_value index sub value e).sub ≡ e.sub)
place-with_value index sub value e =
    elim (is_at index sub e) as
    (λ test. ((cond test (record e { value = value }) e).index ≡ e.index)
    × ((cond test (record e { value = value }) e).sub ≡ e.sub))
    [ true ↦ (refl, refl) | false ↦ (refl, refl) ]

-- and the entries as distinct as before
are_distinct-map-with_value : (index sub : ℕ) (value : Value) (es : List Entry)
    → are_distinct (map (with_value index sub value) es) ≡ are_distinct es
are_distinct-map-with_value index sub value [] = refl
are_distinct-map-with_value index sub value (e ∷ es) =
    let place = place-with_value index sub value e in
    rw (
      place.0,
      place.1,
      stands_at-map-with_value e.index e.sub index sub value es,
      are_distinct-map-with_value index sub value es,
    ) refl

-- a dictionary that is not full, and an entry at a free place, are a dictionary
pub IsDictionary-push : (es : List Entry) (e : Entry) → IsDictionary es → eqb (length es) 32 ≡ false
    → stands_at e.index e.sub es ≡ false → IsDictionary (es ++ e ∷ [])
IsDictionary-push es e is not_full free =
    let room = is.room in
    let below : length es < 32 = grind (arith, nat_tests) in
    record { room = omega (arith, length_push es e); distinct = are_distinct_push es e is.distinct free }

-- and so is one with a value replaced
pub IsDictionary-map-with_value : (index sub : ℕ) (value : Value) (es : List Entry) → IsDictionary es
    → IsDictionary (map (with_value index sub value) es)
IsDictionary-map-with_value index sub value es is =
    record {
      room = rw (length-map es (with_value index sub value)) is.room;
      distinct = are_distinct-map-with_value index sub value es ∙ is.distinct;
    }

-- one element more of a list whose first elements are mapped: its own image is written at its place
pub set_mapped : (f : Entry → Entry) (es ms : List Entry) (i : ℕ) (d : Entry) → i < length es
    → ms ≡ map f (take i es) ++ drop i es
    → set ms i (f (get_or ms i d)) ≡ map f (take (i + 1) es) ++ drop (i + 1) es
set_mapped f es ms i d inside so_far =
    let e : Entry = get_or es i d in
    let front : length (map f (take i es)) ≡ i =
    length-map (take i es) f ∙ length-take-le i es (omega arith) in
    let split : ms ≡ map f (take i es) ++ e ∷ drop (i + 1) es =
    so_far ∙ ap (λ xs. map f (take i es) ++ xs) (drop_more es i d inside) in
    let here : get_or ms i d ≡ e =
    ap (λ xs. get_or xs i d) split ∙ get_or_at (map f (take i es)) e (drop (i + 1) es) d i front in
    let written : set ms i (f e) ≡ map f (take i es) ++ f e ∷ drop (i + 1) es =
    ap (λ xs. set xs i (f e)) split ∙ set_at (map f (take i es)) e (drop (i + 1) es) (f e) i front in
    let one_more : map f (take (i + 1) es) ≡ map f (take i es) ++ f e ∷ [] = map_more f es i d inside in
    let joined : map f (take (i + 1) es) ++ drop (i + 1) es ≡ map f (take i es) ++ f e ∷ drop (i + 1) es =
    ap (λ xs. xs ++ drop (i + 1) es) one_more
    ∙ append_assoc (map f (take i es)) (f e ∷ []) (drop (i + 1) es) in
    ap (λ x. set ms i (f x)) here ∙ written ∙ sym joined

-- a list that is refilled by mapped elements of its own is the mapped list
pub refill-map : (f : Entry → Entry) (es : List Entry) → refill (length es) es (map f es) ≡ map f es
refill-map f es = take_at (map f es) (drop (length (map f es)) es) (length es) (length-map es f)
