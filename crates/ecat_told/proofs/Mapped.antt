-- Lists whose elements are mapped one after the other.
use Rattle.std.proofs.Common.{◌≡◌, ℕ, ◌+◌, ◌<◌, List, [], ◌∷◌, ◌++◌, map, length, get_or, set, take, drop}
use Rattle.std.proofs.Common.{sym, ap, ◌∙◌, arith, append_assoc, length-take-le}
use Rattle.std.proofs.lemmas.List.{length-map, drop_more, get_or_at, set_at, map_more}

-- one element more of a list whose first elements are mapped: its own image is written at its place
pub set_mapped : {X : Type 0} (f : X → X) (es ms : List X) (i : ℕ) (d : X) → i < length es
    → ms ≡ map f (take i es) ++ drop i es
    → set ms i (f (get_or ms i d)) ≡ map f (take (i + 1) es) ++ drop (i + 1) es
set_mapped {X} f es ms i d inside so_far =
    let e : X = get_or es i d in
    let front : length (map f (take i es)) ≡ i =
    length-map (take i es) f ∙ length-take-le i es (omega arith) in
    let split : ms ≡ map f (take i es) ++ e ∷ drop (i + 1) es =
    so_far ∙ ap (λ xs. map f (take i es) ++ xs) (drop_more es i d inside) in
    let here : get_or ms i d ≡ e =
    ap (λ xs. get_or xs i d) split ∙ get_or_at (map f (take i es)) e (drop (i + 1) es) d i front in
    let written : set ms i (f e) ≡ map f (take i es) ++ f e ∷ drop (i + 1) es =
    ap (λ xs. set xs i (f e)) split ∙ set_at (map f (take i es)) e (drop (i + 1) es) (f e) i front in
    let one_more : map f (take (i + 1) es) ≡ map f (take i es) ++ f e ∷ [] = map_more f es i d inside in
    let joined : map f (take (i + 1) es) ++ drop (i + 1) es ≡ map f (take i es) ++ f e ∷ drop (i + 1) es =
    ap (λ xs. xs ++ drop (i + 1) es) one_more
    ∙ append_assoc (map f (take i es)) (f e ∷ []) (drop (i + 1) es) in
    ap (λ x. set ms i (f x)) here ∙ written ∙ sym joined
