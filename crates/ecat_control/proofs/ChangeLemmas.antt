-- What is left of the places of a change, and of items.
use Rattle.std.proofs.Common.{◌≡◌, ◌<◌, ◌≤◌, ◌+◌, ◌∙◌, ◌∷◌, ◌++◌, ℕ, suc, List, [], Result, Ok, Err, ap, sym, arith}
use Rattle.std.proofs.Common.{drop, drop-cons, take, get_or, length, length-append}
use Rattle.std.proofs.Math.Seq.{take-suc}
use Rattle.std.proofs.lemmas.List.{append_assoc, append-nil, drop_all}
use Rattle.ec_map.specs.Item.{ItemRecord}
use Rattle.ecat_control.specs.Changes.{bytes_of, changed, go_on, outputs_in, outputs_of, placed, put_placed}
use Rattle.ecat_control.specs.Changes.{span_of, spans_in}
use Rattle.ecat_control.specs.declared.change.Place.{Place}
use Rattle.ecat_control.specs.declared.held.Span.{Span}
use Rattle.ecat_control.specs.declared.refusal.Fault.{Fault}

-- what is left begins with the element at the place
left_is : {X : Type 0} (xs : List X) (k : ℕ) (d : X) → k < length xs
    → drop k xs ≡ get_or xs k d ∷ drop (k + 1) xs
left_is xs k d inside =
    drop-cons xs k d inside
    ∙ ap (λ (n : ℕ). get_or xs k d ∷ drop n xs) (let e : suc k ≡ k + 1 = omega arith in e)

-- the places that are left begin with one, and what they make of outputs is what is made behind it
left_changes : (spans : List Span) (bytes : List ℕ) (places : List Place) (k : ℕ) (d : Place)
    (outputs : List ℕ) (put : Result (List ℕ) Fault) → k < length places
    → put_placed (placed spans (get_or places k d)) (get_or places k d).run
    (bytes_of (get_or places k d) bytes) outputs ≡ put
    → changed spans bytes (drop k places) outputs
    ≡ go_on (λ later. changed spans bytes (drop (k + 1) places) later) put
unfolding changed
left_changes spans bytes places k d outputs put inside is =
    ap (λ (ps : List Place). changed spans bytes ps outputs) (left_is places k d inside)
    ∙ ap (λ (r : Result (List ℕ) Fault). go_on (λ later. changed spans bytes (drop (k + 1) places) later) r) is

pub place_put : (spans : List Span) (bytes : List ℕ) (places : List Place) (k : ℕ) (d : Place)
    (outputs later : List ℕ) → k < length places
    → put_placed (placed spans (get_or places k d)) (get_or places k d).run
    (bytes_of (get_or places k d) bytes) outputs ≡ Ok later
    → changed spans bytes (drop k places) outputs ≡ changed spans bytes (drop (k + 1) places) later
place_put spans bytes places k d outputs later inside is =
    left_changes spans bytes places k d outputs (Ok later) inside is

pub place_refused : (spans : List Span) (bytes : List ℕ) (places : List Place) (k : ℕ) (d : Place)
    (outputs : List ℕ) (fault : Fault) → k < length places
    → put_placed (placed spans (get_or places k d)) (get_or places k d).run
    (bytes_of (get_or places k d) bytes) outputs ≡ Err fault
    → changed spans bytes (drop k places) outputs ≡ Err fault
place_refused spans bytes places k d outputs fault inside is =
    left_changes spans bytes places k d outputs (Err fault) inside is

pub all_put : (spans : List Span) (bytes : List ℕ) (places : List Place) (k : ℕ) (outputs : List ℕ)
    → length places ≤ k → changed spans bytes (drop k places) outputs ≡ Ok outputs
unfolding changed
all_put spans bytes places k outputs past =
    ap (λ (ps : List Place). changed spans bytes ps outputs) (drop_all k places past)

-- ---- items, one behind the other

outputs_snoc : (rs : List ItemRecord) (r : ItemRecord) → outputs_in (rs ++ r ∷ []) ≡ outputs_in rs ++ outputs_of r
outputs_snoc [] r = append-nil (outputs_of r)
outputs_snoc (x ∷ rs) r =
    ap (λ (bytes : List ℕ). outputs_of x ++ bytes) (outputs_snoc rs r)
    ∙ sym (append_assoc (outputs_of x) (outputs_in rs) (outputs_of r))

spans_snoc : (at : ℕ) (rs : List ItemRecord) (r : ItemRecord)
    → spans_in at (rs ++ r ∷ []) ≡ spans_in at rs ++ span_of (at + length (outputs_in rs)) r ∷ []
unfolding spans_in
spans_snoc at [] r = ap (λ (n : ℕ). span_of n r ∷ []) (let e : at ≡ at + 0 = omega arith in e)
spans_snoc at (x ∷ rs) r =
    ap (λ (spans : List Span). span_of at x ∷ spans) (spans_snoc (at + length (outputs_of x)) rs r)
    ∙ ap (λ (n : ℕ). span_of at x ∷ (spans_in (at + length (outputs_of x)) rs ++ span_of n r ∷ []))
    (let whole : length (outputs_of x ++ outputs_in rs) ≡ length (outputs_of x) + length (outputs_in rs) =
    length-append (outputs_of x) (outputs_in rs) in
    let e : at + length (outputs_of x) + length (outputs_in rs) ≡ at + length (outputs_of x ++ outputs_in rs) =
    omega (arith, whole) in e)

-- one more of the first items
first_more : (rs : List ItemRecord) (k : ℕ) (d : ItemRecord) → k < length rs
    → take (k + 1) rs ≡ take k rs ++ get_or rs k d ∷ []
first_more rs k d inside =
    ap (λ (n : ℕ). take n rs) (let e : k + 1 ≡ suc k = omega arith in e) ∙ take-suc rs k d inside

pub outputs_more : (rs : List ItemRecord) (k : ℕ) (d : ItemRecord) → k < length rs
    → outputs_in (take (k + 1) rs) ≡ outputs_in (take k rs) ++ outputs_of (get_or rs k d)
outputs_more rs k d inside =
    ap (λ (xs : List ItemRecord). outputs_in xs) (first_more rs k d inside)
    ∙ outputs_snoc (take k rs) (get_or rs k d)

pub spans_more : (rs : List ItemRecord) (k : ℕ) (d : ItemRecord) → k < length rs
    → spans_in 0 (take (k + 1) rs)
    ≡ spans_in 0 (take k rs) ++ span_of (length (outputs_in (take k rs))) (get_or rs k d) ∷ []
spans_more rs k d inside =
    ap (λ (xs : List ItemRecord). spans_in 0 xs) (first_more rs k d inside)
    ∙ spans_snoc 0 (take k rs) (get_or rs k d)
    ∙ ap (λ (n : ℕ). spans_in 0 (take k rs) ++ span_of n (get_or rs k d) ∷ [])
    (let n : ℕ = length (outputs_in (take k rs)) in let e : 0 + n ≡ n = omega arith in e)
