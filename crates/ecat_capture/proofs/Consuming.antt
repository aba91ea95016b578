-- Bytes that are looked at, and then taken, from the front of what is ahead.
use Rattle.std.proofs.Common.{◌≡◌, ℕ, ◌+◌, ◌-◌, ◌≤◌, List, ◌++◌, take, drop, Option, Some, None}
use Rattle.std.proofs.Common.{refl, arith, sym, ap, ◌∙◌, append_assoc, append-nil, take-append-drop, IfSome}
use Rattle.std.proofs.lemmas.List.{drop-drop, drop-take, take-take}
use Rattle.std.specs.Io.KnownBytes.{Consumes, IsAtEnd, Keeps, prepend_known}
use Rattle.ecat_capture.specs.Input.{BeginsWith, run}

-- the loaded bytes lose their front
pub Consumes-loaded : (loaded : List ℕ) (rest : Option (List ℕ)) (n : ℕ)
    → Consumes (prepend_known loaded rest) (prepend_known (drop n loaded) rest) (take n loaded)
Consumes-loaded loaded None n = tt
Consumes-loaded loaded (Some rest) n =
    ap (λ xs. xs ++ rest) (sym (take-append-drop n loaded)) ∙ append_assoc (take n loaded) (drop n loaded) rest

-- what is loaded begins what is ahead
pub BeginsWith-loaded : (loaded : List ℕ) (rest : Option (List ℕ)) (n : ℕ)
    → BeginsWith (prepend_known loaded rest) (take n loaded)
BeginsWith-loaded loaded rest n = record {
  rest = prepend_known (drop n loaded) rest;
  split = Consumes-loaded loaded rest n;
}

-- what is taken of bytes that were kept was taken of those
pub Consumes-of_kept : (old kept new : Option (List ℕ)) (xs : List ℕ) → Keeps old kept → Consumes kept new xs
    → Consumes old new xs
Consumes-of_kept None kept new xs keeps taken = tt
Consumes-of_kept (Some os) None new xs keeps taken = absurd keeps
Consumes-of_kept (Some os) (Some ks) None xs keeps taken = absurd taken
Consumes-of_kept (Some os) (Some ks) (Some ns) xs keeps taken = sym keeps ∙ taken

-- what begins bytes that were kept began those
pub BeginsWith-of_kept : (old kept : Option (List ℕ)) (xs : List ℕ) → Keeps old kept → BeginsWith kept xs
    → BeginsWith old xs
BeginsWith-of_kept old kept xs keeps begins = record {
  rest = begins.rest;
  split = Consumes-of_kept old kept begins.rest xs keeps begins.split;
}

-- all that is ahead of an exhausted input is loaded
pub IfSome-exhausted : (P : List ℕ → Type 0) (old rest : Option (List ℕ)) (loaded : List ℕ)
    → Keeps old (prepend_known loaded rest) → IsAtEnd rest → P loaded → IfSome old P
IfSome-exhausted P None rest loaded keeps end holds = tt
IfSome-exhausted P (Some os) None loaded keeps end holds = absurd keeps
IfSome-exhausted P (Some os) (Some rs) loaded keeps end holds =
    let same : os ≡ loaded = sym keeps ∙ ap (λ xs. loaded ++ xs) end ∙ append-nil loaded in rw same holds

-- the loaded bytes behind a place in the buffer lose their front
pub Consumes-buffered : (xs : List ℕ) (rest : Option (List ℕ)) (from n : ℕ)
    → Consumes (prepend_known (drop from xs) rest) (prepend_known (drop (from + n) xs) rest)
    (take n (drop from xs))
Consumes-buffered xs rest from n = rw (← drop-drop n from xs) (Consumes-loaded (drop from xs) rest n)

-- a run of the buffer is a run of the loaded bytes
pub run-buffered : (xs : List ℕ) (from low high count : ℕ) → low ≤ high → high ≤ count
    → run (from + low) (from + high) xs ≡ run low high (take count (drop from xs))
run-buffered xs from low high count ordered within =
    let size : from + high - (from + low) ≡ high - low = omega arith in
    let whole : count ≡ low + (count - low) = omega arith in
    let reach : high - low ≤ count - low = omega arith in
    let cut : drop low (take count (drop from xs)) ≡ take (count - low) (drop low (drop from xs)) =
    ap (λ n. drop low (take n (drop from xs))) whole ∙ drop-take low (count - low) (drop from xs) in
    rw (size, cut, take-take (high - low) (count - low) (drop low (drop from xs)) reach, drop-drop low from xs)
    refl
