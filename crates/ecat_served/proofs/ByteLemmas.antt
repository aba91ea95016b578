-- What applications put into a controller, and what it is told, are bytes.
use Rattle.std.specs.Prelude.{◌<◌, ◌/◌, ◌%◌, ◌+◌, ℕ, zero, suc, List, [], ◌∷◌, ◌++◌, take, drop, slice_range}
use Rattle.std.specs.Prelude.{◌-◌, replicate}
use Rattle.std.specs.Int.{w16, w64, to_le_bytes}
use Rattle.std.proofs.Common.{arith, get_or, sym, subst}
use Rattle.std.proofs.lemmas.List.{get_or-drop}
use Rattle.ec_regs.specs.Bits.{AreBytes}

more : (x : ℕ) (xs : List ℕ) → x < 256 → AreBytes xs → AreBytes (x ∷ xs)
more x xs small all k =
    let P : ℕ → Type 0 = λ j. get_or (x ∷ xs) j 0 < 256 in
    elim k as P [ zero ↦ small | suc j ↦ all j ]

rest : (x : ℕ) (xs : List ℕ) → AreBytes (x ∷ xs) → AreBytes xs
rest x xs all = λ k. all (suc k)

first : (x : ℕ) (xs : List ℕ) → AreBytes (x ∷ xs) → x < 256
first x xs all = all 0

none : AreBytes []
none = λ k. omega arith

front : (n : ℕ) (xs : List ℕ) → AreBytes xs → AreBytes (take n xs)
front zero xs all = none
front (suc n) [] all = none
front (suc n) (x ∷ xs) all = more x (take n xs) (first x xs all) (front n xs (rest x xs all))

back : (n : ℕ) (xs : List ℕ) → AreBytes xs → AreBytes (drop n xs)
back n xs all = λ k. subst (λ (m : ℕ). m < 256) (sym (get_or-drop n xs k 0)) (all (n + k))

-- a piece of bytes
pub piece : (from to : ℕ) (xs : List ℕ) → AreBytes xs → AreBytes (slice_range xs from to)
piece from to xs all = front (to - from) (drop from xs) (back from xs all)

both : (xs ys : List ℕ) → AreBytes xs → AreBytes ys → AreBytes (xs ++ ys)
both [] ys one two = two
both (x ∷ xs) ys one two = more x (xs ++ ys) (first x xs one) (both xs ys (rest x xs one) two)

zeros : (n : ℕ) → AreBytes (replicate n 0)
zeros zero = none
zeros (suc n) = more 0 (replicate n 0) (omega arith) (zeros n)

pub two_bytes : (n : ℕ) → AreBytes (to_le_bytes w16 n)
two_bytes n =
    more (n % 256) (n / 256 % 256 ∷ []) (omega arith) (more (n / 256 % 256) [] (omega arith) none)

eight_bytes : (n : ℕ) → AreBytes (to_le_bytes w64 n)
eight_bytes n =
    let l7 : List ℕ = n / 72057594037927936 % 256 ∷ [] in
    let l6 : List ℕ = n / 281474976710656 % 256 ∷ l7 in
    let l5 : List ℕ = n / 1099511627776 % 256 ∷ l6 in
    let l4 : List ℕ = n / 4294967296 % 256 ∷ l5 in
    let l3 : List ℕ = n / 16777216 % 256 ∷ l4 in
    let l2 : List ℕ = n / 65536 % 256 ∷ l3 in
    let l1 : List ℕ = n / 256 % 256 ∷ l2 in
    let b7 : AreBytes l7 = more (n / 72057594037927936 % 256) [] (omega arith) none in
    let b6 : AreBytes l6 = more (n / 281474976710656 % 256) l7 (omega arith) b7 in
    let b5 : AreBytes l5 = more (n / 1099511627776 % 256) l6 (omega arith) b6 in
    let b4 : AreBytes l4 = more (n / 4294967296 % 256) l5 (omega arith) b5 in
    let b3 : AreBytes l3 = more (n / 16777216 % 256) l4 (omega arith) b4 in
    let b2 : AreBytes l2 = more (n / 65536 % 256) l3 (omega arith) b3 in
    let b1 : AreBytes l1 = more (n / 256 % 256) l2 (omega arith) b2 in
    more (n % 256) l1 (omega arith) b1

-- so many low bytes of a number, and zeros behind the eighth
pub counted : (count n zeros_behind : ℕ)
    → AreBytes (take count (to_le_bytes w64 n ++ replicate zeros_behind 0))
counted count n zeros_behind =
    front count (to_le_bytes w64 n ++ replicate zeros_behind 0)
    (both (to_le_bytes w64 n) (replicate zeros_behind 0) (eight_bytes n) (zeros zeros_behind))
