-- Bytes field by field: numbers of two, four and eight bytes, and the tests of a table.
use Rattle.std.proofs.Common.{◌≡◌, ℕ, ◌+◌, ◌<◌, ◌≤◌, ◌^◌, Bool, true, false, not, List, [], ◌∷◌, ◌++◌}
use Rattle.std.proofs.Common.{length, take, drop, get_or, refl, sym, ap, ◌∙◌, arith, Some, None, lit<, ⊎_elim}
use Rattle.std.specs.Int.{w16, w32, w64, to_le_bytes, from_le_bytes}
use Rattle.std.proofs.lemmas.Bool.{cases_lt, true≢false}
use Rattle.std.proofs.lemmas.List.{get_or-take, get_or-drop, get_or_past, length-take, length-take-le}
use Rattle.std.proofs.lemmas.List.{length-drop, take-append-drop, drop-drop}
use Rattle.std.proofs.lemmas.Nat.{le_bytes_2, le_bytes_4, le_bytes_8}
use Rattle.ec_io.specs.declared.fault.PacketFault.{PacketFault}
use Rattle.ec_io.specs.Fault.{first_of}

-- ---- bytes

-- each element is a byte
abbrev pub AreBytes : List ℕ → Type 0
AreBytes xs = (i : ℕ) → get_or xs i 0 < 256

AreBytes-take : (n : ℕ) (xs : List ℕ) → AreBytes xs → AreBytes (take n xs)
AreBytes-take n xs all i =
    ⊎_elim
    (λ (inside : i < n). rw (get_or-take n xs i 0 inside) (all i))
    (λ (past : n ≤ i). rw (get_or_past (take n xs) i 0 (omega (arith, length-take n xs))) (omega arith))
    (cases_lt i n)

pub AreBytes-drop : (n : ℕ) (xs : List ℕ) → AreBytes xs → AreBytes (drop n xs)
AreBytes-drop n xs all i = rw (get_or-drop n xs i 0) (all (n + i))

-- ---- numbers

-- the first bytes are those of the number that they spell
first_two : (xs : List ℕ) → AreBytes xs → 2 ≤ length xs → to_le_bytes w16 (from_le_bytes w16 xs) ≡ take 2 xs
first_two xs all room =
    let e0 : get_or (take 2 xs) 0 0 ≡ get_or xs 0 0 = get_or-take 2 xs 0 0 (lit< tt) in
    let e1 : get_or (take 2 xs) 1 0 ≡ get_or xs 1 0 = get_or-take 2 xs 1 0 (lit< tt) in
    let same : from_le_bytes w16 xs ≡ from_le_bytes w16 (take 2 xs) = omega (arith, e0, e1) in
    le_bytes_2 (take 2 xs) (from_le_bytes w16 xs) (length-take-le 2 xs room) (AreBytes-take 2 xs all) same

first_four : (xs : List ℕ) → AreBytes xs → 4 ≤ length xs → to_le_bytes w32 (from_le_bytes w32 xs) ≡ take 4 xs
first_four xs all room =
    let e0 : get_or (take 4 xs) 0 0 ≡ get_or xs 0 0 = get_or-take 4 xs 0 0 (lit< tt) in
    let e1 : get_or (take 4 xs) 1 0 ≡ get_or xs 1 0 = get_or-take 4 xs 1 0 (lit< tt) in
    let e2 : get_or (take 4 xs) 2 0 ≡ get_or xs 2 0 = get_or-take 4 xs 2 0 (lit< tt) in
    let e3 : get_or (take 4 xs) 3 0 ≡ get_or xs 3 0 = get_or-take 4 xs 3 0 (lit< tt) in
    let same : from_le_bytes w32 xs ≡ from_le_bytes w32 (take 4 xs) = omega (arith, e0, e1, e2, e3) in
    le_bytes_4 (take 4 xs) (from_le_bytes w32 xs) (length-take-le 4 xs room) (AreBytes-take 4 xs all) same

first_eight : (xs : List ℕ) → AreBytes xs → 8 ≤ length xs
    → to_le_bytes w64 (from_le_bytes w64 xs) ≡ take 8 xs
first_eight xs all room =
    let e0 : get_or (take 8 xs) 0 0 ≡ get_or xs 0 0 = get_or-take 8 xs 0 0 (lit< tt) in
    let e1 : get_or (take 8 xs) 1 0 ≡ get_or xs 1 0 = get_or-take 8 xs 1 0 (lit< tt) in
    let e2 : get_or (take 8 xs) 2 0 ≡ get_or xs 2 0 = get_or-take 8 xs 2 0 (lit< tt) in
    let e3 : get_or (take 8 xs) 3 0 ≡ get_or xs 3 0 = get_or-take 8 xs 3 0 (lit< tt) in
    let e4 : get_or (take 8 xs) 4 0 ≡ get_or xs 4 0 = get_or-take 8 xs 4 0 (lit< tt) in
    let e5 : get_or (take 8 xs) 5 0 ≡ get_or xs 5 0 = get_or-take 8 xs 5 0 (lit< tt) in
    let e6 : get_or (take 8 xs) 6 0 ≡ get_or xs 6 0 = get_or-take 8 xs 6 0 (lit< tt) in
    let e7 : get_or (take 8 xs) 7 0 ≡ get_or xs 7 0 = get_or-take 8 xs 7 0 (lit< tt) in
    let same : from_le_bytes w64 xs ≡ from_le_bytes w64 (take 8 xs) =
    omega (arith, e0, e1, e2, e3, e4, e5, e6, e7) in
    le_bytes_8 (take 8 xs) (from_le_bytes w64 xs) (length-take-le 8 xs room) (AreBytes-take 8 xs all) same

-- from a place on: the first n bytes, and what is left
cut : (n at : ℕ) (bytes first : List ℕ) → first ≡ take n (drop at bytes)
    → drop at bytes ≡ first ++ drop (at + n) bytes
cut n at bytes first is =
    sym (ap (λ xs. xs ++ drop (at + n) bytes) is
    ∙ ap (λ xs. take n (drop at bytes) ++ xs) (sym (drop-drop n at bytes))
    ∙ take-append-drop n (drop at bytes))

-- from a place on: a number, and what is left
pub two_at : (at : ℕ) (bytes : List ℕ) → AreBytes bytes → at + 2 ≤ length bytes
    → drop at bytes ≡ to_le_bytes w16 (from_le_bytes w16 (drop at bytes)) ++ drop (at + 2) bytes
two_at at bytes all room =
    cut 2 at bytes _
    (first_two (drop at bytes) (AreBytes-drop at bytes all) (omega (arith, length-drop at bytes)))

pub four_at : (at : ℕ) (bytes : List ℕ) → AreBytes bytes → at + 4 ≤ length bytes
    → drop at bytes ≡ to_le_bytes w32 (from_le_bytes w32 (drop at bytes)) ++ drop (at + 4) bytes
four_at at bytes all room =
    cut 4 at bytes _
    (first_four (drop at bytes) (AreBytes-drop at bytes all) (omega (arith, length-drop at bytes)))

pub eight_at : (at : ℕ) (bytes : List ℕ) → AreBytes bytes → at + 8 ≤ length bytes
    → drop at bytes ≡ to_le_bytes w64 (from_le_bytes w64 (drop at bytes)) ++ drop (at + 8) bytes
eight_at at bytes all room =
    cut 8 at bytes _
    (first_eight (drop at bytes) (AreBytes-drop at bytes all) (omega (arith, length-drop at bytes)))

-- numbers of bytes fit their fields
pub two-lt : (xs : List ℕ) → AreBytes xs → from_le_bytes w16 xs < 2 ^ 16
two-lt xs all = omega (arith, all 0, all 1)

pub four-lt : (xs : List ℕ) → AreBytes xs → from_le_bytes w32 xs < 2 ^ 32
four-lt xs all = omega (arith, all 0, all 1, all 2, all 3)

pub eight-lt : (xs : List ℕ) → AreBytes xs → from_le_bytes w64 xs < 2 ^ 64
eight-lt xs all = omega (arith, all 0, all 1, all 2, all 3, all 4, all 5, all 6, all 7)

-- ---- tables of tests

-- no test of the table holds
abbrev pub NoneHolds : List (Bool × PacketFault) → Type 0
NoneHolds [] = Unit {0}
NoneHolds (t ∷ ts) = (t.0 ≡ false) × NoneHolds ts

-- where a table finds no fault, none of its tests holds
pub NoneHolds-first_of : (ts : List (Bool × PacketFault)) → first_of ts ≡ None → NoneHolds ts
NoneHolds-first_of [] e = tt
NoneHolds-first_of ((true, f) ∷ ts) e = absurd (let bad : Some f ≡ None = e in cc)
NoneHolds-first_of ((false, f) ∷ ts) e = (refl, NoneHolds-first_of ts e)

-- and the other way round
pub first_of-NoneHolds : (ts : List (Bool × PacketFault)) → NoneHolds ts → first_of ts ≡ None
first_of-NoneHolds [] h = refl
first_of-NoneHolds ((true, f) ∷ ts) h = absurd (true≢false h.0)
first_of-NoneHolds ((false, f) ∷ ts) h = first_of-NoneHolds ts h.1

-- a table with another behind it: the fault of the first, or else that of the other
pub first_of-append_some : (ts us : List (Bool × PacketFault)) (f : PacketFault) → first_of ts ≡ Some f
    → first_of (ts ++ us) ≡ Some f
first_of-append_some [] us f e = absurd (let bad : None ≡ Some f = e in cc)
first_of-append_some ((true, g) ∷ ts) us f e = e
first_of-append_some ((false, g) ∷ ts) us f e = first_of-append_some ts us f e

pub first_of-append_none : (ts us : List (Bool × PacketFault)) → first_of ts ≡ None
    → first_of (ts ++ us) ≡ first_of us
first_of-append_none [] us e = refl
first_of-append_none ((true, g) ∷ ts) us e = absurd (let bad : Some g ≡ None = e in cc)
first_of-append_none ((false, g) ∷ ts) us e = first_of-append_none ts us e

-- a test that is not false, or that is so
pub not_false : (b : Bool) → not b ≡ false → b ≡ true
not_false true e = refl
not_false false e = cc
