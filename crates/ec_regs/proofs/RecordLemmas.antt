-- The two records and their bytes: reading what was written and writing what was read.
use Rattle.std.proofs.Common.{◌≡◌, ◌⊎◌, ℕ, zero, suc, ◌+◌, ◌^◌, ◌<◌, ◌≤◌, eqb, List, [], ◌∷◌, ◌++◌}
use Rattle.std.proofs.Common.{length, map, get_or, take, drop, sym, ◌∙◌, ap, subst, refl, arith, inl, inr}
use Rattle.std.proofs.Common.{⊎_elim}
use Rattle.std.specs.Prelude.{bit_and}
use Rattle.std.specs.Int.{bit_at, w16, w32, to_le_bytes, from_le_bytes}
use Rattle.std.specs.List.{range_with_len}
use Rattle.std.proofs.lemmas.Bool.{cases_lt}
use Rattle.std.proofs.lemmas.Bool.Decides.{nat_tests}
use Rattle.std.proofs.lemmas.List.{get_or-take, get_or-drop, get_or_past, length-take, length-take-le}
use Rattle.std.proofs.lemmas.List.{length-drop, take_all}
use Rattle.std.proofs.lemmas.List.FromFn.{fill_by_all}
use Rattle.std.proofs.lemmas.Nat.{pow_pos, le_bytes_2, le_bytes_4, from_le_bytes-to_le_bytes_2}
use Rattle.std.proofs.lemmas.Nat.{from_le_bytes-to_le_bytes_4}
use Rattle.std.proofs.lemmas.Nat.Bits.{and_pow, bit_at-lt}
use Rattle.ec_regs.specs.Bits.{AreBytes}
use Rattle.ec_regs.specs.Fmmu.{fmmu_bytes, fmmu_of}
use Rattle.ec_regs.specs.SyncMan.{sync_man_bytes, sync_man_of}
use Rattle.ec_regs.specs.declared.fmmu.Fmmu.{Fmmu}
use Rattle.ec_regs.specs.declared.sync_man.SyncMan.{SyncMan}

-- the first n of some bytes are bytes
pub AreBytes-take : (n : ℕ) (bs : List ℕ) → AreBytes bs → AreBytes (take n bs)
AreBytes-take n bs are k =
    ⊎_elim
    (λ (inside : k < n). rw (get_or-take n bs k 0 inside) (are k))
    (λ (past : n ≤ k). rw (get_or_past (take n bs) k 0 (omega (arith, length-take n bs))) (omega arith))
    (cases_lt k n)

-- and so are those after the first n
pub AreBytes-drop : (n : ℕ) (bs : List ℕ) → AreBytes bs → AreBytes (drop n bs)
AreBytes-drop n bs are k = rw (get_or-drop n bs k 0) (are (n + k))

-- a list of known length is written out as its elements
written_out : (n : ℕ) (bs : List ℕ) → length bs ≡ n → bs ≡ map (λ k. get_or bs k 0) (range_with_len 0 n)
written_out n bs e = fill_by_all (λ k. get_or bs k 0) bs n 0 e (λ k _. refl)

-- four bytes are the bytes of the number that they spell
to_le_bytes-from_le_bytes_4 : (at : ℕ) (bs : List ℕ) → at + 4 ≤ length bs → AreBytes bs
    → to_le_bytes w32 (from_le_bytes w32 (take 4 (drop at bs))) ≡ take 4 (drop at bs)
to_le_bytes-from_le_bytes_4 at bs inside are =
    le_bytes_4 (take 4 (drop at bs)) _ (length-take-le 4 (drop at bs) (omega (arith, length-drop at bs)))
    (AreBytes-take 4 (drop at bs) (AreBytes-drop at bs are)) refl

-- and so are two
to_le_bytes-from_le_bytes_2 : (at : ℕ) (bs : List ℕ) → at + 2 ≤ length bs → AreBytes bs
    → to_le_bytes w16 (from_le_bytes w16 (take 2 (drop at bs))) ≡ take 2 (drop at bs)
to_le_bytes-from_le_bytes_2 at bs inside are =
    le_bytes_2 (take 2 (drop at bs)) _ (length-take-le 2 (drop at bs) (omega (arith, length-drop at bs)))
    (AreBytes-take 2 (drop at bs) (AreBytes-drop at bs are)) refl

-- the fields of an FMMU record, as runs of its bytes, are all of it
fmmu_runs : (bs : List ℕ) → length bs ≡ 16
    → take 4 bs ++ take 2 (drop 4 bs) ++ get_or bs 6 0 ∷ get_or bs 7 0 ∷ [] ++ take 2 (drop 8 bs)
    ++ get_or bs 10 0 ∷ get_or bs 11 0 ∷ get_or bs 12 0 ∷ [] ++ take 3 (drop 13 bs) ≡ bs
fmmu_runs bs e =
    let P : List ℕ → Type 0 = λ xs. take 4 xs ++ take 2 (drop 4 xs) ++ get_or xs 6 0 ∷ get_or xs 7 0
    ∷ [] ++ take 2 (drop 8 xs)
    ++ get_or xs 10 0 ∷ get_or xs 11 0 ∷ get_or xs 12 0 ∷ [] ++ take 3 (drop 13 xs) ≡ xs
    in subst P (sym (written_out 16 bs e)) refl

-- sixteen bytes are the bytes of the record that they spell
pub fmmu_bytes-fmmu_of : (bs : List ℕ) → length bs ≡ 16 → AreBytes bs → fmmu_bytes (fmmu_of bs) ≡ bs
fmmu_bytes-fmmu_of bs e are =
    let logical : to_le_bytes w32 (from_le_bytes w32 (take 4 bs))
    ≡ take 4 bs = to_le_bytes-from_le_bytes_4 0 bs (omega arith) are in
    let len : to_le_bytes w16 (from_le_bytes w16 (take 2 (drop 4 bs)))
    ≡ take 2 (drop 4 bs) = to_le_bytes-from_le_bytes_2 4 bs (omega arith) are in
    let physical : to_le_bytes w16 (from_le_bytes w16 (take 2 (drop 8 bs)))
    ≡ take 2 (drop 8 bs) = to_le_bytes-from_le_bytes_2 8 bs (omega arith) are in
    ap (λ xs. xs ++ to_le_bytes w16 (from_le_bytes w16 (take 2 (drop 4 bs))) ++ get_or bs 6 0
    ∷ get_or bs 7 0 ∷ [] ++ to_le_bytes w16 (from_le_bytes w16 (take 2 (drop 8 bs)))
    ++ get_or bs 10 0 ∷ get_or bs 11 0 ∷ get_or bs 12 0 ∷ [] ++ take 3 (drop 13 bs)) logical
    ∙ ap (λ xs. take 4 bs ++ xs ++ get_or bs 6 0 ∷ get_or bs 7 0
    ∷ [] ++ to_le_bytes w16 (from_le_bytes w16 (take 2 (drop 8 bs)))
    ++ get_or bs 10 0 ∷ get_or bs 11 0 ∷ get_or bs 12 0 ∷ [] ++ take 3 (drop 13 bs)) len
    ∙ ap (λ xs. take 4 bs ++ take 2 (drop 4 bs) ++ get_or bs 6 0 ∷ get_or bs 7 0 ∷ [] ++ xs
    ++ get_or bs 10 0 ∷ get_or bs 11 0 ∷ get_or bs 12 0 ∷ [] ++ take 3 (drop 13 bs)) physical
    ∙ fmmu_runs bs e

-- the fields of a sync manager record, as runs of its bytes, are all of it
sync_man_runs : (bs : List ℕ) → length bs ≡ 8
    → take 2 bs ++ take 2 (drop 2 bs) ++ get_or bs 4 0 ∷ get_or bs 5 0 ∷ get_or bs 6 0 ∷ get_or bs 7 0
    ∷ [] ≡ bs
sync_man_runs bs e =
    let P : List ℕ → Type 0 = λ xs.
    take 2 xs ++ take 2 (drop 2 xs) ++ get_or xs 4 0 ∷ get_or xs 5 0 ∷ get_or xs 6 0 ∷ get_or xs 7 0 ∷ [] ≡ xs
    in subst P (sym (written_out 8 bs e)) refl

-- eight bytes are the bytes of the record that they spell
pub sync_man_bytes-sync_man_of : (bs : List ℕ) → length bs ≡ 8 → AreBytes bs
    → sync_man_bytes (sync_man_of bs) ≡ bs
sync_man_bytes-sync_man_of bs e are =
    let start : to_le_bytes w16 (from_le_bytes w16 (take 2 bs))
    ≡ take 2 bs = to_le_bytes-from_le_bytes_2 0 bs (omega arith) are in
    let len : to_le_bytes w16 (from_le_bytes w16 (take 2 (drop 2 bs)))
    ≡ take 2 (drop 2 bs) = to_le_bytes-from_le_bytes_2 2 bs (omega arith) are in
    ap (λ xs. xs ++ to_le_bytes w16 (from_le_bytes w16 (take 2 (drop 2 bs)))
    ++ get_or bs 4 0 ∷ get_or bs 5 0 ∷ get_or bs 6 0 ∷ get_or bs 7 0 ∷ []) start
    ∙ ap (λ xs. take 2 bs ++ xs ++ get_or bs 4 0 ∷ get_or bs 5 0 ∷ get_or bs 6 0 ∷ get_or bs 7 0 ∷ []) len
    ∙ sync_man_runs bs e

-- a number below two is 0 or 1
zero_or_one : (n : ℕ) → n < 2 → (n ≡ 0) ⊎ (n ≡ 1)
zero_or_one zero h = inl refl
zero_or_one (suc zero) h = inr refl
zero_or_one (suc (suc n)) h = absurd (omega arith)

-- the test for the flag of bit k, `n & (1 << k) == 1 << k`, is whether the bit is 1
pub has_flag : (n k : ℕ) → eqb (bit_and n (2 ^ k)) (2 ^ k) ≡ eqb (bit_at n k) 1
has_flag n k =
    rw (and_pow n k)
    (⊎_elim
    (λ (clear : bit_at n k ≡ 0). rw clear (grind (arith, nat_tests, pow_pos k)))
    (λ (one : bit_at n k ≡ 1). rw one (grind (arith, nat_tests)))
    (zero_or_one (bit_at n k) (bit_at-lt n k)))

-- the record that a record's bytes spell is that record, where its fields fit their types
pub fmmu_of-fmmu_bytes : (f : Fmmu) → f.logical < 2 ^ 32 → f.length < 2 ^ 16 → f.physical < 2 ^ 16
    → length f.reserved ≡ 3
    → fmmu_of (fmmu_bytes f) ≡ f
fmmu_of-fmmu_bytes f logical_fits length_fits physical_fits reserved_fits =
    let logical : from_le_bytes w32 (to_le_bytes w32 f.logical)
    ≡ f.logical = from_le_bytes-to_le_bytes_4 f.logical logical_fits in
    let len : from_le_bytes w16 (to_le_bytes w16 f.length)
    ≡ f.length = from_le_bytes-to_le_bytes_2 f.length length_fits in
    let physical : from_le_bytes w16 (to_le_bytes w16 f.physical)
    ≡ f.physical = from_le_bytes-to_le_bytes_2 f.physical physical_fits in
    let reserved : take 3 f.reserved ≡ f.reserved = take_all 3 f.reserved (omega arith) in
    rw (logical, len, physical, reserved) refl

-- the same of a sync manager record
pub sync_man_of-sync_man_bytes : (s : SyncMan) → s.start < 2 ^ 16 → s.length < 2 ^ 16
    → sync_man_of (sync_man_bytes s) ≡ s
sync_man_of-sync_man_bytes s start_fits length_fits =
    let start : from_le_bytes w16 (to_le_bytes w16 s.start)
    ≡ s.start = from_le_bytes-to_le_bytes_2 s.start start_fits in
    let len : from_le_bytes w16 (to_le_bytes w16 s.length)
    ≡ s.length = from_le_bytes-to_le_bytes_2 s.length length_fits in
    rw (start, len) refl
