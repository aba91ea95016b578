-- Runs of bits: eight bits at any place of a byte list, a byte with some bits replaced, and runs put one
-- behind another.
use Rattle.std.proofs.Common.{◌≡◌, ◌≢◌, ℕ, zero, suc, ◌+◌, ◌-◌, ◌*◌, ◌/◌, ◌%◌, ◌^◌, ◌<◌, ◌≤◌, List, length}
use Rattle.std.proofs.Common.{get_or, set, Option, Some, sym, ◌∙◌, ap, arith, add-zero, take, drop, ◌++◌}
use Rattle.std.proofs.Common.{⊎_elim}
use Rattle.std.specs.Prelude.{bit_and, bit_or, min, max}
use Rattle.std.specs.Int.{bit_at, w8, bit_not}
use Rattle.std.proofs.lemmas.Bool.{cases_lt, cases_eq}
use Rattle.std.proofs.lemmas.List.{length-set, get_or-take, get_or-drop, get_or_append_left}
use Rattle.std.proofs.lemmas.List.{get_or-append_right, length-take-le, length-drop, length-append}
use Rattle.std.proofs.Math.Nat.{pow-le-pow_right}
use borrow.Rule.Slice.PartMut.{put_mid}
use Rattle.std.proofs.lemmas.Nat.{shr_split, shr-shr, pow_pos, or_lt, and_le_l}
use Rattle.std.proofs.lemmas.Nat.Bits.{bit_at-lt, bit_at_and, bit_at_or, bit_at_not, bit_at_cat_low}
use Rattle.std.proofs.lemmas.Nat.Bits.{bit_at_cat_high, bit_at_mask_inside}
use Rattle.ec_regs.specs.Bits.{AreBytes, bit, with_bits, later}
use Rattle.ec_regs.specs.Pairs.{partner}
use Rattle.ec_regs.proofs.BitLemmas.{later_none, bit_of_byte, bit-set_same, bit-set_other, AreBytes-set}
use Rattle.ec_regs.proofs.BitLemmas.{with_bits_only, with_bits_same_places, with_bits-with_bits}
use Rattle.ec_regs.proofs.BitLemmas.{placed_bit_taken, placed_bit_kept}
use Rattle.ec_regs.proofs.PairLemmas.{partner_none, partner_inside, partner_before, partner_behind}

-- ---- eight bits at any place

-- the low eight bits of a number are those of its lowest byte
bit_at-mod : (x b : ℕ) → b < 8 → bit_at (x % 2 ^ 8) b ≡ bit_at x b
bit_at-mod x b below = sym (bit_at_cat_low (x / 2 ^ 8) 8 (x % 2 ^ 8) b below)
    ∙ ap (λ y. bit_at y b) (shr_split x 8)

-- the bits of a shifted number
bit_at-shr : (x s b : ℕ) → bit_at (x / 2 ^ s) b ≡ bit_at x (s + b)
bit_at-shr x s b = ap (λ y. y % 2) (shr-shr x s b)

-- two neighbouring bytes of a list have sixteen bits of it
bit_at-neighbours : (bs : List ℕ) (k j : ℕ) → AreBytes bs → j < 16
    → bit_at (get_or bs (k + 1) 0 * 2 ^ 8 + get_or bs k 0) j ≡ bit bs (8 * k + j)
bit_at-neighbours bs k j are below =
    ⊎_elim
    (λ (low : j < 8). bit_at_cat_low (get_or bs (k + 1) 0) 8 (get_or bs k 0) j low
    ∙ sym (bit_of_byte bs k j low))
    (λ (high : 8 ≤ j).
    let place : 8 * (k + 1) + (j - 8) ≡ 8 * k + j = omega arith in
    bit_at_cat_high (get_or bs (k + 1) 0) 8 (get_or bs k 0) j (are k) high
    ∙ sym (bit_of_byte bs (k + 1) (j - 8) (omega arith)) ∙ ap (bit bs) place)
    (cases_lt j 8)

-- eight bits of two neighbouring bytes, from bit s of the lower one on
pub bit_at-window : (bs : List ℕ) (k s b : ℕ) → AreBytes bs → s < 8 → b < 8
    → bit_at ((get_or bs (k + 1) 0 * 2 ^ 8 + get_or bs k 0) / 2 ^ s % 2 ^ 8) b ≡ bit bs (8 * k + s + b)
bit_at-window bs k s b are s_below b_below =
    let place : 8 * k + (s + b) ≡ 8 * k + s + b = omega arith in
    bit_at-mod ((get_or bs (k + 1) 0 * 2 ^ 8 + get_or bs k 0) / 2 ^ s) b b_below
    ∙ bit_at-shr (get_or bs (k + 1) 0 * 2 ^ 8 + get_or bs k 0) s b
    ∙ bit_at-neighbours bs k (s + b) are (omega arith)
    ∙ ap (bit bs) place

-- ---- a byte with some bits replaced

-- the byte `old & !mask | taken << from & mask`, with the mask of the bits from one up to another
abbrev pub merged : ℕ → ℕ → ℕ → ℕ → ℕ
merged old taken from to =
    bit_or (bit_and old (bit_not w8 (2 ^ to - 2 ^ from))) (bit_and (taken * 2 ^ from % 2 ^ 8)
    (2 ^ to - 2 ^ from))

-- a mask of bits of a byte is a byte
pub mask-lt : (from to : ℕ) → to ≤ 8 → 2 ^ to - 2 ^ from < 2 ^ 8
mask-lt from to within =
    omega (arith, pow-le-pow_right {n = 2} (omega arith) {i = to} {j = 8} within, pow_pos from)

-- a merged byte is a byte
pub merged-lt : (old taken from to : ℕ) → old < 2 ^ 8 → to ≤ 8 → merged old taken from to < 2 ^ 8
merged-lt old taken from to byte within =
    or_lt 8 (bit_and old (bit_not w8 (2 ^ to - 2 ^ from))) (bit_and (taken * 2 ^ from % 2 ^ 8)
    (2 ^ to - 2 ^ from))
    (omega (arith, and_le_l old (bit_not w8 (2 ^ to - 2 ^ from)))) (omega (
      arith,
      and_le_l
          (taken * 2 ^ from % 2 ^ 8) (2 ^ to - 2 ^ from),
    ))

-- the bits of a merged byte
bit_at-merged : (old taken from to b : ℕ) → to ≤ 8 → b < 8
    → bit_at (merged old taken from to) b
    ≡ max (min (bit_at old b) (1 - bit_at (2 ^ to - 2 ^ from) b)) (min (bit_at
    (taken * 2 ^ from % 2 ^ 8) b) (bit_at (2 ^ to - 2 ^ from) b))
bit_at-merged old taken from to b within below =
    bit_at_or (bit_and old (bit_not w8 (2 ^ to - 2 ^ from))) (bit_and (taken * 2 ^ from % 2 ^ 8)
    (2 ^ to - 2 ^ from)) b
    ∙ ap (λ x. max x (bit_at (bit_and (taken * 2 ^ from % 2 ^ 8) (2 ^ to - 2 ^ from)) b))
    (bit_at_and old (bit_not w8 (2 ^ to - 2 ^ from)) b
    ∙ ap (min (bit_at old b)) (bit_at_not w8 (2 ^ to - 2 ^ from) b (mask-lt from to within) below))
    ∙ ap (max (min (bit_at old b) (1 - bit_at (2 ^ to - 2 ^ from) b))) (bit_at_and
    (taken * 2 ^ from % 2 ^ 8) (2 ^ to - 2 ^ from) b)

-- inside the mask they are those that were taken
pub bit_at-merged_inside : (old taken from to b : ℕ) → to ≤ 8 → from ≤ b → b < to
    → bit_at (merged old taken from to) b ≡ bit_at taken (b - from)
bit_at-merged_inside old taken from to b within starts ends =
    let one : bit_at (2 ^ to - 2 ^ from) b ≡ 1 = bit_at_mask_inside from to b starts ends in
    let shifted : bit_at (taken * 2 ^ from % 2 ^ 8) b ≡ bit_at taken (b - from) =
    bit_at-mod (taken * 2 ^ from) b (omega arith)
    ∙ ap (λ x. bit_at x b) (sym (add-zero (taken * 2 ^ from)))
    ∙ bit_at_cat_high taken from 0 b (pow_pos from) starts
    in
    bit_at-merged old taken from to b within (omega arith)
    ∙ omega (arith, bit_at-lt old b, bit_at-lt (taken * 2 ^ from % 2 ^ 8) b)

-- outside they are the old ones
pub bit_at-merged_outside : (old taken from to b : ℕ) → to ≤ 8 → b < 8 → bit_at (2 ^ to - 2 ^ from) b ≡ 0
    → bit_at (merged old taken from to) b ≡ bit_at old b
bit_at-merged_outside old taken from to b within below none =
    bit_at-merged old taken from to b within below
    ∙ omega (arith, bit_at-lt old b, bit_at-lt (taken * 2 ^ from % 2 ^ 8) b)

-- ---- runs

-- the first part of a run
pub partner_first : (from to n m i : ℕ) → i < from + n → partner from to (n + m) i ≡ partner from to n i
partner_first from to n m i first =
    ⊎_elim
    (λ (before : i < from). partner_before from to (n + m) i before ∙ sym (partner_before from to n i before))
    (λ (starts : from ≤ i).
    partner_inside from to (n + m) i (i - from) (omega arith) (omega arith)
    ∙ sym (partner_inside from to n i (i - from) (omega arith) (omega arith)))
    (cases_lt i from)

-- and the second part, which is a run behind it
pub partner_second : (from to n m i : ℕ) → from + n ≤ i → partner from to (n + m) i
    ≡ partner (from + n) (to + n) m i
partner_second from to n m i second =
    ⊎_elim
    (λ (inside : i < from + n + m).
    let place : to + (i - from) ≡ to + n + (i - (from + n)) = omega arith in
    partner_inside from to (n + m) i (i - from) (omega arith) (omega arith) ∙ ap Some place
    ∙ sym (partner_inside (from + n) (to + n) m i (i - (from + n)) (omega arith) (omega arith)))
    (λ (behind : from + n + m ≤ i).
    partner_behind from to (n + m) i (omega arith) ∙ sym (partner_behind (from + n) (to + n) m i behind))
    (cases_lt i (from + n + m))

-- so a run goes in two parts, one behind the other
pub partner_split : (from to n m i : ℕ)
    → later (partner from to n i) (partner (from + n) (to + n) m i) ≡ partner from to (n + m) i
partner_split from to n m i =
    ⊎_elim
    (λ (first : i < from + n).
    ap (later (partner from to n i)) (partner_before (from + n) (to + n) m i first)
    ∙ sym (partner_first from to n m i first))
    (λ (second : from + n ≤ i).
    ap (λ o. later o (partner (from + n) (to + n) m i)) (partner_behind from to n i second)
    ∙ later_none (partner (from + n) (to + n) m i) ∙ sym (partner_second from to n m i second))
    (cases_lt i (from + n))

-- one run copied behind another is the run of both
pub join_runs : (xs ys zs us : List ℕ) (from to n m : ℕ) (next : ℕ → Option ℕ) → zs
    ≡ with_bits xs ys (partner from to n)
    → us ≡ with_bits zs ys next → ((i : ℕ) → next i ≡ partner (from + n) (to + n) m i) → us
    ≡ with_bits xs ys (partner from to (n + m))
join_runs xs ys zs us from to n m next first second same =
    second
    ∙ rw first
    (with_bits-with_bits xs ys (partner from to n) next
    ∙ with_bits_same_places xs ys (λ i. later (partner from to n i) (next i)) (partner from to (n + m))
    (λ i _. ap (later (partner from to n i)) (same i) ∙ partner_split from to n m i))

-- a run of whole bytes may be told by the byte where it begins
pub partner_whole : (at to n i : ℕ) → (0 < n → at % 8 ≡ 0) → partner (8 * (at / 8)) to (8 * n) i
    ≡ partner at to (8 * n) i
partner_whole at to zero i aligned = partner_none (8 * (at / 8)) to i ∙ sym (partner_none at to i)
partner_whole at to (suc n) i aligned =
    let edge : at % 8 ≡ 0 = aligned (omega arith) in
    let place : 8 * (at / 8) ≡ at = omega arith in
    ap (λ x. partner x to (8 * suc n) i) place

-- a list in which one byte has been written, so that it has the bits of the run and its own others
pub set_run : (xs ys : List ℕ) (at source count new : ℕ) → AreBytes xs → 0 < count → at % 8 + count ≤ 8
    → at + count ≤ 8 * length xs
    → new < 256
    → ((b : ℕ) → at % 8 ≤ b → b < at % 8 + count → bit_at new b ≡ bit ys (source + (b - at % 8)))
    → ((b : ℕ) → b < at % 8 → bit_at new b ≡ bit_at (get_or xs (at / 8) 0) b)
    → ((b : ℕ) → b < 8 → at % 8 + count ≤ b → bit_at new b ≡ bit_at (get_or xs (at / 8) 0) b)
    → set xs (at / 8) new ≡ with_bits xs ys (partner at source count)
set_run xs ys at source count new are some one_byte within byte inside below above =
    with_bits_only (set xs (at / 8) new) xs ys (partner at source count) (length-set xs (at / 8) new)
    (AreBytes-set xs (at / 8) new are byte)
    (λ i i_inside.
    ⊎_elim
    (λ (here : i / 8 ≡ at / 8).
    let own : bit (set xs (at / 8) new) i ≡ bit_at new (i % 8) =
    bit-set_same xs (at / 8) new i (omega arith) here in
    let old : bit_at (get_or xs (at / 8) 0) (i % 8)
    ≡ bit xs i = ap (λ k. bit_at (get_or xs k 0) (i % 8)) (sym here) in
    own
    ∙ ⊎_elim
    (λ (before : i < at).
    below (i % 8) (omega arith) ∙ old ∙ sym (placed_bit_kept xs ys (partner at source count) i
    (partner_before at source count i before)))
    (λ (starts : at ≤ i).
    ⊎_elim
    (λ (ends : i < at + count).
    let place : source + (i % 8 - at % 8) ≡ source + (i - at) = omega arith in
    inside (i % 8) (omega arith) (omega arith) ∙ ap (bit ys) place
    ∙ sym (placed_bit_taken xs ys (partner at source count) i (source + (i - at))
    (partner_inside at source count i (i - at) (omega arith) (omega arith))))
    (λ (behind : at + count ≤ i).
    above (i % 8) (omega arith) (omega arith) ∙ old
    ∙ sym (placed_bit_kept xs ys (partner at source count) i (partner_behind at source count i behind)))
    (cases_lt i (at + count)))
    (cases_lt i at))
    (λ (elsewhere : i / 8 ≢ at / 8).
    bit-set_other xs (at / 8) new i elsewhere
    ∙ sym (placed_bit_kept xs ys (partner at source count) i
    (⊎_elim
    (λ (before : i < at). partner_before at source count i before)
    (λ (starts : at ≤ i). partner_behind at source count i (omega arith))
    (cases_lt i at))))
    (cases_eq (i / 8) (at / 8)))

-- ---- whole bytes

-- a list in which a part has been replaced, at each place
get_or-put_before : (xs zs : List ℕ) (at count i : ℕ) → at ≤ length xs → i < at
    → get_or (put_mid at count xs zs) i 0 ≡ get_or xs i 0
get_or-put_before xs zs at count i within before =
    get_or_append_left (take at xs) (zs ++ drop count (drop at xs)) 0 i (omega
    (arith, length-take-le at xs within))
    ∙ get_or-take at xs i 0 before

get_or-put_inside : (xs zs : List ℕ) (at count i : ℕ) → at ≤ length xs → at ≤ i → i < at + length zs
    → get_or (put_mid at count xs zs) i 0 ≡ get_or zs (i - at) 0
get_or-put_inside xs zs at count i within starts ends =
    get_or-append_right (take at xs) (zs ++ drop count (drop at xs)) at i 0
    (length-take-le at xs within) starts
    ∙ get_or_append_left zs (drop count (drop at xs)) 0 (i - at) (omega arith)

get_or-put_behind : (xs zs : List ℕ) (at count i : ℕ) → at ≤ length xs → length zs ≡ count → at + count ≤ i
    → get_or (put_mid at count xs zs) i 0 ≡ get_or xs i 0
get_or-put_behind xs zs at count i within size behind =
    let place : at + (count + (i - at - count)) ≡ i = omega arith in
    get_or-append_right (take at xs) (zs ++ drop count (drop at xs)) at i 0 (length-take-le at xs within)
    (omega arith)
    ∙ get_or-append_right zs (drop count (drop at xs)) count (i - at) 0 size (omega arith)
    ∙ get_or-drop count (drop at xs) (i - at - count) 0 ∙ get_or-drop at xs (count + (i - at - count)) 0
    ∙ ap (λ k. get_or xs k 0) place

-- and its length stays
length-put : (xs zs : List ℕ) (at count : ℕ) → at + count ≤ length xs → length zs ≡ count
    → length (put_mid at count xs zs) ≡ length xs
length-put xs zs at count within size =
    length-append (take at xs) (zs ++ drop count (drop at xs))
    ∙ omega (
      arith,
      length-take-le at xs (omega arith),
      length-append zs (drop count
          (drop at xs)),
      length-drop count (drop at xs),
      length-drop at xs,
    )

-- a list in which whole bytes have been replaced by those that have the bits of the run
pub put_run : (xs ys zs : List ℕ) (at cut source count : ℕ) → cut ≡ count
    → AreBytes (put_mid at cut xs zs) → length zs ≡ count → at + count ≤ length xs
    → ((k b : ℕ) → k < count → b < 8 → bit_at (get_or zs k 0) b ≡ bit ys (source + 8 * k + b))
    → put_mid at cut xs zs ≡ with_bits xs ys (partner (8 * at) source (8 * count))
put_run xs ys zs at cut source count whole are size within bits_are =
    with_bits_only (put_mid at cut xs zs) xs ys (partner (8 * at) source (8 * count))
    (length-put xs zs at cut (omega arith) (omega arith)) are
    (λ i i_inside.
    ⊎_elim
    (λ (before : i / 8 < at).
    ap (λ x. bit_at x (i % 8)) (get_or-put_before xs zs at cut (i / 8) (omega arith) before)
    ∙ sym (placed_bit_kept xs ys (partner (8 * at) source (8 * count)) i (partner_before (8 * at) source
    (8 * count) i (omega arith))))
    (λ (starts : at ≤ i / 8).
    ⊎_elim
    (λ (ends : i / 8 < at + count).
    let place : source + 8 * (i / 8 - at) + i % 8 ≡ source + (i - 8 * at) = omega arith in
    ap (λ x. bit_at x (i % 8)) (get_or-put_inside xs zs at cut (i / 8) (omega arith) starts (omega arith))
    ∙ bits_are (i / 8 - at) (i % 8) (omega arith) (omega arith) ∙ ap (bit ys) place
    ∙ sym (placed_bit_taken xs ys (partner (8 * at) source (8 * count)) i (source + (i - 8 * at))
    (partner_inside (8 * at) source (8 * count) i (i - 8 * at) (omega arith) (omega arith))))
    (λ (behind : at + count ≤ i / 8).
    ap (λ x. bit_at x (i % 8)) (get_or-put_behind xs zs at cut (i / 8) (omega arith) (omega arith)
    (omega arith))
    ∙ sym (placed_bit_kept xs ys (partner (8 * at) source (8 * count)) i (partner_behind (8 * at) source
    (8 * count) i (omega arith))))
    (cases_lt (i / 8) (at + count)))
    (cases_lt (i / 8) at))

-- a byte of a part of a list
pub get_or-run : (ys : List ℕ) (from n k : ℕ) → k < n → get_or (take n (drop from ys)) k 0
    ≡ get_or ys (from + k) 0
get_or-run ys from n k below = get_or-take n (drop from ys) k 0 below ∙ get_or-drop from ys k 0
