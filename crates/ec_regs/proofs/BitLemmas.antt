-- What `with_bits` leaves in each bit, and that a list of bytes with those bits is it.
use Rattle.std.proofs.Common.{◌≡◌, ◌≢◌, ℕ, zero, suc, ◌+◌, ◌*◌, ◌/◌, ◌%◌, ◌<◌, ◌≤◌, List, length}
use Rattle.std.proofs.Common.{get_or, set, Option, None, Some, sym, ◌∙◌, ap, refl, arith, ⊎_elim}
use Rattle.std.specs.Int.{bit_at}
use Rattle.std.specs.Option.{option_map_or}
use Rattle.std.proofs.lemmas.Bool.{cases_lt, cases_eq}
use Rattle.std.proofs.lemmas.List.{ext_get_or, get_or_past, length-set, get_or-set_same, get_or-set_other}
use Rattle.std.proofs.lemmas.List.FromFn.{length-map-range_with_len, get_or-map-range_with_len}
use Rattle.std.proofs.lemmas.Nat.Bits.{bit_at-lt, bit_at-zero, same_from_bits_below}
use Rattle.ec_regs.specs.Bits.{AreBytes, bit, byte_of_bits, placed_bit, with_bits, later}

-- ---- bits

-- a bit is 0 or 1
pub bit-lt : (bs : List ℕ) (i : ℕ) → bit bs i < 2
bit-lt bs i = bit_at-lt (get_or bs (i / 8) 0) (i % 8)

-- past the end of a list its bits are 0
pub bit_past : (bs : List ℕ) (i : ℕ) → 8 * length bs ≤ i → bit bs i ≡ 0
bit_past bs i past = ap (λ x. bit_at x (i % 8)) (get_or_past bs (i / 8) 0 (omega arith)) ∙ bit_at-zero (i % 8)

-- a list's bits, byte by byte
pub bit_of_byte : (bs : List ℕ) (k b : ℕ) → b < 8 → bit bs (8 * k + b) ≡ bit_at (get_or bs k 0) b
bit_of_byte bs k b below =
    let byte_is : (8 * k + b) / 8 ≡ k = omega arith in
    let bit_is : (8 * k + b) % 8 ≡ b = omega arith in
    ap (λ x. bit_at (get_or bs x 0) ((8 * k + b) % 8)) byte_is ∙ ap (λ x. bit_at (get_or bs k 0) x) bit_is

-- two lists of bytes with the same bits are the same
pub same_from_list_bits : (xs ys : List ℕ) → length xs ≡ length ys → AreBytes xs → AreBytes ys
    → ((i : ℕ) → i < 8 * length xs → bit xs i ≡ bit ys i) → xs ≡ ys
same_from_list_bits xs ys e x_bytes y_bytes same =
    ext_get_or 0 xs ys e
    (λ k inside.
    same_from_bits_below 8 (get_or xs k 0) (get_or ys k 0) (x_bytes k) (y_bytes k)
    (λ b below. sym (bit_of_byte xs k b below) ∙ same (8 * k + b) (omega arith) ∙ bit_of_byte ys k b below))

-- ---- a byte of eight bits

-- eight bits make a byte
pub byte_of_bits-lt : (b : ℕ → ℕ) → ((i : ℕ) → b i < 2) → byte_of_bits b < 256
byte_of_bits-lt b below = omega (
  arith,
  below 0,
  below 1,
  below 2,
  below 3,
  below 4,
  below 5,
  below 6,
  below 7,
)

-- and they are its bits
pub bit_at-byte_of_bits : (b : ℕ → ℕ) → ((i : ℕ) → b i < 2) → (i : ℕ) → i < 8
    → bit_at (byte_of_bits b) i ≡ b i
bit_at-byte_of_bits b below zero h = omega (arith, below 0)
bit_at-byte_of_bits b below (suc zero) h = omega (arith, below 0, below 1)
bit_at-byte_of_bits b below (suc (suc zero)) h = omega (arith, below 0, below 1, below 2)
bit_at-byte_of_bits b below (suc (suc (suc zero))) h = omega (arith, below 0, below 1, below 2, below 3)
bit_at-byte_of_bits b below (suc (suc (suc (suc zero)))) h =
    omega (arith, below 0, below 1, below 2, below 3, below 4)
bit_at-byte_of_bits b below (suc (suc (suc (suc (suc zero))))) h =
    omega (arith, below 0, below 1, below 2, below 3, below 4, below 5)
bit_at-byte_of_bits b below (suc (suc (suc (suc (suc (suc zero)))))) h =
    omega (arith, below 0, below 1, below 2, below 3, below 4, below 5, below 6)
bit_at-byte_of_bits b below (suc (suc (suc (suc (suc (suc (suc zero))))))) h =
    omega (arith, below 0, below 1, below 2, below 3, below 4, below 5, below 6, below 7)
bit_at-byte_of_bits b below (suc (suc (suc (suc (suc (suc (suc (suc i)))))))) h = absurd (omega arith)

-- ---- placed bits

-- a placed bit is 0 or 1
pub placed_bit-lt : (xs ys : List ℕ) (place : ℕ → Option ℕ) (i : ℕ) → placed_bit xs ys place i < 2
unfolding placed_bit
placed_bit-lt xs ys place i =
    elim (place i) as (λ o. option_map_or (bit ys) o
    (bit xs i) < 2) [ None ↦ bit-lt xs i | Some p ↦ bit-lt ys p ]

-- a bit with a place is taken from there
pub placed_bit_taken : (xs ys : List ℕ) (place : ℕ → Option ℕ) (i p : ℕ) → place i ≡ Some p
    → placed_bit xs ys place i ≡ bit ys p
unfolding placed_bit
placed_bit_taken xs ys place i p e = ap (λ o. option_map_or (bit ys) o (bit xs i)) e

-- a bit without one is kept
pub placed_bit_kept : (xs ys : List ℕ) (place : ℕ → Option ℕ) (i : ℕ) → place i ≡ None
    → placed_bit xs ys place i ≡ bit xs i
unfolding placed_bit
placed_bit_kept xs ys place i e = ap (λ o. option_map_or (bit ys) o (bit xs i)) e

-- only the place of the bit itself counts
pub placed_bit_same_place : (xs ys : List ℕ) (f g : ℕ → Option ℕ) (i : ℕ) → f i ≡ g i
    → placed_bit xs ys f i ≡ placed_bit xs ys g i
unfolding placed_bit
placed_bit_same_place xs ys f g i e = ap (λ o. option_map_or (bit ys) o (bit xs i)) e

-- ---- with_bits

-- the length stays
pub length-with_bits : (xs ys : List ℕ) (place : ℕ → Option ℕ) → length (with_bits xs ys place) ≡ length xs
unfolding with_bits
length-with_bits xs ys place =
    length-map-range_with_len (λ k. byte_of_bits (λ b. placed_bit xs ys place (8 * k + b))) 0 (length xs)

-- the byte at k has the eight placed bits of its place
pub get_or-with_bits : (xs ys : List ℕ) (place : ℕ → Option ℕ) (k : ℕ) → k < length xs
    → get_or (with_bits xs ys place) k 0 ≡ byte_of_bits (λ b. placed_bit xs ys place (8 * k + b))
unfolding with_bits
get_or-with_bits xs ys place k inside =
    get_or-map-range_with_len (λ j. byte_of_bits (λ b. placed_bit xs ys place (8 * j + b))) 0
    (length xs) k k 0 inside
    (omega arith)

-- the list is of bytes, whatever it is made of
pub AreBytes-with_bits : (xs ys : List ℕ) (place : ℕ → Option ℕ) → AreBytes (with_bits xs ys place)
AreBytes-with_bits xs ys place k =
    ⊎_elim
    (λ (inside : k < length xs).
    rw (get_or-with_bits xs ys place k inside)
    (byte_of_bits-lt (λ b. placed_bit xs ys place (8 * k + b)) (λ b. placed_bit-lt xs ys place (8 * k + b))))
    (λ (past : length xs ≤ k).
    rw (get_or_past (with_bits xs ys place) k 0 (omega (arith, length-with_bits xs ys place))) (omega arith))
    (cases_lt k (length xs))

-- each bit of it is the placed bit
pub bit-with_bits : (xs ys : List ℕ) (place : ℕ → Option ℕ) (i : ℕ) → i < 8 * length xs
    → bit (with_bits xs ys place) i ≡ placed_bit xs ys place i
bit-with_bits xs ys place i inside =
    let here : 8 * (i / 8) + i % 8 ≡ i = omega arith in
    ap (λ x. bit_at x (i % 8)) (get_or-with_bits xs ys place (i / 8) (omega arith))
    ∙ bit_at-byte_of_bits (λ b. placed_bit xs ys place (8 * (i / 8) + b)) (λ b. placed_bit-lt xs ys place
    (8 * (i / 8) + b)) (i % 8) (omega arith)
    ∙ ap (placed_bit xs ys place) here

-- a list of bytes of that length with those bits is it
pub with_bits_only : (zs xs ys : List ℕ) (place : ℕ → Option ℕ) → length zs ≡ length xs → AreBytes zs
    → ((i : ℕ) → i < 8 * length xs → bit zs i ≡ placed_bit xs ys place i) → zs ≡ with_bits xs ys place
with_bits_only zs xs ys place e are bits_are =
    same_from_list_bits zs (with_bits xs ys place) (e ∙ sym (length-with_bits xs ys place)) are
    (AreBytes-with_bits xs ys place)
    (λ i inside.
    let within : i < 8 * length xs = omega arith in
    bits_are i within ∙ sym (bit-with_bits xs ys place i within))

-- where no bit has a place the list stays
pub with_bits_none : (xs ys : List ℕ) (place : ℕ → Option ℕ) → AreBytes xs
    → ((i : ℕ) → i < 8 * length xs → place i ≡ None) → with_bits xs ys place ≡ xs
with_bits_none xs ys place are none =
    sym (with_bits_only xs xs ys place refl are (λ i inside. sym (placed_bit_kept xs ys place i
    (none i inside))))

-- equal placed bits give equal lists, even if they are taken from two sources
pub with_bits_same_bits : (xs ys zs : List ℕ) (f g : ℕ → Option ℕ)
    → ((i : ℕ) → i < 8 * length xs → placed_bit xs ys f i ≡ placed_bit xs zs g i) → with_bits xs ys f
    ≡ with_bits xs zs g
with_bits_same_bits xs ys zs f g same =
    with_bits_only (with_bits xs ys f) xs zs g (length-with_bits xs ys f) (AreBytes-with_bits xs ys f)
    (λ i inside. bit-with_bits xs ys f i inside ∙ same i inside)

-- equal places give equal lists
pub with_bits_same_places : (xs ys : List ℕ) (f g : ℕ → Option ℕ) → ((i : ℕ) → i < 8 * length xs → f i ≡ g i)
    → with_bits xs ys f ≡ with_bits xs ys g
with_bits_same_places xs ys f g same =
    with_bits_same_bits xs ys ys f g (λ i inside. placed_bit_same_place xs ys f g i (same i inside))

-- bits placed after others: the later place prevails
placed_bit-with_bits : (xs ys : List ℕ) (f g : ℕ → Option ℕ) (i : ℕ) → i < 8 * length xs
    → placed_bit (with_bits xs ys f) ys g i ≡ placed_bit xs ys (λ j. later (f j) (g j)) i
unfolding placed_bit
placed_bit-with_bits xs ys f g i inside =
    elim (g i) as (λ o. option_map_or (bit ys) o (bit (with_bits xs ys f) i)
    ≡ option_map_or (bit ys) (later (f i) o) (bit xs i))
    [ None ↦ bit-with_bits xs ys f i inside | Some p ↦ refl ]

-- so bits that are placed one way and then another are placed once, by the later place where there is one
pub with_bits-with_bits : (xs ys : List ℕ) (f g : ℕ → Option ℕ)
    → with_bits (with_bits xs ys f) ys g ≡ with_bits xs ys (λ i. later (f i) (g i))
with_bits-with_bits xs ys f g =
    let len : length (with_bits xs ys f) ≡ length xs = length-with_bits xs ys f in
    with_bits_only (with_bits (with_bits xs ys f) ys g) xs ys (λ i. later (f i) (g i))
    (length-with_bits (with_bits xs ys f) ys g ∙ len) (AreBytes-with_bits (with_bits xs ys f) ys g)
    (λ i inside. bit-with_bits (with_bits xs ys f) ys g i (omega arith)
    ∙ placed_bit-with_bits xs ys f g i inside)

-- ---- later

-- a place after none is that place
pub later_none : (o : Option ℕ) → later None o ≡ o
later_none None = refl
later_none (Some p) = refl

-- ---- a write of one byte

-- a list of bytes with one byte written is of bytes
pub AreBytes-set : (zs : List ℕ) (at new : ℕ) → AreBytes zs → new < 256 → AreBytes (set zs at new)
AreBytes-set zs at new are byte k =
    ⊎_elim
    (λ (here : k ≡ at).
    ⊎_elim
    (λ (inside : at < length zs). rw (here, get_or-set_same zs at new 0 inside) byte)
    (λ (past : length zs ≤ at).
    rw (get_or_past (set zs at new) k 0 (omega (arith, length-set zs at new))) (omega arith))
    (cases_lt at (length zs)))
    (λ (elsewhere : k ≢ at). rw (get_or-set_other zs at k new 0 elsewhere) (are k))
    (cases_eq k at)

-- the bits of the written byte are those of the byte
pub bit-set_same : (zs : List ℕ) (at new i : ℕ) → at < length zs → i / 8 ≡ at → bit (set zs at new) i
    ≡ bit_at new (i % 8)
bit-set_same zs at new i inside here =
    ap (λ k. bit_at (get_or (set zs at new) k 0) (i % 8)) here
    ∙ ap (λ x. bit_at x (i % 8)) (get_or-set_same zs at new 0 inside)

-- all others stay
pub bit-set_other : (zs : List ℕ) (at new i : ℕ) → i / 8 ≢ at → bit (set zs at new) i ≡ bit zs i
bit-set_other zs at new i elsewhere = ap (λ x. bit_at x (i % 8)) (get_or-set_other zs at
    (i / 8) new 0 elsewhere)
