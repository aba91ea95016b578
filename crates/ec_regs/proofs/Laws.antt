-- The laws that crates above cite: on bits of byte lists and where they are placed, on runs, on the pairs of
-- an FMMU and on AL status; and those on lists that are of no crate.
use Rattle.std.proofs.Common.{◌≡◌, ℕ, ◌+◌, ◌%◌, ◌<◌, List, [], ◌∷◌, ◌++◌, Option, None, Some, sym, ◌∙◌, ap}
use Rattle.std.proofs.Common.{refl, arith, ⊎_elim, zero, suc, ◌≤◌, false, length, take, drop, ◌*◌, ◌/◌}
use Rattle.std.proofs.Common.{get_or}
use Rattle.std.specs.List.{AllByRecursion}
use Rattle.std.specs.Int.{bit_at}
use Rattle.std.proofs.lemmas.Bool.{cases_lt}
use Rattle.std.proofs.lemmas.List.{get_or_past}
use Rattle.std.proofs.lemmas.Nat.Bits.{same_from_bits_below}
use Rattle.ec_regs.specs.Bits.{AreBytes, bit, placed_bit, with_bits, later}
use Rattle.ec_regs.specs.Pairs.{partner, IsPair, pair_count, can_map, first_logical, first_physical}
use Rattle.ec_regs.specs.Pairs.{physical_of, logical_of}
use Rattle.ec_regs.specs.declared.fmmu.Fmmu.{Fmmu}
use Rattle.ec_regs.specs.Al.{state_of, status_byte, status_of}
use Rattle.ec_regs.specs.declared.al.AlStatus.{AlStatus}
use Rattle.ec_regs.proofs.BitLemmas as bits
use Rattle.ec_regs.proofs.BitRunLemmas as runs
use Rattle.ec_regs.proofs.PairLemmas as pairs
use Rattle.ec_regs.proofs.AlLemmas as statuses

-- ---- each of a list

-- what holds of each of some and of each of others holds of each of all
pub each-append : {S : Type 0} (P : S → Type 0) (xs ys : List S) → AllByRecursion P xs → AllByRecursion P ys
    → AllByRecursion P (xs ++ ys)
each-append P [] ys front back = back
each-append P (x ∷ xs) ys front back = (front.0, each-append P xs ys front.1 back)

-- what holds of each of a list holds of each of its first part
pub each-front : {S : Type 0} (P : S → Type 0) (xs ys : List S) → AllByRecursion P (xs ++ ys)
    → AllByRecursion P xs
each-front P [] ys all = tt
each-front P (x ∷ xs) ys all = (all.0, each-front P xs ys all.1)

-- what holds of each of a list holds of each of its last part
pub each-back : {S : Type 0} (P : S → Type 0) (xs ys : List S) → AllByRecursion P (xs ++ ys)
    → AllByRecursion P ys
each-back P [] ys all = all
each-back P (x ∷ xs) ys all = each-back P xs ys all.1

-- what holds of each of a list holds of each of its first n
pub each-take : {S : Type 0} (P : S → Type 0) (n : ℕ) (xs : List S) → AllByRecursion P xs
    → AllByRecursion P (take n xs)
each-take P zero xs all = tt
each-take P (suc n) [] all = tt
each-take P (suc n) (x ∷ xs) all = (all.0, each-take P n xs all.1)

-- what holds of each of a list holds of each behind its first n
pub each-drop : {S : Type 0} (P : S → Type 0) (n : ℕ) (xs : List S) → AllByRecursion P xs
    → AllByRecursion P (drop n xs)
each-drop P zero xs all = all
each-drop P (suc n) [] all = tt
each-drop P (suc n) (x ∷ xs) all = each-drop P n xs all.1

-- what follows for one follows for each
pub each-map : {S : Type 0} (P Q : S → Type 0) (xs : List S) → ((x : S) → P x → Q x) → AllByRecursion P xs
    → AllByRecursion Q xs
each-map P Q [] f all = tt
each-map P Q (x ∷ xs) f all = (f x all.0, each-map P Q xs f all.1)

-- what follows for one from two facts follows for each from both
pub each-both : {S : Type 0} (P Q R : S → Type 0) (xs : List S) → ((x : S) → P x → Q x → R x)
    → AllByRecursion P xs → AllByRecursion Q xs
    → AllByRecursion R xs
each-both P Q R [] f p q = tt
each-both P Q R (x ∷ xs) f p q = (f x p.0 q.0, each-both P Q R xs f p.1 q.1)

-- ---- the bits of a list

-- a bit is 0 or 1
pub bit-lt : (bs : List ℕ) (i : ℕ) → bit bs i < 2
bit-lt = bits.bit-lt

-- past the end of a list its bits are 0
pub bit_past : (bs : List ℕ) (i : ℕ) → 8 * length bs ≤ i → bit bs i ≡ 0
bit_past = bits.bit_past

-- the bits of a list are those of its bytes, byte by byte
pub bit_of_byte : (bs : List ℕ) (k b : ℕ) → b < 8 → bit bs (8 * k + b) ≡ bit_at (get_or bs k 0) b
bit_of_byte = bits.bit_of_byte

-- two lists of bytes that have one length and the same bits are the same
pub same_from_list_bits : (xs ys : List ℕ) → length xs ≡ length ys → AreBytes xs → AreBytes ys
    → ((i : ℕ) → i < 8 * length xs → bit xs i ≡ bit ys i) → xs ≡ ys
same_from_list_bits = bits.same_from_list_bits

-- a byte of a part of a list is the byte of the list that stands so far behind
pub get_or-run : (ys : List ℕ) (from n k : ℕ) → k < n → get_or (take n (drop from ys)) k 0
    ≡ get_or ys (from + k) 0
get_or-run = runs.get_or-run

-- a list whose bytes are those of a part of a list of bytes is of bytes
pub AreBytes-run : (zs ys : List ℕ) (from n : ℕ) → length zs ≤ n → AreBytes ys → ((k : ℕ) → k < n
    → get_or zs k 0 ≡ get_or ys (from + k) 0) → AreBytes zs
AreBytes-run zs ys from n size are bytes_are k =
    ⊎_elim
    (λ (inside : k < n). rw (bytes_are k inside) (are (from + k)))
    (λ (past : n ≤ k). rw (get_or_past zs k 0 (omega arith)) (omega arith))
    (cases_lt k n)

-- ---- bits that are placed

-- a bit with a place is taken from there
pub placed_bit_taken : (xs ys : List ℕ) (place : ℕ → Option ℕ) (i p : ℕ) → place i ≡ Some p
    → placed_bit xs ys place i ≡ bit ys p
placed_bit_taken = bits.placed_bit_taken

-- a bit without a place is kept
pub placed_bit_kept : (xs ys : List ℕ) (place : ℕ → Option ℕ) (i : ℕ) → place i ≡ None
    → placed_bit xs ys place i ≡ bit xs i
placed_bit_kept = bits.placed_bit_kept

-- a place that is later than none is that place
pub later_none : (o : Option ℕ) → later None o ≡ o
later_none = bits.later_none

-- ---- a list in which bits are placed

-- bits that are placed in a list leave its length
pub length-with_bits : (xs ys : List ℕ) (place : ℕ → Option ℕ) → length (with_bits xs ys place) ≡ length xs
length-with_bits = bits.length-with_bits

-- a list in which bits are placed is of bytes, whatever it is made of
pub AreBytes-with_bits : (xs ys : List ℕ) (place : ℕ → Option ℕ) → AreBytes (with_bits xs ys place)
AreBytes-with_bits = bits.AreBytes-with_bits

-- each bit of a list in which bits are placed is the placed bit
pub bit-with_bits : (xs ys : List ℕ) (place : ℕ → Option ℕ) (i : ℕ) → i < 8 * length xs
    → bit (with_bits xs ys place) i ≡ placed_bit xs ys place i
bit-with_bits = bits.bit-with_bits

-- in a list in which bits are placed a bit that has a place is the bit there
pub bit-with_bits_taken : (xs ys : List ℕ) (place : ℕ → Option ℕ) (i p : ℕ) → i < 8 * length xs
    → place i ≡ Some p
    → bit (with_bits xs ys place) i ≡ bit ys p
bit-with_bits_taken xs ys place i p inside e = bit-with_bits xs ys place i inside
    ∙ placed_bit_taken xs ys place i p e

-- in a list in which bits are placed a bit that has no place is what it was
pub bit-with_bits_kept : (xs ys : List ℕ) (place : ℕ → Option ℕ) (i : ℕ) → place i ≡ None
    → bit (with_bits xs ys place) i ≡ bit xs i
bit-with_bits_kept xs ys place i e =
    ⊎_elim
    (λ (inside : i < 8 * length xs). bit-with_bits xs ys place i inside ∙ placed_bit_kept xs ys place i e)
    (λ (past : 8 * length xs ≤ i).
    bit_past (with_bits xs ys place) i (omega (arith, length-with_bits xs ys place))
    ∙ sym (bit_past xs i past))
    (cases_lt i (8 * length xs))

-- in a list in which bits are placed a byte none of whose bits has a place is what it was
pub get_or-with_bits_kept : (xs ys : List ℕ) (place : ℕ → Option ℕ) (k : ℕ) → AreBytes xs
    → ((b : ℕ) → b < 8 → place (8 * k + b) ≡ None) → get_or (with_bits xs ys place) k 0 ≡ get_or xs k 0
get_or-with_bits_kept xs ys place k are none =
    same_from_bits_below 8 (get_or (with_bits xs ys place) k 0) (get_or xs k 0)
    (AreBytes-with_bits xs ys place k) (are k)
    (λ b below.
    sym (bit_of_byte (with_bits xs ys place) k b below)
    ∙ bit-with_bits_kept xs ys place (8 * k + b) (none b below)
    ∙ bit_of_byte xs k b below)

-- where no bit has a place the list stays
pub with_bits_none : (xs ys : List ℕ) (place : ℕ → Option ℕ) → AreBytes xs
    → ((i : ℕ) → i < 8 * length xs → place i ≡ None) → with_bits xs ys place ≡ xs
with_bits_none = bits.with_bits_none

-- equal placed bits give equal lists, even if they are taken from two sources
pub with_bits_same_bits : (xs ys zs : List ℕ) (f g : ℕ → Option ℕ)
    → ((i : ℕ) → i < 8 * length xs → placed_bit xs ys f i ≡ placed_bit xs zs g i) → with_bits xs ys f
    ≡ with_bits xs zs g
with_bits_same_bits = bits.with_bits_same_bits

-- equal places give equal lists
pub with_bits_same_places : (xs ys : List ℕ) (f g : ℕ → Option ℕ) → ((i : ℕ) → i < 8 * length xs → f i ≡ g i)
    → with_bits xs ys f ≡ with_bits xs ys g
with_bits_same_places = bits.with_bits_same_places

-- bits that are placed one way and then another are placed once, by the later place where there is one
pub with_bits-with_bits : (xs ys : List ℕ) (f g : ℕ → Option ℕ)
    → with_bits (with_bits xs ys f) ys g ≡ with_bits xs ys (λ i. later (f i) (g i))
with_bits-with_bits = bits.with_bits-with_bits

-- a list of bytes of the same length each of whose bytes has its eight placed bits is the list in which they
-- are placed
pub with_bits_by_bytes : (zs xs ys : List ℕ) (place : ℕ → Option ℕ) → length zs ≡ length xs → AreBytes zs
    → ((k b : ℕ) → k < length xs → b < 8 → bit_at (get_or zs k 0) b
    ≡ placed_bit xs ys place (8 * k + b)) → zs ≡ with_bits xs ys place
with_bits_by_bytes zs xs ys place e are bytes_are =
    bits.with_bits_only zs xs ys place e are
    (λ i inside.
    let here : 8 * (i / 8) + i % 8 ≡ i = omega arith in
    bytes_are (i / 8) (i % 8) (omega arith) (omega arith) ∙ ap (placed_bit xs ys place) here)

-- the bits of a byte that is taken whole are placed bits
pub taken_byte : (xs ys : List ℕ) (place : ℕ → Option ℕ) (i j k b : ℕ) → place i ≡ Some j → j
    ≡ 8 * k + b → b < 8
    → bit_at (get_or ys k 0) b ≡ placed_bit xs ys place i
taken_byte xs ys place i j k b taken place_is below =
    sym (bit_of_byte ys k b below) ∙ ap (bit ys) (sym place_is) ∙ sym (placed_bit_taken xs ys place i j taken)

-- the bits of a byte that is kept whole are placed bits
pub kept_byte : (xs ys : List ℕ) (place : ℕ → Option ℕ) (k b : ℕ) → place (8 * k + b) ≡ None → b < 8
    → bit_at (get_or xs k 0) b ≡ placed_bit xs ys place (8 * k + b)
kept_byte xs ys place k b none below = sym (bit_of_byte xs k b below)
    ∙ sym (placed_bit_kept xs ys place (8 * k + b) none)

-- a list whose bytes are those of a part of another has the bits of that part placed in it
pub copied_run : (zs xs ys : List ℕ) (from : ℕ) → length zs ≡ length xs → AreBytes zs
    → ((k : ℕ) → k < length xs → get_or zs k 0 ≡ get_or ys (from + k) 0) → zs
    ≡ with_bits xs ys (λ i. Some (8 * from + i))
copied_run zs xs ys from e are bytes_are =
    with_bits_by_bytes zs xs ys (λ i. Some (8 * from + i)) e are
    (λ k b inside below.
    ap (λ x. bit_at x b) (bytes_are k inside)
    ∙ taken_byte xs ys (λ i. Some (8 * from + i)) (8 * k + b) (8 * from + (8 * k + b)) (from + k) b refl
    (omega arith) below)

-- ---- runs: bits that go to as many others, one behind the other

-- bit number j of a run goes to bit number j
pub partner_inside : (from to n i j : ℕ) → i ≡ from + j → j < n → partner from to n i ≡ Some (to + j)
partner_inside = pairs.partner_inside

-- a bit before the run goes nowhere
pub partner_before : (from to n i : ℕ) → i < from → partner from to n i ≡ None
partner_before = pairs.partner_before

-- a bit behind the run goes nowhere
pub partner_behind : (from to n i : ℕ) → from + n ≤ i → partner from to n i ≡ None
partner_behind = pairs.partner_behind

-- through a run of no bits nothing goes anywhere
pub partner_none : (from to i : ℕ) → partner from to 0 i ≡ None
partner_none = pairs.partner_none

-- a bit that goes somewhere is a bit of the run, and goes to the bit with its number
pub partner_is : (from to n i p : ℕ) → partner from to n i ≡ Some p → (j : ℕ) × (j < n) × (i
    ≡ from + j) × (p ≡ to + j)
partner_is = pairs.partner_is

-- in the first part of a run bits go as in the run
pub partner_first : (from to n m i : ℕ) → i < from + n → partner from to (n + m) i ≡ partner from to n i
partner_first = runs.partner_first

-- in the second part of a run, which is a run behind the first, bits go as in the run
pub partner_second : (from to n m i : ℕ) → from + n ≤ i → partner from to (n + m) i
    ≡ partner (from + n) (to + n) m i
partner_second = runs.partner_second

-- a run goes in two parts, one behind the other
pub partner_split : (from to n m i : ℕ)
    → later (partner from to n i) (partner (from + n) (to + n) m i) ≡ partner from to (n + m) i
partner_split = runs.partner_split

-- ---- the pairs of an FMMU

-- the physical bit of a pair is that of its logical bit
pub physical_of-IsPair : (f : Fmmu) (l p : ℕ) → IsPair f l p → physical_of f l ≡ Some p
physical_of-IsPair f l p (j, at) =
    partner_inside (first_logical f) (first_physical f) (pair_count f) l j at.logical at.mapped
    ∙ ap Some (sym at.physical)

-- a logical bit that has a physical bit is a pair with it
pub IsPair-physical_of : (f : Fmmu) (l p : ℕ) → physical_of f l ≡ Some p → IsPair f l p
IsPair-physical_of f l p e =
    let at : (j : ℕ) × (j < pair_count f) × (l ≡ first_logical f + j) × (p ≡ first_physical f + j) =
    partner_is (first_logical f) (first_physical f) (pair_count f) l p e
    in (at.0, record { mapped = at.1; logical = at.2; physical = at.3 })

-- the logical bit of a pair is that of its physical bit
pub logical_of-IsPair : (f : Fmmu) (l p : ℕ) → IsPair f l p → logical_of f p ≡ Some l
logical_of-IsPair f l p (j, at) =
    partner_inside (first_physical f) (first_logical f) (pair_count f) p j at.physical at.mapped
    ∙ ap Some (sym at.logical)

-- a physical bit that has a logical bit is a pair with it
pub IsPair-logical_of : (f : Fmmu) (l p : ℕ) → logical_of f p ≡ Some l → IsPair f l p
IsPair-logical_of f l p e =
    let at : (j : ℕ) × (j < pair_count f) × (p ≡ first_physical f + j) × (l ≡ first_logical f + j) =
    partner_is (first_physical f) (first_logical f) (pair_count f) p l e
    in (at.0, record { mapped = at.1; logical = at.3; physical = at.2 })

-- an FMMU that may not map has no pair
pub pair_count_unmapped : (f : Fmmu) → can_map f ≡ false → pair_count f ≡ 0
pair_count_unmapped = pairs.pair_count_unmapped

-- ---- AL status

-- the four lowest bits of a status's byte are the code of its state
pub state_of-status_byte : (s : AlStatus) → state_of (status_byte s % 16) ≡ Some s.state
state_of-status_byte = statuses.state_of-status_byte

-- the status that a status's byte tells is that status
pub status_of-status_byte : (s : AlStatus) → status_of (status_byte s) ≡ s
status_of-status_byte = statuses.status_of-status_byte
