-- A number that was put into bits is read of them as it was, and no other bit is another one.
use Rattle.std.proofs.Common.{◌≡◌, ℕ, zero, suc, ◌+◌, ◌-◌, ◌*◌, ◌/◌, ◌%◌, ◌^◌, ◌<◌, ◌≤◌, ◌∙◌, ap, sym}
use Rattle.std.proofs.Common.{refl, arith, Bool, true, false, List, [], ◌∷◌, length, None, Some, Ok, Err}
use Rattle.std.proofs.Common.{cond, eqb, get_or, nat_le, inl, inr, ⊎_elim, subst, lit<}
use Rattle.std.specs.Int.{bit_at, from_le_bytes, to_le_bytes, w32}
use Rattle.std.proofs.Math.Nat.{mul-suc, pow-le-pow_right, pow-succ'}
use Rattle.std.proofs.lemmas.Bool.{cases_lt}
use Rattle.std.proofs.lemmas.Bool.Decides.{nat_tests}
use Rattle.std.proofs.lemmas.Nat.{from_le_bytes-to_le_bytes_4, pow-add, shr-shr}
use Rattle.std.proofs.lemmas.Nat.Bits.{bit_at-suc, bit_at_lowest}
use Rattle.ec_regs.specs.Bits.{AreBytes, bit, with_bits}
use Rattle.ec_regs.specs.Pairs.{partner}
use Rattle.ec_regs.proofs.Laws.{bit-with_bits_kept, bit-with_bits_taken, AreBytes-with_bits, bit_of_byte}
use Rattle.ec_regs.proofs.Laws.{length-with_bits, partner_before, partner_behind, partner_inside}
use Rattle.ec_regs.proofs.Laws.{same_from_list_bits}
use Rattle.ecat_signals.specs.Signals.{extended, fits, has_sign, is_number, is_whole_row, IsOutside}
use Rattle.ecat_signals.specs.Signals.{number_at, number_in, number_put, row_put, with_field}
use Rattle.ecat_signals.specs.declared.field.Field.{Field}
use Rattle.ecat_signals.specs.declared.field.FieldFault.TheVariants.{NoField, OutOfRange}

-- ---- the bits of a number are those of its bytes

byte-bit : (x b : ℕ) → b < 8 → bit_at (x % 256) b ≡ bit_at x b
byte-bit x zero h = omega arith
byte-bit x (suc zero) h = omega arith
byte-bit x (suc (suc zero)) h = omega arith
byte-bit x (suc (suc (suc zero))) h = omega arith
byte-bit x (suc (suc (suc (suc zero)))) h = omega arith
byte-bit x (suc (suc (suc (suc (suc zero))))) h = omega arith
byte-bit x (suc (suc (suc (suc (suc (suc zero)))))) h = omega arith
byte-bit x (suc (suc (suc (suc (suc (suc (suc zero))))))) h = omega arith
byte-bit x (suc (suc (suc (suc (suc (suc (suc (suc b)))))))) h = absurd (omega arith)

byte-at : (n k : ℕ) → k < 4 → get_or (to_le_bytes w32 n) k 0 ≡ n / 2 ^ (8 * k) % 256
byte-at n zero h = omega arith
byte-at n (suc zero) h = omega arith
byte-at n (suc (suc zero)) h = omega arith
byte-at n (suc (suc (suc zero))) h = omega arith
byte-at n (suc (suc (suc (suc k)))) h = absurd (omega arith)

bit-of-number : (n i : ℕ) → i < 32 → bit (to_le_bytes w32 n) i ≡ bit_at n i
bit-of-number n i h =
    let k = i / 8 in let b = i % 8 in
    let here : 8 * k + b ≡ i = omega arith in
    ap (bit (to_le_bytes w32 n)) (sym here)
    ∙ bit_of_byte (to_le_bytes w32 n) k b (omega arith)
    ∙ ap (λ x. bit_at x b) (byte-at n k (omega arith))
    ∙ byte-bit (n / 2 ^ (8 * k)) b (omega arith)
    ∙ ap (λ x. x % 2) (shr-shr n (8 * k) b)
    ∙ ap (bit_at n) here

are-bytes : (n : ℕ) → AreBytes (to_le_bytes w32 n)
are-bytes n zero = omega arith
are-bytes n (suc zero) = omega arith
are-bytes n (suc (suc zero)) = omega arith
are-bytes n (suc (suc (suc zero))) = omega arith
are-bytes n (suc (suc (suc (suc k)))) = lit< tt

-- a number below a power of two has no bit from there on
none-above : (c n i : ℕ) → n < 2 ^ c → c ≤ i → bit_at n i ≡ 0
none-above zero n zero small h = omega arith
none-above zero n (suc i) small h = bit_at-suc n i ∙ none-above zero (n / 2) i (omega arith) (omega arith)
none-above (suc c) n zero small h = absurd (omega arith)
none-above (suc c) n (suc i) small h =
    bit_at-suc n i ∙ none-above c (n / 2) i (omega (arith, pow-succ' 2 c)) (omega arith)

-- its lower bits are its own whatever stands above
same-below : (c n k i : ℕ) → i < c → bit_at (n + 2 ^ c * k) i ≡ bit_at n i
same-below zero n k i h = absurd (omega arith)
same-below (suc c) n k zero h =
    let twice : 2 ^ suc c * k ≡ 2 * (2 ^ c * k) = ap (λ p. p * k) (pow-succ' 2 c) ∙ omega arith in
    bit_at_lowest (n + 2 ^ suc c * k) ∙ omega (arith, twice) ∙ sym (bit_at_lowest n)
same-below (suc c) n k (suc i) h =
    let twice : 2 ^ suc c * k ≡ 2 * (2 ^ c * k) = ap (λ p. p * k) (pow-succ' 2 c) ∙ omega arith in
    let half : (n + 2 ^ suc c * k) / 2 ≡ n / 2 + 2 ^ c * k = omega (arith, twice) in
    bit_at-suc (n + 2 ^ suc c * k) i ∙ ap (λ x. bit_at x i) half ∙ same-below c (n / 2) k i (omega arith)
    ∙ sym (bit_at-suc n i)

-- ---- what is read of the bits that were put

abbrev zeros : List ℕ
zeros = 0 ∷ 0 ∷ 0 ∷ 0 ∷ []

put-read : (bytes : List ℕ) (b c m n : ℕ) → b + c ≤ 8 * length bytes → c ≤ 32 → n < 2 ^ c → n < 2 ^ 32
    → ((i : ℕ) → i < c → bit_at m i ≡ bit_at n i)
    → number_at (with_bits bytes (to_le_bytes w32 m) (partner b 0 c)) b c ≡ n
put-read bytes b c m n inside few small wide same =
    ap (from_le_bytes w32)
    (same_from_list_bits found (to_le_bytes w32 n) (length-with_bits zeros after (partner 0 b c))
    (AreBytes-with_bits zeros after (partner 0 b c)) (are-bytes n) bits)
    ∙ from_le_bytes-to_le_bytes_4 n wide
  where
    after : List ℕ
    after = with_bits bytes (to_le_bytes w32 m) (partner b 0 c)

    found : List ℕ
    found = with_bits zeros after (partner 0 b c)

    taken : (i : ℕ) → i < c → bit found i ≡ bit_at n i
    taken i h =
        bit-with_bits_taken zeros after (partner 0 b c) i (b + i) (omega arith)
        (partner_inside 0 b c i i (omega arith) h)
        ∙ bit-with_bits_taken bytes (to_le_bytes w32 m) (partner b 0 c) (b + i) (0 + i) (omega arith)
        (partner_inside b 0 c (b + i) i refl h)
        ∙ ap (bit (to_le_bytes w32 m)) (let e : 0 + i ≡ i = omega arith in e)
        ∙ bit-of-number m i (omega arith) ∙ same i h

    no-bit : (i : ℕ) → bit zeros i ≡ 0
    no-bit i = ap (λ x. bit_at x (i % 8)) (zero-at (i / 8)) ∙ none-above 0 0 (i % 8) (lit< tt) (omega arith)
      where
        zero-at : (k : ℕ) → get_or zeros k 0 ≡ 0
        zero-at zero = refl
        zero-at (suc zero) = refl
        zero-at (suc (suc zero)) = refl
        zero-at (suc (suc (suc zero))) = refl
        zero-at (suc (suc (suc (suc k)))) = refl

    past : (i : ℕ) → c ≤ i → i < 32 → bit found i ≡ bit_at n i
    past i h low =
        bit-with_bits_kept zeros after (partner 0 b c) i (partner_behind 0 b c i (omega arith))
        ∙ no-bit i ∙ sym (none-above c n i small h)

    bits : (i : ℕ) → i < 8 * length found → bit found i ≡ bit (to_le_bytes w32 n) i
    bits i h =
        let low : i < 32 = omega (arith, length-with_bits zeros after (partner 0 b c)) in
        ⊎_elim (λ (below : i < c). taken i below) (λ (behind : c ≤ i). past i behind low) (cases_lt i c)
        ∙ sym (bit-of-number n i low)

-- ---- with its sign

-- a number without a sign, and one whose sign is not set
plain-back : (f : Field) (number : ℕ) (bytes : List ℕ) (c : ℕ) → f.count ≡ c → number < 2 ^ 32 → c ≤ 32
    → number < 2 ^ c → f.bit + f.count ≤ 8 * length bytes
    → number_at (with_field f (to_le_bytes w32 number) bytes) f.bit f.count ≡ number
plain-back f number bytes c is wide few small inside =
    put-read bytes f.bit f.count number number inside (omega (arith, is))
    (subst (λ k. number < 2 ^ k) (sym is) small) wide (λ i h. refl)

-- one whose sign is set: above its bits are ones
signed-back : (f : Field) (number c : ℕ) (bytes : List ℕ) → f.count ≡ suc c → suc c ≤ 32
    → number < 2 ^ 32 → 2 ^ 32 - 2 ^ c ≤ number → f.bit + f.count ≤ 8 * length bytes
    → number_at (with_field f (to_le_bytes w32 number) bytes) f.bit f.count ≡ number - (2 ^ 32 - 2 ^ suc c)
signed-back f number c bytes is few wide high inside =
    let n = number - (2 ^ 32 - 2 ^ suc c) in
    let k = 2 ^ (32 - suc c) - 1 in
    let whole : 2 ^ suc c * 2 ^ (32 - suc c) ≡ 2 ^ 32 = pow-of (suc c) few in
    let split : 2 ^ suc c * k ≡ 2 ^ 32 - 2 ^ suc c = less-one (2 ^ suc c) (2 ^ (32 - suc c)) (2 ^ 32) whole in
    let twice : 2 ^ suc c ≡ 2 * 2 ^ c = pow-succ' 2 c in
    let top : 2 ^ suc c ≤ 2 ^ 32 = pow-le (suc c) few in
    let is-sum : number ≡ n + 2 ^ suc c * k = omega (arith, split, twice, top) in
    put-read bytes f.bit f.count number n inside (omega (arith, is))
    (subst (λ j. n < 2 ^ j) (sym is) (omega (arith, twice, top))) (omega (arith, twice, top))
    (λ i h. ap (λ x. bit_at x i) is-sum ∙ same-below (suc c) n k i (omega (arith, is)))
  where
    pow-of : (j : ℕ) → j ≤ 32 → 2 ^ j * 2 ^ (32 - j) ≡ 2 ^ 32
    pow-of j low = sym (pow-add 2 j (32 - j)) ∙ ap (λ e. 2 ^ e) (let e : j + (32 - j) ≡ 32 = omega arith in e)

    pow-le : (j : ℕ) → j ≤ 32 → 2 ^ j ≤ 2 ^ 32
    pow-le j low = pow-le-pow_right (lit< tt) low

    less-one : (a b w : ℕ) → a * b ≡ w → a * (b - 1) ≡ w - a
    less-one a zero w e = let none : a * 0 ≡ 0 = omega arith in omega (arith, e, none)
    less-one a (suc b) w e =
        let one : suc b - 1 ≡ b = omega arith in
        ap (λ x. a * x) one ∙ omega (arith, e, mul-suc a b)

-- ---- what is put

abbrev pub IsPut : Field → ℕ → List ℕ → List ℕ → Bool → Bool → Type 0
IsPut f number bytes after is fit =
    cond is (cond fit (Ok (with_field f (to_le_bytes w32 number) bytes)) (Err OutOfRange)) (Err NoField)
    ≡ Ok after

-- so many bits, as a number has
few-of : (size : ℕ) (f : Field) → is_number size f ≡ true → (1 ≤ f.count) × (f.count ≤ 32)
few-of size f is = (grind (arith, nat_tests), grind (arith, nat_tests))

inside-of : (size : ℕ) (f : Field) → is_number size f ≡ true → f.bit + f.count ≤ 8 * size
inside-of size f is = grind (arith, nat_tests)

-- a number below the half has no sign, and one behind it the sign that it had
low-sign : (count c n : ℕ) → count ≡ suc c → n < 2 ^ c → extended true count n ≡ n
low-sign count c n is low =
    let e : count - 1 ≡ c = omega (arith, is) in
    let half : 2 ^ (count - 1) ≡ 2 ^ c = ap (λ k. 2 ^ k) e in
    let not-yet : nat_le (2 ^ (count - 1)) n ≡ false = grind (arith, nat_tests) in
    ap (λ t. cond t ((n + (2 ^ 32 - 2 ^ count)) % 2 ^ 32) n) not-yet

high-sign : (count c n number : ℕ) → count ≡ suc c → suc c ≤ 32 → number < 2 ^ 32 → 2 ^ 32 - 2 ^ c ≤ number
    → n ≡ number - (2 ^ 32 - 2 ^ suc c) → extended true count n ≡ number
high-sign count c n number is few wide high lies =
    let e : count - 1 ≡ c = omega (arith, is) in
    let half : 2 ^ (count - 1) ≡ 2 ^ c = ap (λ k. 2 ^ k) e in
    let whole : 2 ^ count ≡ 2 ^ suc c = ap (λ k. 2 ^ k) is in
    let twice : 2 ^ suc c ≡ 2 * 2 ^ c = pow-succ' 2 c in
    let top : 2 ^ suc c ≤ 2 ^ 32 = pow-le-pow_right (lit< tt) few in
    let above : 2 ^ c ≤ n = omega (arith, lies, twice, top, high, wide) in
    let set : nat_le (2 ^ (count - 1)) n ≡ true = grind (arith, nat_tests) in
    let sum : n + (2 ^ 32 - 2 ^ count) ≡ number = omega (arith, lies, whole, twice, top, high, wide) in
    ap (λ t. cond t ((n + (2 ^ 32 - 2 ^ count)) % 2 ^ 32) n) set
    ∙ ap (λ x. x % 2 ^ 32) sum ∙ omega (arith, wide)

-- the number with its sign
sign-back : (sign : Bool) (f : Field) (number : ℕ) (bytes : List ℕ) → 1 ≤ f.count → f.count ≤ 32
    → f.bit + f.count ≤ 8 * length bytes → number < 2 ^ 32 → fits sign f.count number ≡ true
    → extended sign f.count (number_at (with_field f (to_le_bytes w32 number) bytes) f.bit f.count) ≡ number
sign-back false f number bytes some few inside wide fit =
    plain-back f number bytes f.count refl wide few (grind (arith, nat_tests)) inside
sign-back true f number bytes some few inside wide fit = signed (f.count - 1) (omega arith)
  where
    signed : (c : ℕ) → f.count ≡ suc c
        → extended true f.count (number_at (with_field f (to_le_bytes w32 number) bytes) f.bit f.count)
        ≡ number
    signed c is =
        let e : f.count - 1 ≡ c = omega (arith, is) in
        let half : 2 ^ (f.count - 1) ≡ 2 ^ c = ap (λ k. 2 ^ k) e in
        let twice : 2 ^ suc c ≡ 2 * 2 ^ c = pow-succ' 2 c in
        let whole : 2 ^ f.count ≡ 2 ^ suc c = ap (λ k. 2 ^ k) is in
        ⊎_elim
        (λ (low : number < 2 ^ c).
        ap (extended true f.count)
        (plain-back f number bytes f.count refl wide few (omega (arith, low, twice, whole)) inside)
        ∙ low-sign f.count c number is low)
        (λ (past : 2 ^ c ≤ number).
        let high : 2 ^ 32 - 2 ^ c ≤ number = grind (arith, nat_tests) in
        ap (extended true f.count)
        (signed-back f number c bytes is (omega (arith, is)) wide high inside)
        ∙ high-sign f.count c (number - (2 ^ 32 - 2 ^ suc c)) number is (omega (arith, is)) wide high refl)
        (cases_lt number (2 ^ c))

number-in-by : (f : Field) (bytes after : List ℕ) (number : ℕ) → length after ≡ length bytes
    → is_number (length bytes) f ≡ true
    → extended (has_sign f.kind) f.count (number_at after f.bit f.count) ≡ number
    → number_in f after ≡ Some number
number-in-by f bytes after number size is read =
    ap (λ n. cond (is_number n f)
    (Some (extended (has_sign f.kind) f.count (number_at after f.bit f.count))) None) size
    ∙ ap (λ t. cond t (Some (extended (has_sign f.kind) f.count (number_at after f.bit f.count))) None) is
    ∙ ap Some read

put-back : (f : Field) (number : ℕ) (bytes after : List ℕ) (is fit : Bool) → number < 2 ^ 32
    → is_number (length bytes) f ≡ is → fits (has_sign f.kind) f.count number ≡ fit
    → IsPut f number bytes after is fit → number_in f after ≡ Some number
put-back f number bytes after true true wide is fit h =
    let few = few-of (length bytes) f is in
    let same : with_field f (to_le_bytes w32 number) bytes ≡ after = cc h in
    number-in-by f bytes after number
    (ap (λ xs. length xs) (sym same)
    ∙ length-with_bits bytes (to_le_bytes w32 number) (partner f.bit 0 f.count))
    is
    (ap (λ xs. extended (has_sign f.kind) f.count (number_at xs f.bit f.count)) (sym same)
    ∙ sign-back (has_sign f.kind) f number bytes few.0 few.1 (inside-of (length bytes) f is) wide fit)
put-back f number bytes after true false wide is fit h = cc h
put-back f number bytes after false fit wide is e h = cc h

pub number-back : (f : Field) (number : ℕ) (bytes after : List ℕ) → number < 2 ^ 32
    → number_put f number bytes ≡ Ok after → number_in f after ≡ Some number
number-back f number bytes after wide h =
    put-back f number bytes after (is_number (length bytes) f) (fits (has_sign f.kind) f.count number) wide
    refl refl h

-- ---- what stays

stays : (f : Field) (bits bytes : List ℕ) (i : ℕ) → IsOutside f i
    → bit (with_field f bits bytes) i ≡ bit bytes i
stays f bits bytes i (inl before) =
    bit-with_bits_kept bytes bits (partner f.bit 0 f.count) i (partner_before f.bit 0 f.count i before)
stays f bits bytes i (inr behind) =
    bit-with_bits_kept bytes bits (partner f.bit 0 f.count) i (partner_behind f.bit 0 f.count i behind)

kept-by : (f : Field) (bits bytes after : List ℕ) (i : ℕ) (is fit : Bool) → IsOutside f i
    → cond is (cond fit (Ok (with_field f bits bytes)) (Err OutOfRange)) (Err NoField) ≡ Ok after
    → bit after i ≡ bit bytes i
kept-by f bits bytes after i true true out h =
    let same : with_field f bits bytes ≡ after = cc h in
    ap (λ xs. bit xs i) (sym same) ∙ stays f bits bytes i out
kept-by f bits bytes after i true false out h = cc h
kept-by f bits bytes after i false fit out h = cc h

pub number-others : (f : Field) (number : ℕ) (bytes after : List ℕ) (i : ℕ)
    → number_put f number bytes ≡ Ok after → IsOutside f i → bit after i ≡ bit bytes i
number-others f number bytes after i h out =
    kept-by f (to_le_bytes w32 number) bytes after i (is_number (length bytes) f)
    (fits (has_sign f.kind) f.count number) out h

pub row-others : (f : Field) (row bytes after : List ℕ) (i : ℕ)
    → row_put f row bytes ≡ Ok after → IsOutside f i → bit after i ≡ bit bytes i
row-others f row bytes after i h out =
    kept-by f row bytes after i (is_whole_row (length bytes) f) (eqb (8 * length row) f.count) out h
