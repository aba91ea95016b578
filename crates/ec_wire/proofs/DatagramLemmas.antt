-- A datagram's bytes give its record back, and a record that the tests let through gives its bytes back.
use Rattle.std.proofs.Common.{◌≡◌, ℕ, zero, suc, ◌+◌, ◌*◌, ◌/◌, ◌%◌, ◌<◌, ◌≤◌, ◌^◌, Bool, true, false, ◌==◌}
use Rattle.std.proofs.Common.{List, [], ◌∷◌, ◌++◌, length, take, drop, get_or, refl, sym, ap, subst, add_comm}
use Rattle.std.proofs.Common.{lit<, ◌∙◌, arith}
use Rattle.std.specs.Int.{w16, to_le_bytes, from_le_bytes}
use Rattle.std.proofs.lemmas.Nat.{from_le_bytes-to_le_bytes_2, from_le_bytes-to_le_bytes_4, le_bytes_2}
use Rattle.std.proofs.lemmas.List.{append_assoc, length-drop, length-take, length-take-le, take-append-drop}
use Rattle.std.proofs.lemmas.List.{drop-drop}
use Rattle.std.proofs.Math.Seq.{take-append_seam, drop-append_seam}
use Rattle.std.proofs.lemmas.List.{get_or-drop}
use Rattle.std.proofs.lemmas.Bool.Decides.{nat_tests}
use Rattle.ec_wire.specs.declared.command.Command.{Command}
use Rattle.ec_wire.specs.declared.command.Command.TheVariants.{Nop, Aprd, Apwr, Aprw, Fprd, Fpwr, Fprw, Brd}
use Rattle.ec_wire.specs.declared.command.Command.TheVariants.{Bwr, Brw, Lrd, Lwr, Lrw, Armw, Frmw}
use Rattle.ec_wire.specs.Datagram.{DatagramRecord, command_of, code_of, Fits}
use Rattle.ec_wire.specs.Spelling.{bit_of, length_word, datagram}
use Rattle.ec_wire.specs.Decoding.{length_field, data_length, says_more, record_at}

-- the code of a command names it
pub command_of-code_of : (c : Command) → command_of (code_of c) ≡ c
unfolding command_of
command_of-code_of Nop = refl
command_of-code_of Aprd = refl
command_of-code_of Apwr = refl
command_of-code_of Aprw = refl
command_of-code_of Fprd = refl
command_of-code_of Fpwr = refl
command_of-code_of Fprw = refl
command_of-code_of Brd = refl
command_of-code_of Bwr = refl
command_of-code_of Brw = refl
command_of-code_of Lrd = refl
command_of-code_of Lwr = refl
command_of-code_of Lrw = refl
command_of-code_of Armw = refl
command_of-code_of Frmw = refl

-- the length field fits its two bytes
pub length_word-lt : (more : Bool) (r : DatagramRecord) → Fits r → length_word more r < 2 ^ 16
length_word-lt more r fits = word more r.circulating (length r.payload) fits.payload
  where
    word : (more circulating : Bool) (n : ℕ) → n < 2 ^ 11
        → n + 16384 * bit_of circulating + 32768 * bit_of more < 2 ^ 16
    word true true n h = omega arith
    word true false n h = omega arith
    word false true n h = omega arith
    word false false n h = omega arith

-- the three parts of the length field
pub length_word-parts : (more circulating : Bool) (n : ℕ) → n < 2 ^ 11
    → let w = n + 16384 * bit_of circulating + 32768 * bit_of more in
    (w % 2048 ≡ n) × ((w / 16384 % 2 == 1) ≡ circulating) × ((w / 32768 == 1) ≡ more)
length_word-parts true true n h = (omega arith, grind (arith, nat_tests), grind (arith, nat_tests))
length_word-parts true false n h = (omega arith, grind (arith, nat_tests), grind (arith, nat_tests))
length_word-parts false true n h = (omega arith, grind (arith, nat_tests), grind (arith, nat_tests))
length_word-parts false false n h = (omega arith, grind (arith, nat_tests), grind (arith, nat_tests))

-- the length field of a datagram's bytes
pub length_field-datagram : (more : Bool) (r : DatagramRecord) (rest : List ℕ) → Fits r
    → length_field (datagram more r ++ rest) ≡ length_word more r
unfolding datagram
length_field-datagram more r rest fits =
    from_le_bytes-to_le_bytes_2 (length_word more r) (length_word-lt more r fits)

-- the data length of a datagram's bytes
pub data_length-datagram : (more : Bool) (r : DatagramRecord) (rest : List ℕ) → Fits r
    → data_length (datagram more r ++ rest) ≡ length r.payload
data_length-datagram more r rest fits = ap (λ n. n % 2048) (length_field-datagram more r rest fits)
    ∙ (length_word-parts more r.circulating (length r.payload) fits.payload).0

-- the more bit of a datagram's bytes
pub says_more-datagram : (more : Bool) (r : DatagramRecord) (rest : List ℕ) → Fits r
    → says_more (datagram more r ++ rest) ≡ more
says_more-datagram more r rest fits = ap (λ n. n / 32768 == 1) (length_field-datagram more r rest fits)
    ∙ (length_word-parts more r.circulating (length r.payload) fits.payload).2

-- a record by its fields
abbrev pub record_with : Command → ℕ → ℕ → Bool → ℕ → List ℕ → ℕ → DatagramRecord
record_with c i a f q p n =
    record { command = c; index = i; address = a; circulating = f; irq = q; payload = p; counter = n }

-- records with the same fields are the same
same_fields : (c c' : Command) (i i' a a' : ℕ) (f f' : Bool) (q q' : ℕ) (p p' : List ℕ) (n n' : ℕ) → c ≡ c'
    → i ≡ i' → a ≡ a' → f ≡ f' → q ≡ q' → p ≡ p' → n ≡ n'
    → record_with c i a f q p n ≡ record_with c' i' a' f' q' p' n'
same_fields c c' i i' a a' f f' q q' p p' n n' e0 e1 e2 e3 e4 e5 e6 = rw (e0, e1, e2, e3, e4, e5, e6) refl

-- a record whose fields are those of another is that one
pub record-same : {c : Command} {i a : ℕ} {f : Bool} {q : ℕ} {p : List ℕ} {n : ℕ} (r : DatagramRecord)
    → c ≡ r.command → i ≡ r.index → a ≡ r.address → f ≡ r.circulating → q ≡ r.irq → p ≡ r.payload
    → n ≡ r.counter → record_with c i a f q p n ≡ r
record-same r e0 e1 e2 e3 e4 e5 e6 = same_fields _ _ _ _ _ _ _ _ _ _ _ _ _ _ e0 e1 e2 e3 e4 e5 e6

-- the bytes of a datagram give its record
pub record_at-datagram : (more : Bool) (r : DatagramRecord) (rest : List ℕ) → Fits r
    → record_at (datagram more r ++ rest) ≡ r
unfolding datagram record_at
record_at-datagram more r rest fits =
    let n : data_length (datagram more r ++ rest) ≡ length r.payload =
    data_length-datagram more r rest fits in
    let tail : drop 10 (datagram more r ++ rest) ≡ r.payload ++ (to_le_bytes w16 r.counter ++ rest) =
    append_assoc r.payload (to_le_bytes w16 r.counter) rest in
    record-same r (command_of-code_of r.command) refl (from_le_bytes-to_le_bytes_4 r.address fits.address)
    (ap (λ m. m / 16384 % 2 == 1) (length_field-datagram more r rest fits)
    ∙ (length_word-parts more r.circulating (length r.payload) fits.payload).1)
    (from_le_bytes-to_le_bytes_2 r.irq fits.irq)
    (rw (n, tail) (take-append_seam r.payload _))
    (rw (n, tail, drop-append_seam r.payload (to_le_bytes w16 r.counter ++ rest))
    (from_le_bytes-to_le_bytes_2 r.counter fits.counter))

-- the code of the command of a code
pub code_of-command_of : (n : ℕ) → n < 15 → code_of (command_of n) ≡ n
unfolding command_of
code_of-command_of zero h = refl
code_of-command_of (suc zero) h = refl
code_of-command_of (suc (suc zero)) h = refl
code_of-command_of (suc (suc (suc zero))) h = refl
code_of-command_of (suc (suc (suc (suc zero)))) h = refl
code_of-command_of (suc (suc (suc (suc (suc zero))))) h = refl
code_of-command_of (suc (suc (suc (suc (suc (suc zero)))))) h = refl
code_of-command_of (suc (suc (suc (suc (suc (suc (suc zero))))))) h = refl
code_of-command_of (suc (suc (suc (suc (suc (suc (suc (suc zero)))))))) h = refl
code_of-command_of (suc (suc (suc (suc (suc (suc (suc (suc (suc zero))))))))) h = refl
code_of-command_of (suc (suc (suc (suc (suc (suc (suc (suc (suc (suc zero)))))))))) h = refl
code_of-command_of (suc (suc (suc (suc (suc (suc (suc (suc (suc (suc (suc zero))))))))))) h = refl
code_of-command_of (suc (suc (suc (suc (suc (suc (suc (suc (suc (suc (suc (suc zero)))))))))))) h = refl
code_of-command_of (suc (suc (suc (suc (suc (suc (suc (suc (suc (suc (suc (suc (suc zero))))))))))))) h = refl
code_of-command_of (suc (suc (suc (suc (suc (suc (suc (suc (suc (suc (suc (suc (suc (suc zero))))))))))))))
    h = refl
code_of-command_of (suc (suc (suc (suc (suc (suc (suc (suc (suc (suc (suc (suc (suc (suc (suc n)))))))))))))))
    h = absurd (omega arith)

-- each element is a byte
abbrev pub AreBytes : List ℕ → Type 0
AreBytes xs = (i : ℕ) → get_or xs i 0 < 256

-- What the tests of a datagram leave: the bytes begin with one that is spelt well.
pub record Passes (bytes : List ℕ) : Type 0 where
  pub command : get_or bytes 0 0 < 15
  pub reserved : length_field bytes / 2048 % 8 ≡ 0
  pub room : 12 + data_length bytes ≤ length bytes

-- the length field is made of its parts
length_word-back : (w n : ℕ) → w < 2 ^ 16 → w / 2048 % 8 ≡ 0 → n ≡ w % 2048
    → n + 16384 * bit_of (w / 16384 % 2 == 1) + 32768 * bit_of (w / 32768 == 1) ≡ w
length_word-back w n h r e = cases (w / 16384 % 2 == 1) (w / 32768 == 1) refl refl
  where
    cases : (a b : Bool) → (w / 16384 % 2 == 1) ≡ a → (w / 32768 == 1) ≡ b
        → n + 16384 * bit_of a + 32768 * bit_of b ≡ w
    cases true true p q = grind (arith, nat_tests)
    cases true false p q = grind (arith, nat_tests)
    cases false true p q = grind (arith, nat_tests)
    cases false false p q = grind (arith, nat_tests)

-- ten elements and the rest
record Ten (xs : List ℕ) : Type 0 where
  x0 : ℕ
  x1 : ℕ
  x2 : ℕ
  x3 : ℕ
  x4 : ℕ
  x5 : ℕ
  x6 : ℕ
  x7 : ℕ
  x8 : ℕ
  x9 : ℕ
  rest : List ℕ
  are : xs ≡ x0 ∷ x1 ∷ x2 ∷ x3 ∷ x4 ∷ x5 ∷ x6 ∷ x7 ∷ x8 ∷ x9 ∷ rest

ten_of : (xs : List ℕ) → 10 ≤ length xs → Ten xs
ten_of [] h = absurd (omega arith)
ten_of (a ∷ []) h = absurd (omega arith)
ten_of (a ∷ b ∷ []) h = absurd (omega arith)
ten_of (a ∷ b ∷ c ∷ []) h = absurd (omega arith)
ten_of (a ∷ b ∷ c ∷ d ∷ []) h = absurd (omega arith)
ten_of (a ∷ b ∷ c ∷ d ∷ e ∷ []) h = absurd (omega arith)
ten_of (a ∷ b ∷ c ∷ d ∷ e ∷ f ∷ []) h = absurd (omega arith)
ten_of (a ∷ b ∷ c ∷ d ∷ e ∷ f ∷ g ∷ []) h = absurd (omega arith)
ten_of (a ∷ b ∷ c ∷ d ∷ e ∷ f ∷ g ∷ i ∷ []) h = absurd (omega arith)
ten_of (a ∷ b ∷ c ∷ d ∷ e ∷ f ∷ g ∷ i ∷ j ∷ []) h = absurd (omega arith)
ten_of (a ∷ b ∷ c ∷ d ∷ e ∷ f ∷ g ∷ i ∷ j ∷ k ∷ xs) h =
    record {
      x0 = a;
      x1 = b;
      x2 = c;
      x3 = d;
      x4 = e;
      x5 = f;
      x6 = g;
      x7 = i;
      x8 = j;
      x9 = k;
      rest = xs;
      are = refl;
    }

-- two bytes of a list give their number's bytes
pub le_bytes_first : (xs : List ℕ) → AreBytes xs → 2 ≤ length xs
    → to_le_bytes w16 (from_le_bytes w16 xs) ≡ take 2 xs
le_bytes_first [] all h = absurd (omega arith)
le_bytes_first (a ∷ []) all h = absurd (omega arith)
le_bytes_first (a ∷ b ∷ xs) all h = le_bytes_2 (a ∷ b ∷ []) _ refl (two (all 0) (all 1)) refl
  where
    two : a < 256 → b < 256 → (i : ℕ) → get_or (a ∷ b ∷ []) i 0 < 256
    two p q zero = p
    two p q (suc zero) = q
    two p q (suc (suc i)) = omega arith

-- what is left of bytes after some of them are bytes
pub AreBytes-drop : (n : ℕ) (xs : List ℕ) → AreBytes xs → AreBytes (drop n xs)
AreBytes-drop n xs all i = rw get_or-drop (all (n + i))

-- lists are the same where their first ten elements and their rests are
same_ten : (a a' b b' c c' d d' e e' f f' g g' h h' i i' j j' : ℕ) (xs xs' : List ℕ) → a ≡ a' → b ≡ b'
    → c ≡ c' → d ≡ d' → e ≡ e' → f ≡ f' → g ≡ g' → h ≡ h' → i ≡ i' → j ≡ j' → xs ≡ xs'
    → a ∷ b ∷ c ∷ d ∷ e ∷ f ∷ g ∷ h ∷ i ∷ j ∷ xs ≡ a' ∷ b' ∷ c' ∷ d' ∷ e' ∷ f' ∷ g' ∷ h' ∷ i' ∷ j' ∷ xs'
same_ten a a' b b' c c' d d' e e' f f' g g' h h' i i' j j' xs xs' p0 p1 p2 p3 p4 p5 p6 p7 p8 p9 p = cc

-- a number's two bytes
low_two : (a b : ℕ) → a < 256 → (a + b * 256) % 256 ≡ a
low_two a b h = omega arith

high_two : (a b : ℕ) → a < 256 → b < 256 → (a + b * 256) / 256 % 256 ≡ b
high_two a b h k = omega arith

-- a list from a part, the two bytes after it, and the rest
part_two_rest : (n : ℕ) (xs : List ℕ) → AreBytes xs → n + 2 ≤ length xs
    → xs ≡ (take n xs ++ to_le_bytes w16 (from_le_bytes w16 (drop n xs))) ++ drop (2 + n) xs
part_two_rest n xs all h =
    let two : 2 ≤ length (drop n xs) = simp length-drop (omega arith) in
    let number : to_le_bytes w16 (from_le_bytes w16 (drop n xs)) ≡ take 2 (drop n xs) =
    le_bytes_first (drop n xs) (AreBytes-drop n xs all) two in
    let rest : drop (2 + n) xs ≡ drop 2 (drop n xs) = ap (λ k. drop k xs) (add_comm 2 n)
    ∙ sym (drop-drop 2 n xs) in
    sym (ap (λ ys. (take n xs ++ ys) ++ drop (2 + n) xs) number
    ∙ append_assoc (take n xs) (take 2 (drop n xs)) (drop (2 + n) xs)
    ∙ ap (λ ys. take n xs ++ (take 2 (drop n xs) ++ ys)) rest
    ∙ ap (λ ys. take n xs ++ ys) (take-append-drop 2 (drop n xs)) ∙ take-append-drop n xs)

-- the tail behind ten elements and some more
drop_ten : (a b c d e f g h i j : ℕ) (xs : List ℕ) (n : ℕ)
    → drop (2 + n) xs ≡ drop (12 + n) (a ∷ b ∷ c ∷ d ∷ e ∷ f ∷ g ∷ h ∷ i ∷ j ∷ xs)
drop_ten a b c d e f g h i j xs n = ap (λ k. drop k (a ∷ b ∷ c ∷ d ∷ e ∷ f ∷ g ∷ h ∷ i ∷ j ∷ xs)) (ten_more n)
  where
    ten_more : (n : ℕ) → suc (suc (suc (suc (suc (suc (suc (suc (suc (suc (2 + n)))))))))) ≡ 12 + n
    ten_more n = omega arith

-- the bytes that pass the tests, from their head's bytes on
spelt_from_ten : (b0 b1 b2 b3 b4 b5 b6 b7 b8 b9 : ℕ) (tail : List ℕ) → let bytes =
    b0 ∷ b1 ∷ b2 ∷ b3 ∷ b4 ∷ b5 ∷ b6 ∷ b7 ∷ b8 ∷ b9 ∷ tail in AreBytes bytes → Passes bytes
    → bytes ≡ datagram (says_more bytes) (record_at bytes) ++ drop (12 + data_length bytes) bytes
unfolding datagram record_at
spelt_from_ten b0 b1 b2 b3 b4 b5 b6 b7 b8 b9 tail all ok =
    let bytes = b0 ∷ b1 ∷ b2 ∷ b3 ∷ b4 ∷ b5 ∷ b6 ∷ b7 ∷ b8 ∷ b9 ∷ tail in
    let n = data_length bytes in
    let w = b6 + b7 * 256 in
    let k6 : b6 < 256 = all 6 in
    let k7 : b7 < 256 = all 7 in
    let size : length (take n tail) ≡ w % 2048 = length-take-le n tail (omega (arith, ok.room)) in
    let word : length (take n tail) + 16384 * bit_of (w / 16384 % 2 == 1) + 32768 * bit_of (w / 32768 == 1)
    ≡ w = length_word-back w (length (take n tail)) (omega arith) ok.reserved size in
    rw (← drop_ten b0 b1 b2 b3 b4 b5 b6 b7 b8 b9 tail n) (same_ten _ _ _ _ _ _ _ _ _ _ _ _ _ _ _ _ _ _ _ _ _ _
    (sym (code_of-command_of b0 ok.command)) refl
    (let k2 : b2 < 256 = all 2 in omega arith)
    (let k2 : b2 < 256 = all 2 in let k3 : b3 < 256 = all 3 in omega arith)
    (let k2 : b2 < 256 = all 2 in let k3 : b3 < 256 = all 3 in let k4 : b4 < 256 = all 4 in omega arith)
    (let k2 : b2 < 256 = all 2 in let k3 : b3 < 256 = all 3 in let k4 : b4 < 256 = all 4 in
    let k5 : b5 < 256 = all 5 in omega arith)
    (sym (ap (λ m. m % 256) word ∙ low_two b6 b7 k6))
    (sym (ap (λ m. m / 256 % 256) word ∙ high_two b6 b7 k6 k7))
    (sym (low_two b8 b9 (all 8))) (sym (high_two b8 b9 (all 8) (all 9)))
    (part_two_rest n tail (λ i. AreBytes-drop 10 bytes all i) (omega (arith, ok.room))))

-- the same of any bytes that are ten and a rest
spelt_from : (bytes : List ℕ) → Ten bytes → AreBytes bytes → Passes bytes
    → bytes ≡ datagram (says_more bytes) (record_at bytes) ++ drop (12 + data_length bytes) bytes
spelt_from bytes ten =
    let P : List ℕ → Type 0 = λ xs. AreBytes xs → Passes xs
    → xs ≡ datagram (says_more xs) (record_at xs) ++ drop (12 + data_length xs) xs in
    subst P (sym ten.are)
    (λ a o. spelt_from_ten ten.x0 ten.x1 ten.x2 ten.x3 ten.x4 ten.x5 ten.x6 ten.x7 ten.x8 ten.x9 ten.rest a
    o)

-- bytes that pass the tests begin with the spelling of their record
pub datagram-record_at : (bytes : List ℕ) → AreBytes bytes → Passes bytes
    → bytes ≡ datagram (says_more bytes) (record_at bytes) ++ drop (12 + data_length bytes) bytes
datagram-record_at bytes all ok = spelt_from bytes (ten_of bytes (omega (arith, ok.room))) all ok

-- the record of bytes that pass the tests fits its fields
pub Fits-record_at : (bytes : List ℕ) → AreBytes bytes → Passes bytes → Fits (record_at bytes)
unfolding record_at
Fits-record_at bytes all ok =
    let from2 = AreBytes-drop 2 bytes all in
    let from8 = AreBytes-drop 8 bytes all in
    let behind = AreBytes-drop (data_length bytes) (drop 10 bytes) (AreBytes-drop 10 bytes all) in
    record {
      index = all 1;
      address = omega (arith, from2 0, from2 1, from2 2, from2 3);
      irq = omega (arith, from8 0, from8 1);
      payload = simp length-take (omega arith);
      counter = omega (arith, behind 0, behind 1);
    }

-- a code is below 15
pub code_of-lt : (c : Command) → code_of c < 15
code_of-lt Nop = lit< tt
code_of-lt Aprd = lit< tt
code_of-lt Apwr = lit< tt
code_of-lt Aprw = lit< tt
code_of-lt Fprd = lit< tt
code_of-lt Fpwr = lit< tt
code_of-lt Fprw = lit< tt
code_of-lt Brd = lit< tt
code_of-lt Bwr = lit< tt
code_of-lt Brw = lit< tt
code_of-lt Lrd = lit< tt
code_of-lt Lwr = lit< tt
code_of-lt Lrw = lit< tt
code_of-lt Armw = lit< tt
code_of-lt Frmw = lit< tt
