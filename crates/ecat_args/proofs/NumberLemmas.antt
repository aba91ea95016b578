-- What std's reading of a number says in the words of the specification.
use Rattle.std.proofs.Common.{ℕ, ◌≡◌, ◌∙◌, ◌<◌, ◌≤◌, ◌^◌, ◌≢◌, Bool, true, false, cond, List, [], ◌∷◌, length}
use Rattle.std.proofs.Common.{drop, Some, None, Result, Ok, Err, IfSome, refl, sym, ap, arith, nat_lt}
use Rattle.std.proofs.Common.{slice_index, lt-ltb, ltb-true, subst}
use Rattle.std.proofs.lemmas.Bool.{and_parts, ne_eqb, le-leb, lt-leb}
use Rattle.std.proofs.Math.Dec.{leb-zero}
use Rattle.std.proofs.Math.Nat.{pow-le-pow_right}
use Rattle.std.proofs.lemmas.Int.Digits.{digits_value-lt}
use Rattle.std.specs.Result.{result_ok}
use Rattle.std.specs.List.{list_all}
use Rattle.std.specs.Char.{digit_value}
use Rattle.std.specs.Str.Parse.{AllDigits, IsNumeral, ParsesUnsigned, digits_value, without_leading_plus}
use Rattle.ecat_args.specs.Number.{is_numeral, numeral, within}

-- digits in std's words are digits by the test
AllDigits-test : (radix : ℕ) (digits : List ℕ) → AllDigits radix digits
    → list_all (λ c. nat_lt (digit_value c) radix) digits ≡ true
AllDigits-test radix [] h = refl
AllDigits-test radix (d ∷ ds) h = rw (lt-ltb (digit_value d) radix h.0) (AllDigits-test radix ds h.1)

-- and the other way
test-AllDigits : (radix : ℕ) (digits : List ℕ) → list_all (λ c. nat_lt (digit_value c) radix) digits ≡ true
    → AllDigits radix digits
test-AllDigits radix [] h = tt
test-AllDigits radix (d ∷ ds) h =
    let parts = and_parts (nat_lt (digit_value d) radix) _ h in
    (ltb-true (digit_value d) radix parts.0, test-AllDigits radix ds parts.1)

-- a numeral in std's words passes the test
IsNumeral-test : (radix : ℕ) (digits : List ℕ) → IsNumeral radix digits → is_numeral radix digits ≡ true
IsNumeral-test radix digits h = rw (lt-ltb 0 (length digits) h.0) (AllDigits-test radix digits h.1)

-- and the other way
test-IsNumeral : (radix : ℕ) (digits : List ℕ) → is_numeral radix digits ≡ true → IsNumeral radix digits
test-IsNumeral radix digits h =
    let parts = and_parts (nat_lt 0 (length digits)) _ h in
    (ltb-true 0 (length digits) parts.0, test-AllDigits radix digits parts.1)

-- a text with no plus before it is read as it stands
without_plus : (digits : List ℕ) → slice_index digits 0 ≢ 43 → without_leading_plus digits ≡ digits
without_plus digits h = ap (λ b. drop (cond b 1 0) digits) (ne_eqb _ _ h)

-- a number up to the limit is within it
within-some : (n : ℕ) → n ≤ 0xffff_ffff → within 0 0xffff_ffff (Some n) ≡ Some n
within-some n h = rw (leb-zero n, le-leb n 0xffff_ffff h) refl

-- a number past the limit is not
within-none : (n : ℕ) → 0xffff_ffff < n → within 0 0xffff_ffff (Some n) ≡ None
within-none n h = rw (leb-zero n, lt-leb n 0xffff_ffff h) refl

-- what std reads of a text with no plus before it
pub result_ok-parsed : {E : Type 0} (radix : ℕ) (digits : List ℕ) (r : Result ℕ E) → slice_index digits 0 ≢ 43
    → ParsesUnsigned 32 radix digits r
    → result_ok r ≡ within 0 0xffff_ffff (numeral radix digits)
result_ok-parsed radix digits (Ok n) plain parsed =
    let same = without_plus digits plain in
    let is_one : IsNumeral radix digits = subst (λ (ds : List ℕ). IsNumeral radix ds) same parsed.0.0 in
    let value : n ≡ digits_value radix digits = parsed.1 ∙ ap (digits_value radix) same in
    let fits : digits_value radix digits < 2 ^ 32 =
    subst (λ (ds : List ℕ). digits_value radix ds < 2 ^ 32) same parsed.0.1 in
    ap Some value ∙ sym (within-some (digits_value radix digits) (omega arith))
    ∙ ap (λ b. within 0 0xffff_ffff (cond b (Some (digits_value radix digits)) None))
    (sym (IsNumeral-test radix digits is_one))
result_ok-parsed radix digits (Err e) plain parsed = go (is_numeral radix digits) refl
  where
    go : (b : Bool) → is_numeral radix digits ≡ b
        → None ≡ within 0 0xffff_ffff (cond b (Some (digits_value radix digits)) None)
    go false _ = refl
    go true passes =
        let refused : ¬ (IsNumeral radix digits × (digits_value radix digits < 2 ^ 32)) =
        subst (λ (ds : List ℕ). ¬ (IsNumeral radix ds × (digits_value radix ds < 2 ^ 32)))
        (without_plus digits plain) parsed in
        let past : digits_value radix digits < 2 ^ 32
        → ⊥ = λ small. refused (test-IsNumeral radix digits passes, small) in
        sym (within-none (digits_value radix digits) (omega arith))

-- up to eight hexadecimal digits fit 32 bits
pub within-short : (digits : List ℕ) → length digits ≤ 8
    → within 0 0xffff_ffff (numeral 16 digits) ≡ numeral 16 digits
within-short digits short = go (is_numeral 16 digits) refl
  where
    go : (b : Bool) → is_numeral 16 digits ≡ b
        → within 0 0xffff_ffff (cond b (Some (digits_value 16 digits)) None)
        ≡ cond b (Some (digits_value 16 digits)) None
    go true passes =
        let value = digits_value-lt 16 digits (test-IsNumeral 16 digits passes).1 in
        let most : 16 ^ length digits ≤ 16 ^ 8 = pow-le-pow_right (omega arith) short in
        within-some (digits_value 16 digits) (omega arith)
    go false _ = refl

-- the number is below the power of the radix that its digits give
pub numeral-small : (radix : ℕ) (digits : List ℕ)
    → IfSome (numeral radix digits) (λ n. n < radix ^ length digits)
numeral-small radix digits = go (is_numeral radix digits) refl
  where
    go : (b : Bool) → is_numeral radix digits ≡ b
        → IfSome (cond b (Some (digits_value radix digits)) None) (λ n. n < radix ^ length digits)
    go true passes = digits_value-lt radix digits (test-IsNumeral radix digits passes).1
    go false _ = tt
