-- Numbers that are written in digits are read back.
use Rattle.std.proofs.Common.{◌≡◌, ℕ, zero, suc, ◌+◌, ◌*◌, ◌-◌, ◌<◌, ◌≤◌, ◌^◌, false, List, []}
use Rattle.std.proofs.Common.{◌∷◌, ◌++◌, replicate, length, Ok, Err, Some, refl, ap, sym, subst, ◌∙◌, arith}
use Rattle.std.proofs.Common.{codes, cond, drop, eqb, length-append, lit<, lit≤}
use Rattle.std.proofs.lemmas.Bool.Decides.{nat_tests}
use Rattle.std.proofs.lemmas.List.{append-nil}
use Rattle.std.proofs.lemmas.Fmt.{decimal_is_IsNumeral, digits_is_IsNumeral}
use Rattle.std.proofs.Math.Nat.{mul-le-mul_left}
use Rattle.std.specs.Char.{digit_value}
use Rattle.std.specs.Fmt.{decimal, digits, padded_integral, char_count}
use Rattle.std.specs.Str.Parse.{AllDigits, digits_value_after}
use Rattle.ecat_scene.specs.declared.fault.LineFault.TheVariants.{BadNumber}
use Rattle.ecat_scene.specs.Lines.{hexadecimal}
use Rattle.ecat_scene.specs.Numbers.{after_digits, digit_of, is_hexadecimal, number_of, row_number}
use Rattle.ecat_scene.specs.Numbers.{then_digits, with_digit}

-- a digit of a base up to 16 is a hexadecimal one
pub digit-is : (base c : ℕ) → base ≤ 16 → digit_value c < base → digit_of c ≡ Some (digit_value c)
digit-is base c low h = grind (arith, nat_tests)

-- a digit more makes a number no smaller
pub grows : (b v d : ℕ) → 0 < b → v ≤ v * b + d
grows b v d some = omega (arith, mul-le-mul_left v some)

-- nor do digits
pub value-grows : (b v : ℕ) (ds : List ℕ) → 0 < b → v ≤ digits_value_after b v ds
value-grows b v [] some = omega arith
value-grows b v (c ∷ cs) some =
    omega (arith, grows b v (digit_value c) some, value-grows b (v * b + digit_value c) cs some)

-- one digit that fits
pub step : (b v c : ℕ) → b ≤ 16 → digit_value c < b → v * b + digit_value c < 2 ^ 64
    → with_digit b v (digit_of c) ≡ Ok (v * b + digit_value c)
step b v c low h small =
    ap (with_digit b v) (digit-is b c low h) ∙ grind (arith, nat_tests)

-- digits that fit
pub value-row : (b v : ℕ) (ds : List ℕ) → 0 < b → b ≤ 16 → AllDigits b ds → digits_value_after b v ds < 2 ^ 64
    → after_digits b ds v ≡ Ok (digits_value_after b v ds)
value-row b v [] some low all small = refl
value-row b v (c ∷ cs) some low all small =
    ap (then_digits (after_digits b cs))
    (step b v c low all.0 (omega (arith, value-grows b (v * b + digit_value c) cs some)))
    ∙ value-row b (v * b + digit_value c) cs some low all.1 small

-- ---- zeros in front

pub pad-all : (b k : ℕ) (ds : List ℕ) → 0 < b → AllDigits b ds → AllDigits b (replicate k 48 ++ ds)
pad-all b zero ds some all = all
pad-all b (suc k) ds some all = (some, pad-all b k ds some all)

pub pad-value : (b k : ℕ) (ds : List ℕ)
    → digits_value_after b 0 (replicate k 48 ++ ds) ≡ digits_value_after b 0 ds
pad-value b zero ds = refl
pad-value b (suc k) ds =
    let still : 0 * b + 0 ≡ 0 = omega arith in
    ap (λ v. digits_value_after b v (replicate k 48 ++ ds)) still ∙ pad-value b k ds

pub pad-some : (k : ℕ) (ds : List ℕ) → 0 < length ds → 0 < length (replicate k 48 ++ ds)
pad-some k ds some = omega (arith, length-append (replicate k 48) ds)

-- a number with a width is its digits behind zeros
pub padded : (w n : ℕ)
    → hexadecimal w n ≡ replicate (w - length (digits 16 false n)) 48 ++ digits 16 false n
unfolding padded_integral char_count
padded w n =
    let ds = digits 16 false n in
    let zeros : w - length ds - 0 - 0 ≡ w - length ds = omega arith in
    ap (λ k. replicate k 48 ++ (ds ++ [])) zeros ∙ ap (λ row. replicate (w - length ds) 48 ++ row) (append-nil ds)

-- ---- words

pub row-back : (b : ℕ) (row : List ℕ) (n : ℕ) → 0 < b → b ≤ 16 → 0 < length row → AllDigits b row
    → digits_value_after b 0 row ≡ n → n < 2 ^ 64 → row_number b row ≡ Ok n
row-back b [] n some low full all is small = absurd (omega arith)
row-back b (c ∷ cs) n some low full all is small =
    let filled : eqb (length (c ∷ cs)) 0 ≡ false = grind (arith, nat_tests) in
    ap (λ t. cond t (Err BadNumber) (after_digits b (c ∷ cs) 0)) filled
    ∙ value-row b 0 (c ∷ cs) some low all (subst (λ v. v < 2 ^ 64) (sym is) small) ∙ ap Ok is

pub not-hex : (ds : List ℕ) → AllDigits 10 ds → is_hexadecimal ds ≡ false
not-hex [] all = refl
not-hex (c ∷ []) all = grind (arith, nat_tests)
not-hex (c ∷ d ∷ ds) all = let below = all.1.0 in grind (arith, nat_tests)

pub decimal-back : (n : ℕ) → n < 2 ^ 64 → number_of (decimal n) ≡ Ok n
decimal-back n small =
    let numeral = decimal_is_IsNumeral n small in
    ap (λ b. cond b (row_number 16 (drop 2 (decimal n))) (row_number 10 (decimal n)))
    (not-hex (decimal n) numeral.0.1)
    ∙ row-back 10 (decimal n) n (lit< tt) (lit≤ tt) numeral.0.0 numeral.0.1 numeral.1 small

pub hexadecimal-back : (w n : ℕ) → n < 2 ^ 64 → number_of (codes "0x" ++ hexadecimal w n) ≡ Ok n
hexadecimal-back w n small =
    let ds = digits 16 false n in
    let k = w - length ds in
    let numeral = digits_is_IsNumeral 16 false (lit≤ tt) (lit≤ tt) n (wide n small) in
    ap (row_number 16) (padded w n)
    ∙ row-back 16 (replicate k 48 ++ ds) n (lit< tt) (lit≤ tt) (pad-some k ds numeral.0.0)
    (pad-all 16 k ds (lit< tt) numeral.0.1) (pad-value 16 k ds ∙ numeral.1) small
  where
    wide : (m : ℕ) → m < 2 ^ 64 → m < 16 ^ 64
    wide m h = omega (arith, h)
