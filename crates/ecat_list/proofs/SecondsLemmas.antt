-- The digits behind a point are those behind the one of a power of ten and a number below it.
use Rattle.std.proofs.Common.{◌≡◌, ℕ, ◌+◌, ◌*◌, ◌/◌, ◌%◌, ◌^◌, ◌<◌, ◌≤◌, suc, zero, refl, sym, ap, ap₂, ◌∙◌}
use Rattle.std.proofs.Common.{List, [], ◌∷◌, ◌++◌, length, drop, set, decimal, arith, true, false}
use Rattle.std.proofs.Math.Nat.{pow-succ', mul_assoc, mul_comm}
use Rattle.std.proofs.lemmas.List.{drop-append-le, drop-drop, drop-set}
use Rattle.std.proofs.lemmas.Fmt.{decimal_step, decimal_digit, decimal_nonempty}
use Rattle.ecat_list.specs.Seconds.{last_digits, fraction_words}

-- a power of ten more, and a digit more behind it
one_more : (p m : ℕ) → 1 ≤ p → 10 * p + m < 2 ^ 64
    → drop 1 (decimal (10 * p + m)) ≡ drop 1 (decimal (p + m / 10)) ++ decimal (m % 10)
one_more p m some fits =
    let tenth : (10 * p + m) / 10 ≡ p + m / 10 = omega arith in
    let last : (10 * p + m) % 10 ≡ m % 10 = omega arith in
    let small : p + m / 10 < 2 ^ 64 = omega (arith, fits) in
    let whole : decimal (10 * p + m) ≡ decimal (p + m / 10) ++ decimal (m % 10) =
    decimal_step (10 * p + m) (omega (arith, some)) fits
    ∙ ap₂ (λ n d. decimal n ++ (48 + d) ∷ []) tenth last
    ∙ ap (λ ds. decimal (p + m / 10) ++ ds) (sym (decimal_digit (m % 10) (omega arith))) in
    ap (drop 1) whole
    ∙ drop-append-le 1 (decimal (p + m / 10)) (decimal (m % 10)) (decimal_nonempty (p + m / 10) small)

-- the digits behind the one of a power of ten
behind_one : (w p m : ℕ) → p ≡ 10 ^ w → m < p → p + m < 2 ^ 64 → drop 1 (decimal (p + m)) ≡ last_digits w m
behind_one zero p m is below fits =
    let one : p + m ≡ 1 = omega (arith, is, below) in
    ap (λ n. drop 1 (decimal n)) one ∙ ap (drop 1) (decimal_digit 1 (omega arith))
behind_one (suc w) p m is below fits =
    let q = 10 ^ w in
    let ten : p ≡ 10 * q = is ∙ pow-succ' 10 w in
    let some : 1 ≤ q = omega (arith, ten, below) in
    ap (λ n. drop 1 (decimal (n + m))) ten
    ∙ one_more q m some (omega (arith, ten, fits))
    ∙ ap (λ ds. ds ++ decimal (m % 10))
    (behind_one w q (m / 10) refl (omega (arith, ten, below)) (omega (arith, ten, fits)))

-- what is left of a number at a power of ten has its last digits
last_of_rest : (w m k : ℕ) → last_digits w (m + k * 10 ^ w) ≡ last_digits w m
last_of_rest zero m k = refl
last_of_rest (suc w) m k =
    let r = k * 10 ^ w in
    let ten : k * 10 ^ suc w ≡ 10 * r =
    ap (λ p. k * p) (pow-succ' 10 w) ∙ sym (mul_assoc k 10 (10 ^ w)) ∙ ap (λ n. n * 10 ^ w) (mul_comm k 10)
    ∙ mul_assoc 10 k (10 ^ w) in
    let tenth : (m + k * 10 ^ suc w) / 10 ≡ m / 10 + r = omega (arith, ten) in
    let last : (m + k * 10 ^ suc w) % 10 ≡ m % 10 = omega (arith, ten) in
    ap₂ (λ n d. last_digits w n ++ decimal d) tenth last
    ∙ ap (λ ds. ds ++ decimal (m % 10)) (last_of_rest w (m / 10) k)

-- nine digits, and six, from nanoseconds
pub nine_behind : (n : ℕ) → drop 1 (decimal (1000000000 + n % 1000000000)) ≡ fraction_words n true
nine_behind n =
    let whole : n % 1000000000 + n / 1000000000 * 10 ^ 9 ≡ n = omega arith in
    behind_one 9 1000000000 (n % 1000000000) refl (omega arith) (omega arith)
    ∙ sym (last_of_rest 9 (n % 1000000000) (n / 1000000000)) ∙ ap (last_digits 9) whole

pub six_behind : (n : ℕ) → drop 1 (decimal (1000000 + n % 1000000000 / 1000)) ≡ fraction_words n false
six_behind n =
    let behind = n % 1000000000 / 1000 in
    let whole : behind + n / 1000000000 * 10 ^ 6 ≡ n / 1000 = omega arith in
    behind_one 6 1000000 behind refl (omega arith) (omega arith)
    ∙ sym (last_of_rest 6 behind (n / 1000000000)) ∙ ap (last_digits 6) whole

-- a byte that takes the place of the first of some
pub over_first : (xs ds old : List ℕ) (from y : ℕ) → from < length xs → 0 < length ds → drop from xs ≡ ds ++ old
    → drop from (set xs from y) ≡ y ∷ (drop 1 ds ++ old)
over_first xs ds old from y inside some stand =
    drop-set xs from y inside
    ∙ ap (λ r. y ∷ r)
    (sym (drop-drop 1 from xs) ∙ ap (drop 1) stand ∙ drop-append-le 1 ds old some)
