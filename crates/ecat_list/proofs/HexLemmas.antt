-- Sixteen bytes, spelt lane by lane, and the digits of bytes that stand one behind the other.
use Rattle.std.proofs.Common.{◌≡◌, ℕ, ◌+◌, ◌*◌, ◌/◌, ◌%◌, ◌^◌, ◌<◌, eqb, ltb, true, cond}
use Rattle.std.proofs.Common.{List, [], ◌∷◌, ◌++◌, map, length, replicate, take, drop, set, get_or, Fits, w8}
use Rattle.std.proofs.Common.{◌≤◌, ◌-◌, suc, zero, refl, sym, ap, ap₂, ◌∙◌, subst, arith, bit_and}
use Rattle.std.proofs.lemmas.List.{append_assoc, take_at, drop_at, take_more, take_more_set, take-take, take_all, length-set}
use Rattle.std.proofs.lemmas.List.{take-append-le, take-append-drop, drop-append-le, drop-drop, length-take-le, length-append}
use Rattle.std.proofs.lemmas.Bool.{agree_below_at, eqb-true}
use Rattle.std.proofs.lemmas.Simd.{pick_l_whole}
use Rattle.std.specs.Int.Digits.{AllBelowBase}
use lib.Lanes.{zip2, sel_l, top, pick_l, Each1}
use Rattle.ecat_list.specs.Digits.{digit, hex}

-- what an operation of lanes of eight bits gives at two of them
abbrev add : ℕ → ℕ → ℕ
add a b = (a + b) % 256

abbrev less : ℕ → ℕ → ℕ
less a b = cond (ltb a b) 255 0

abbrev right : ℕ → ℕ → ℕ
right a b = a / 2 ^ b

-- a number below 16, and what stands before the digits of its kind
abbrev lane : ℕ → ℕ
lane n = add n (cond (top 7 (less n 10)) 48 87)

lane_is : (n : ℕ) → n < 16 → lane n ≡ digit n
lane_is n h = eqb-true _ _ (agree_below_at (λ x. eqb (lane x) (digit x)) (λ _. true) 16 n refl h)

lanes_are : (ns : List ℕ) → AllBelowBase 16 ns
    → zip2 add ns (sel_l (map (top 7) (zip2 less ns (replicate (length ns) 10)))
    (replicate (length ns) 48) (replicate (length ns) 87)) ≡ map digit ns
lanes_are [] h = refl
lanes_are (n ∷ ns) h = ap₂ (λ d ds. d ∷ ds) (lane_is n h.0) (lanes_are ns h.1)

-- sixteen numbers below 16, each as its digit
pub sixteen_digits : (ns : List ℕ) → length ns ≡ 16 → AllBelowBase 16 ns
    → zip2 add ns (sel_l (map (top 7) (zip2 less ns (replicate 16 10))) (replicate 16 48) (replicate 16 87))
    ≡ map digit ns
sixteen_digits ns size h =
    subst (λ k. zip2 add ns (sel_l (map (top 7) (zip2 less ns (replicate k 10)))
    (replicate k 48) (replicate k 87)) ≡ map digit ns) size (lanes_are ns h)

-- ---- the halves of bytes

abbrev pub high : ℕ → ℕ
high b = b / 16

abbrev pub low : ℕ → ℕ
low b = b % 16

highs_are : (bs : List ℕ) → zip2 right bs (replicate (length bs) 4) ≡ map high bs
highs_are [] = refl
highs_are (b ∷ bs) = ap (λ r. high b ∷ r) (highs_are bs)

lows_are : (bs : List ℕ) → Each1 (Fits w8) bs → zip2 bit_and bs (replicate (length bs) 15) ≡ map low bs
lows_are [] h = refl
lows_are (b ∷ bs) h = ap₂ (λ d ds. d ∷ ds)
    (eqb-true _ _ (agree_below_at (λ x. eqb (bit_and x 15) (low x)) (λ _. true) 256 b refl h.0.fits))
    (lows_are bs h.1)

highs_below : (bs : List ℕ) → Each1 (Fits w8) bs → AllBelowBase 16 (map high bs)
highs_below [] h = tt
highs_below (b ∷ bs) h = (omega (arith, h.0.fits), highs_below bs h.1)

lows_below : (bs : List ℕ) → AllBelowBase 16 (map low bs)
lows_below [] = tt
lows_below (b ∷ bs) = (omega arith, lows_below bs)

-- ---- sixteen of them

module _ (bs : List ℕ) (size : length bs ≡ 16) (fits : Each1 (Fits w8) bs) where
  sixteen_highs : zip2 right bs (replicate 16 4) ≡ map high bs
  sixteen_highs = subst (λ k. zip2 right bs (replicate k 4) ≡ map high bs) size (highs_are bs)

  sixteen_lows : zip2 bit_and bs (replicate 16 15) ≡ map low bs
  sixteen_lows = subst (λ k. zip2 bit_and bs (replicate k 15) ≡ map low bs) size (lows_are bs fits)

  pub sixteen_highs_below : AllBelowBase 16 (zip2 right bs (replicate 16 4))
  sixteen_highs_below = subst (AllBelowBase 16) (sym sixteen_highs) (highs_below bs fits)

  pub sixteen_lows_below : AllBelowBase 16 (zip2 bit_and bs (replicate 16 15))
  sixteen_lows_below = subst (AllBelowBase 16) (sym sixteen_lows) (lows_below bs)

  -- the digits of the halves, one of each in turn
  abbrev woven : List ℕ → List ℕ → List ℕ
  woven highs lows = pick_l 0 (highs ++ lows)
      (0 ∷ 16 ∷ 1 ∷ 17 ∷ 2 ∷ 18 ∷ 3 ∷ 19 ∷ 4 ∷ 20 ∷ 5 ∷ 21 ∷ 6 ∷ 22 ∷ 7 ∷ 23
      ∷ 8 ∷ 24 ∷ 9 ∷ 25 ∷ 10 ∷ 26 ∷ 11 ∷ 27 ∷ 12 ∷ 28 ∷ 13 ∷ 29 ∷ 14 ∷ 30 ∷ 15 ∷ 31 ∷ [])

  abbrev in_turn : List ℕ → Type 0
  in_turn xs = woven (map digit (map high xs)) (map digit (map low xs)) ≡ hex xs

  pub sixteen_in_turn : (highs lows : List ℕ) → highs ≡ map digit (zip2 right bs (replicate 16 4))
      → lows ≡ map digit (zip2 bit_and bs (replicate 16 15)) → woven highs lows ≡ hex bs
  sixteen_in_turn highs lows h l =
      ap₂ woven (h ∙ ap (map digit) sixteen_highs) (l ∙ ap (map digit) sixteen_lows)
      ∙ subst in_turn (pick_l_whole 0 bs 16 size) refl

-- ---- bytes that stand one behind the other

pub hex-append : (xs ys : List ℕ) → hex (xs ++ ys) ≡ hex xs ++ hex ys
hex-append [] ys = refl
hex-append (x ∷ xs) ys = ap (λ ds. digit (x / 16) ∷ digit (x % 16) ∷ ds) (hex-append xs ys)

pub length-hex : (xs : List ℕ) → length (hex xs) ≡ 2 * length xs
length-hex [] = refl
length-hex (x ∷ xs) = omega (arith, length-hex xs)

-- one byte more
pub spelt_more : (bs ds : List ℕ) (k : ℕ) → k < length bs → 2 * length bs ≤ length ds
    → take (2 * k) ds ≡ hex (take k bs)
    → take (2 * (k + 1)) (set (set ds (2 * k) (digit (get_or bs k 0 / 16))) (2 * k + 1) (digit (get_or bs k 0 % 16)))
    ≡ hex (take (k + 1) bs)
spelt_more bs ds k inside room before =
    let h = digit (get_or bs k 0 / 16) in
    let l = digit (get_or bs k 0 % 16) in
    let two : 2 * (k + 1) ≡ 2 * k + 1 + 1 = omega arith in
    ap (λ n. take n (set (set ds (2 * k) h) (2 * k + 1) l)) two
    ∙ take_more_set (set ds (2 * k) h) (2 * k + 1) l (omega (arith, length-set ds (2 * k) h))
    ∙ ap (λ xs. xs ++ l ∷ []) (take_more_set ds (2 * k) h (omega arith) ∙ ap (λ xs. xs ++ h ∷ []) before)
    ∙ append_assoc (hex (take k bs)) (h ∷ []) (l ∷ [])
    ∙ sym (ap hex (take_more bs k 0 inside) ∙ hex-append (take k bs) (get_or bs k 0 ∷ []))

-- what is written in two pieces
pub two_pieces : (xs first last : List ℕ) (at : ℕ) → at + 32 ≤ length xs → length first ≡ 16
    → take (at + 16) (take at xs ++ (first ++ drop (at + 16) xs))
    ++ (last ++ drop (at + 16 + 16) (take at xs ++ (first ++ drop (at + 16) xs)))
    ≡ take at xs ++ ((first ++ last) ++ drop (at + 32) xs)
two_pieces xs first last at room size =
    let front = take at xs ++ first in
    let rest = drop (at + 16) xs in
    let same : take at xs ++ (first ++ rest) ≡ front ++ rest = sym (append_assoc (take at xs) first rest) in
    let long : length front ≡ at + 16 =
    length-append (take at xs) first ∙ omega (arith, size, length-take-le at xs (omega arith)) in
    let behind : drop (at + 16 + 16) (front ++ rest) ≡ drop (at + 32) xs =
    sym (drop-drop 16 (at + 16) (front ++ rest)) ∙ ap (drop 16) (drop_at front rest (at + 16) long)
    ∙ drop-drop 16 (at + 16) xs ∙ ap (λ n. drop n xs) (omega arith) in
    ap₂ (λ a b. a ++ (last ++ b)) (ap (take (at + 16)) same ∙ take_at front rest (at + 16) long)
    (ap (drop (at + 16 + 16)) same ∙ behind)
    ∙ append_assoc (take at xs) first (last ++ drop (at + 32) xs)
    ∙ ap (λ r. take at xs ++ r) (sym (append_assoc first last (drop (at + 32) xs)))

pub two_puts : (xs once twice first last : List ℕ) (at : ℕ) → at + 32 ≤ length xs
    → length first ≡ 16 → length last ≡ 16
    → once ≡ take at xs ++ (first ++ drop (at + length first) xs)
    → twice ≡ take (at + 16) once ++ (last ++ drop (at + 16 + length last) once)
    → twice ≡ take at xs ++ ((first ++ last) ++ drop (at + 32) xs)
two_puts xs once twice first last at room size sizes p q =
    q ∙ ap (λ n. take (at + 16) once ++ (last ++ drop (at + 16 + n) once)) sizes
    ∙ ap (λ ys. take (at + 16) ys ++ (last ++ drop (at + 16 + 16) ys))
    (p ∙ ap (λ n. take at xs ++ (first ++ drop (at + n) xs)) size)
    ∙ two_pieces xs first last at room size

take-hex : (j : ℕ) (xs : List ℕ) → take (2 * j) (hex xs) ≡ hex (take j xs)
take-hex zero xs = refl
take-hex (suc j) [] = take_all (2 * suc j) [] (omega arith)
take-hex (suc j) (x ∷ xs) =
    let two : 2 * suc j ≡ suc (suc (2 * j)) = omega arith in
    ap (λ n. take n (hex (x ∷ xs))) two ∙ ap (λ r. digit (x / 16) ∷ digit (x % 16) ∷ r) (take-hex j xs)

take_and_on : (j w : ℕ) (xs : List ℕ) → take j xs ++ take w (drop j xs) ≡ take (j + w) xs
take_and_on zero w xs = ap (λ n. take n xs) (omega arith)
take_and_on (suc j) w [] = take_all w [] (omega arith) ∙ sym (take_all (suc j + w) [] (omega arith))
take_and_on (suc j) w (x ∷ xs) =
    let sum : suc (j + w) ≡ suc j + w = omega arith in
    ap (λ r. x ∷ r) (take_and_on j w xs) ∙ ap (λ n. take n (x ∷ xs)) sum

drop_of_front : (f n : ℕ) (xs : List ℕ) → drop f (take (f + n) xs) ≡ take n (drop f xs)
drop_of_front zero n xs = ap (λ k. take k xs) (omega arith)
drop_of_front (suc f) n [] = ap (drop (suc f)) (take_all (suc f + n) [] (omega arith)) ∙ sym (take_all n [] (omega arith))
drop_of_front (suc f) n (x ∷ xs) =
    let sum : suc f + n ≡ suc (f + n) = omega arith in
    ap (λ k. drop (suc f) (take k (x ∷ xs))) sum ∙ drop_of_front f n xs

pub hex_and_on : (j w : ℕ) (xs : List ℕ) → hex (take j xs) ++ hex (take w (drop j xs)) ≡ hex (take (j + w) xs)
hex_and_on j w xs = sym (hex-append (take j xs) (take w (drop j xs))) ∙ ap hex (take_and_on j w xs)

pub hex_and_rest : (j : ℕ) (xs : List ℕ) → hex (take j xs) ++ hex (drop j xs) ≡ hex xs
hex_and_rest j xs = sym (hex-append (take j xs) (drop j xs)) ∙ ap hex (take-append-drop j xs)

-- ---- the digits of bytes from the place `from` on, of which those of the first m bytes stand there

module _ (from m : ℕ) (bs old now : List ℕ) (some : m ≤ length bs)
    (stand : drop from now ≡ hex (take m bs) ++ drop (from + 2 * m) old) where
  long : length (hex (take m bs)) ≡ 2 * m
  long = length-hex (take m bs) ∙ ap (λ n. 2 * n) (length-take-le m bs some)

  front : (j : ℕ) → j ≤ m → take (2 * j) (drop from now) ≡ hex (take j bs)
  front j within =
      ap (take (2 * j)) stand
      ∙ take-append-le (2 * j) (hex (take m bs)) (drop (from + 2 * m) old) (omega (arith, long))
      ∙ take-hex j (take m bs) ∙ ap hex (take-take j m bs within)

  behind : (n : ℕ) → m ≤ n → drop (2 * n) (drop from now) ≡ drop (from + 2 * n) old
  behind n past =
      let r = 2 * n - 2 * m in
      let first : 2 * n ≡ 2 * m + r = omega arith in
      let last : from + 2 * m + r ≡ from + 2 * n = omega arith in
      ap (λ k. drop k (drop from now)) first
      ∙ sym (drop-drop r (2 * m) (drop from now))
      ∙ ap (drop r) (ap (drop (2 * m)) stand ∙ drop_at (hex (take m bs)) (drop (from + 2 * m) old) (2 * m) long)
      ∙ drop-drop r (from + 2 * m) old ∙ ap (λ k. drop k old) last

  -- those of a part are written behind them, or over the last of them
  pub with_part : (j w at : ℕ) (part later : List ℕ) → j ≤ m → m ≤ j + w → at ≡ from + 2 * j → at ≤ length now
      → part ≡ take w (drop j bs) → later ≡ take at now ++ (hex part ++ drop (at + 2 * w) now)
      → drop from later ≡ hex (take (j + w) bs) ++ drop (from + 2 * (j + w)) old
  with_part j w at part later within past place room cut is =
      let rest = drop (at + 2 * w) now in
      let sum : at + 2 * w ≡ from + 2 * (j + w) = omega (arith, place) in
      let before : take at now ≡ take (from + 2 * j) now = ap (λ k. take k now) place in
      let ends : rest ≡ drop (from + 2 * (j + w)) old =
      ap (λ k. drop k now) sum ∙ sym (drop-drop (2 * (j + w)) from now) ∙ behind (j + w) past in
      ap (drop from) is
      ∙ drop-append-le from (take at now) (hex part ++ rest) (omega (arith, place, length-take-le at now room))
      ∙ ap₂ (λ a b. a ++ (hex part ++ b))
      (ap (drop from) before ∙ drop_of_front from (2 * j) now ∙ front j within) ends
      ∙ sym (append_assoc (hex (take j bs)) (hex part) (drop (from + 2 * (j + w)) old))
      ∙ ap (λ a. a ++ drop (from + 2 * (j + w)) old)
      (sym (hex-append (take j bs) part) ∙ ap hex (ap (λ p. take j bs ++ p) cut ∙ take_and_on j w bs))
