-- What is known of a longer run of the bytes ahead by the shorter one that was looked at first.
use Rattle.std.proofs.Common.{◌≡◌, ℕ, ◌+◌, ◌≤◌, List, ◌++◌, take, drop, length, arith, sym, ap, ◌∙◌}
use Rattle.std.proofs.Common.{take-append-drop}
use Rattle.std.proofs.lemmas.List.{take-take, drop-append-le, length-take, length-drop}
use Rattle.byteorder.specs.Numbers.{big_from-append, little_from-append}
use Rattle.ecat_capture.specs.Numbers.{word}
use Rattle.ecat_capture.specs.declared.order.Order.{Order}
use Rattle.ecat_capture.specs.declared.order.Order.TheVariants.{Little, Big}

-- a number that lies in the front of the bytes is that of the front
pub word-append : (order : Order) (at : ℕ) (front rest : List ℕ) → at + 4 ≤ length front
    → word order at (front ++ rest) ≡ word order at front
unfolding word
word-append Little at front rest within =
    let reached : at ≤ length front = omega arith in
    let left : 4 ≤ length (drop at front) = simp length-drop (omega arith) in
    rw (drop-append-le at front rest reached) (little_from-append 4 (drop at front) rest left)
word-append Big at front rest within =
    let reached : at ≤ length front = omega arith in
    let left : 4 ≤ length (drop at front) = simp length-drop (omega arith) in
    rw (drop-append-le at front rest reached) (big_from-append 4 (drop at front) rest left)

-- a number in a run is that in a longer run
pub word-longer : (order : Order) (at n m : ℕ) (bytes : List ℕ) → at + 4 ≤ n → n ≤ m → n ≤ length bytes
    → word order at (take m bytes) ≡ word order at (take n bytes)
word-longer order at n m bytes within longer there =
    let cut : take n (take m bytes) ≡ take n bytes = take-take n m bytes longer in
    let split : take n bytes ++ drop n (take m bytes) ≡ take m bytes =
    ap (λ xs. xs ++ drop n (take m bytes)) (sym cut) ∙ take-append-drop n (take m bytes) in
    let size : at + 4 ≤ length (take n bytes) = simp length-take (omega arith) in
    ap (word order at) (sym split) ∙ word-append order at (take n bytes) (drop n (take m bytes)) size

-- a number in the first bytes is the same once more is loaded
pub word-grown : (order : Order) (at n m : ℕ) (old new : List ℕ) → at + 4 ≤ n → n ≤ m → n ≤ length old
    → take (length old) new ≡ old → length old ≤ length new
    → word order at (take m new) ≡ word order at (take n old)
word-grown order at n m old new within longer there same grown =
    let front : take n old ≡ take n new =
    ap (take n) (sym same) ∙ take-take n (length old) new there in
    word-longer order at n m new within longer (omega arith) ∙ ap (word order at) (sym front)
