-- The data of a service's datagrams.
use Rattle.std.proofs.Common.{◌≡◌, ℕ, ◌+◌, ◌-◌, ◌≤◌, ap, ◌∙◌, arith}
use Rattle.std.proofs.Common.{List, [], ◌∷◌, ◌++◌, length, take, drop, replicate}
use Rattle.std.proofs.lemmas.List.{take-replicate, drop-replicate}
use Rattle.std.proofs.Math.Seq.{take-append-add}
use Rattle.ec_wire.specs.Datagram.{DatagramRecord, nth}
use Rattle.ec_merge.specs.Frames.{IsOwn, joined_frame}
use Rattle.ec_merge.proofs.Laws.{length-joined, same_size}

-- a mail in an area of zeros, as much of it as the mailbox has
pub mail_area : (n : ℕ) (mail : List ℕ) → length mail ≡ 16 → 16 ≤ n → n ≤ 1486
    → take n (mail ++ drop 16 (replicate 1486 0)) ≡ mail ++ replicate (n - 16) 0
mail_area n mail size least most =
    let room : n - 16 ≤ 1470 = omega arith in
    let zeros : take (n - 16) (drop 16 (replicate 1486 0)) ≡ replicate (n - 16) 0 =
    ap (take (n - 16)) (drop-replicate 16 1486 0) ∙ take-replicate (n - 16) 1470 0 room in
    ap (λ (k : ℕ). take k (mail ++ drop 16 (replicate 1486 0))) (let e : n ≡ length mail + (n - 16) =
    omega arith in e)
    ∙ take-append-add mail (drop 16 (replicate 1486 0)) (n - 16)
    ∙ ap (λ (xs : List ℕ). mail ++ xs) zeros

-- ---- sizes

-- what copies of one datagram join to is one datagram of its size
pub joined_size : (s : DatagramRecord) (a b : List DatagramRecord) → IsOwn (s ∷ []) a → IsOwn (s ∷ []) b
    → length (nth (joined_frame (s ∷ []) a b) 0).payload ≡ length s.payload
joined_size s [] b one two = absurd (omega (arith, one.count))
joined_size s (x ∷ xs) [] one two = absurd (omega (arith, two.count))
joined_size s (x ∷ xs) (y ∷ ys) one two =
    length-joined s.payload x.payload y.payload (same_size s x (one.each 0 (omega arith))) (same_size s y
    (two.each 0 (omega arith)))
