-- Bytes that are taken from the front of known bytes.
use Rattle.std.proofs.Common.{◌≡◌, ℕ, ◌+◌, ◌-◌, ◌≤◌, List, [], ◌++◌, take, drop, length, Option, Some, None}
use Rattle.std.proofs.Common.{refl, arith, sym, ap, ◌∙◌}
use Rattle.std.proofs.lemmas.List.{append_assoc, drop-drop, length-take, length-drop, take_at, take-append-le}
use Rattle.std.proofs.Math.Nat.{sub-zero}
use Rattle.std.proofs.Math.Seq.{take-add, take-append-add}
use borrow.Rule.Slice.PartMut.{put_mid, post_of}
use Rattle.std.specs.Io.KnownBytes.{Consumes, prepend_known}
use Rattle.ecat_source.specs.Input.{run}

-- two runs that are taken one after the other are their bytes end to end
pub Consumes-append : (old between new : Option (List ℕ)) (xs ys : List ℕ) → Consumes old between xs
    → Consumes between new ys → Consumes old new (xs ++ ys)
Consumes-append None between new xs ys first second = tt
Consumes-append (Some os) None new xs ys first second = absurd first
Consumes-append (Some os) (Some bs) None xs ys first second = second
Consumes-append (Some os) (Some bs) (Some ns) xs ys first second =
    rw (first, second) (sym (append_assoc xs ys ns))

-- what was taken and is in front again is as if nothing was taken
pub Consumes-prepend_known : (old new : Option (List ℕ)) (xs : List ℕ) → Consumes old new xs
    → Consumes old (prepend_known xs new) []
Consumes-prepend_known None new xs taken = tt
Consumes-prepend_known (Some os) None xs taken = taken
Consumes-prepend_known (Some os) (Some ns) xs taken = taken

-- a run is its first n bytes and the run behind them
run-add : (from n to : ℕ) (xs : List ℕ) → from + n ≤ to
    → run from to xs ≡ take n (drop from xs) ++ run (from + n) to xs
run-add from n to xs fits =
    let whole : to - from ≡ n + (to - (from + n)) = omega arith in
    rw (whole, take-add, drop-drop) refl

-- n bytes are taken from a run in front of known bytes
pub Consumes-run : (old known : Option (List ℕ)) (xs : List ℕ) (from n to : ℕ) → from + n ≤ to
    → Consumes old (prepend_known (run from to xs) known) []
    → Consumes old (prepend_known (run (from + n) to xs) known) (take n (drop from xs))
Consumes-run None known xs from n to fits ahead = tt
Consumes-run (Some os) None xs from n to fits ahead = ahead
Consumes-run (Some os) (Some ks) xs from n to fits ahead =
    ahead ∙ ap (λ front. front ++ ks) (run-add from n to xs fits)
    ∙ append_assoc (take n (drop from xs)) (run (from + n) to xs) ks

-- nothing is taken where the bytes ahead are the same
pub Consumes-same : (old new : Option (List ℕ)) → new ≡ old → Consumes old new []
Consumes-same None new same = tt
Consumes-same (Some os) None same = cc
Consumes-same (Some os) (Some ns) same = cc

-- a run from the start
run-from_start : (to : ℕ) (xs : List ℕ) → run 0 to xs ≡ take to xs
run-from_start to xs = rw sub-zero refl

-- an empty run in front of known bytes
prepend_known-empty : (known : Option (List ℕ)) (xs : List ℕ) (from to : ℕ) → from ≡ to
    → prepend_known (run from to xs) known ≡ known
prepend_known-empty None xs from to used = refl
prepend_known-empty (Some ks) xs from to used = let none : to - from ≡ 0 = omega arith in rw none refl

-- bytes that are read into a used-up buffer are ahead
pub Consumes-refilled : (old known new : Option (List ℕ)) (xs ys : List ℕ) (from to count : ℕ) → from ≡ to
    → prepend_known (run from to xs) known ≡ old → Consumes known new (take count ys)
    → Consumes old (prepend_known (run 0 count ys) new) []
Consumes-refilled old known new xs ys from to count used was taken =
    let same : known ≡ old = sym (prepend_known-empty known xs from to used) ∙ was in
    let read : Consumes known (prepend_known (take count ys) new) [] =
    Consumes-prepend_known known new (take count ys) taken in
    rw (run-from_start, ← same) read

-- a room whose front was overwritten by the bytes from one place on
pub take-copied : (xs into copy : List ℕ) (from count : ℕ) → from + count ≤ length xs
    → copy ≡ take (from + count - from) (drop from xs)
    → take count (copy ++ drop count into) ≡ take count (drop from xs)
take-copied xs into copy from count fits is =
    let same : from + count - from ≡ count = omega arith in
    let is' : copy ≡ take count (drop from xs) = rw same at is in
    let len : length (take count (drop from xs)) ≡ count = simp (length-take, length-drop) (omega arith) in
    rw is' (take_at (take count (drop from xs)) (drop count into) count len)

-- a room whose first cells stay, and whose part behind them was filled
pub take-filled : (at count k : ℕ) (xs ys : List ℕ) → at ≤ length xs → count ≤ length ys
    → take (at + count) (put_mid at k xs ys) ≡ take at xs ++ take count ys
take-filled at count k xs ys fits some =
    let len : at ≡ length (take at xs) = simp length-take (omega arith) in
    let moved : take (at + count) (put_mid at k xs ys)
    ≡ take (length (take at xs) + count) (put_mid at k xs ys) =
    ap (λ n. take (n + count) (put_mid at k xs ys)) len in
    moved ∙ take-append-add (take at xs) (ys ++ post_of at k xs) count
    ∙ rw (take-append-le count ys (post_of at k xs) some) refl
