use Rattle.std.proofs.Common.{◌≡◌, ℕ, ◌<◌, ◌≤◌, List, take, length, sym, refl, ◌∙◌, arith}
use Rattle.std.proofs.lemmas.List.{length-take, get_or-take}
use Rattle.ec_wire.specs.Datagram.{DatagramRecord, blank, nth}
use Rattle.ecat_trips.specs.Alike.{same_at}
use Rattle.ecat_trips.proofs.Pairs.{pointwise-fails, pointwise-passes, pointwise-end}
use Rattle.ecat_trips.proofs.alike.same_datagrams.Goals as goal

-- a place among the first datagrams
within : (n : ℕ) (ds : List DatagramRecord) (k : ℕ) → k < n → n ≤ length ds → k < length (take n ds)
within n ds k inside room = omega (arith, length-take n ds)

-- they are those of the frame
among : (n : ℕ) (s f : List DatagramRecord) (k : ℕ) → k < n
    → same_at (nth (take n s) k) (nth (take n f) k) ≡ same_at (nth s k) (nth f k)
among n s f k inside = rw (get_or-take n s k blank inside, get_or-take n f k blank inside) refl

-- past the last one there is none
past : (n : ℕ) (ds : List DatagramRecord) (k : ℕ) → n ≤ k → length (take n ds) ≤ k
past n ds k end = omega (arith, length-take n ds)

pub loop-k-preserved : goal.loop-k-preserved
loop-k-preserved c =
    let n = c.args.count in
    let s = c.args.sent.now in
    let f = c.args.frame.now in
    let k = c.loop-k.k in
    c.loop-k.invariant
    ∙ pointwise-passes same_at (take n s) (take n f) k blank (within n s k c.loop-k-test.true c.requires.sent)
    (within n f k c.loop-k-test.true c.requires.frame)
    (among n s f k c.loop-k-test.true ∙ sym c.same_at.ensures ∙ c.if-not-same_at.false)

pub returns-then-not-same_at : goal.returns-then-not-same_at
returns-then-not-same_at c =
    let n = c.args.count in
    let s = c.args.sent.now in
    let f = c.args.frame.now in
    let k = c.loop-k.k in
    sym
    (c.loop-k.invariant
    ∙ pointwise-fails same_at (take n s) (take n f) k blank (within n s k c.loop-k-test.true c.requires.sent)
    (within n f k c.loop-k-test.true c.requires.frame)
    (among n s f k c.loop-k-test.true ∙ sym c.same_at.ensures ∙ c.if-not-same_at.true))

pub returns : goal.returns
returns c =
    let n = c.args.count in
    let s = c.args.sent.now in
    let f = c.args.frame.now in
    let k = c.loop-k.k in
    sym
    (c.loop-k.invariant
    ∙ pointwise-end same_at (take n s) (take n f) k (past n s k c.loop-k-test.false)
    (past n f k c.loop-k-test.false))
