use Rattle.std.proofs.Common.{◌≡◌, inl, inr, length, List, sym, ap, set, add-one, take, ◌∙◌, arith}
use Rattle.std.proofs.lemmas.Bool.{cases_lt}
use Rattle.ec_wire.specs.Datagram.{DatagramRecord, nth, blank}
use Rattle.ecat_trips.specs.Copies.{joined, joined_or}
use Rattle.ecat_trips.specs.Zipped.{zipped}
use Rattle.ecat_trips.proofs.ZippedLemmas.{nth-zipped, set-zipped, zipped-all, zipped-all-second}
use Rattle.ecat_trips.proofs.ZippedLemmas.{zipped-all-third, length-zipped}
use Rattle.ecat_trips.proofs.copies.join_in.Goals as goal

pub join_if_sized-requires-clause-into : goal.join_if_sized-requires-clause-into
join_if_sized-requires-clause-into c =
    let size = length-zipped joined_or blank (take c.loop-k.k c.args.sent.now) c.args.into.now
    c.args.other.now in
    let same = ap length c.loop-k.invariant in
    omega arith

pub loop-k-preserved : goal.loop-k-preserved
loop-k-preserved c =
    let s = c.args.sent.now in
    let a = c.args.into.now in
    let b = c.args.other.now in
    let k = c.loop-k.k in
    let was : nth c.loop-k.into k ≡ nth a k =
    ap (λ (f : List DatagramRecord). nth f k) c.loop-k.invariant ∙ nth-zipped joined_or blank k s a b in
    c.join_if_sized.ensures
    ∙ (λ t. set (c.loop-k.invariant t) k (joined_or (nth s k) (was t) (nth b k)))
    ∙ set-zipped joined_or blank k s a b (omega arith) (omega arith) (omega arith)
    ∙ sym (ap (λ n. zipped joined_or (take n s) a b) (add-one k))

pub returns : goal.returns
unfolding joined
returns c =
    let s = c.args.sent.now in
    let a = c.args.into.now in
    let b = c.args.other.now in
    let k = c.loop-k.k in
    c.loop-k.invariant
    ∙ elim (cases_lt k (length s)) [
      | inr past ↦ zipped-all joined_or blank k s a b past
      | inl in_sent ↦ elim (cases_lt k (length a)) [
        | inr past ↦ zipped-all-second joined_or blank k s a b past
        | inl in_into ↦ zipped-all-third joined_or blank k s a b (omega arith)
      ]
    ]
