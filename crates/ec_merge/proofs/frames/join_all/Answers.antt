use Rattle.std.proofs.Common.{◌≡◌, ◌<◌, ◌∙◌, List, length, ap, sym, set, add-one, arith}
use Rattle.ec_wire.specs.Datagram.{DatagramRecord, nth}
use Rattle.ec_merge.specs.Frames.{belongs, joined_record}
use Rattle.ec_merge.proofs.FrameLemmas.{joined_part, length-joined_part, nth-joined_part}
use Rattle.ec_merge.proofs.FrameLemmas.{set-joined_part, joined_part-all}
use Rattle.ec_merge.proofs.frames.join_all.Goals as goal

pub join_datagram-requires-clause-into : goal.join_datagram-requires-clause-into
join_datagram-requires-clause-into c =
    omega (
      arith,
      ap length c.loop-k.invariant,
      length-joined_part c.loop-k.k c.args.sent.now c.args.into.now c.args.other.now,
      c.requires.into_own.count,
    )

pub join_datagram-requires-clause-into_belongs : goal.join_datagram-requires-clause-into_belongs
join_datagram-requires-clause-into_belongs c =
    let k = c.loop-k.k in
    let inside : k < length c.args.sent.now = omega arith in
    let here : nth c.loop-k.into k ≡ nth c.args.into.now k =
    ap (λ (f : List DatagramRecord). nth f k) c.loop-k.invariant
    ∙ nth-joined_part k c.args.sent.now c.args.into.now c.args.other.now in
    ap (belongs (nth c.args.sent.now k)) here ∙ c.requires.into_own.each k inside

pub loop-k-preserved : goal.loop-k-preserved
loop-k-preserved c =
    let s = c.args.sent.now in
    let a = c.args.into.now in
    let b = c.args.other.now in
    let k = c.loop-k.k in
    let in_s : k < length s = omega arith in
    let in_a : k < length a = omega (arith, c.requires.into_own.count) in
    let in_b : k < length b = omega (arith, c.requires.other_own.count) in
    let here : nth c.loop-k.into k ≡ nth a k =
    ap (λ (f : List DatagramRecord). nth f k) c.loop-k.invariant ∙ nth-joined_part k s a b in
    c.join_datagram.ensures
    ∙ ap (λ (r : DatagramRecord). set c.loop-k.into k (joined_record (nth s k) r (nth b k))) here
    ∙ ap (λ (f : List DatagramRecord). set f k (joined_record (nth s k) (nth a k) (nth b k)))
    c.loop-k.invariant
    ∙ set-joined_part k s a b in_s in_a in_b
    ∙ sym (ap (λ n. joined_part n s a b) (add-one k))

pub returns : goal.returns
returns c =
    let s = c.args.sent.now in
    let a = c.args.into.now in
    let b = c.args.other.now in
    let all : c.loop-k.k ≡ length s = omega arith in
    c.loop-k.invariant ∙ ap (λ n. joined_part n s a b) all
    ∙ joined_part-all s a b c.requires.into_own.count c.requires.other_own.count
