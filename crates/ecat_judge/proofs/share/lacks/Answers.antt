use Rattle.std.proofs.Common.{◌≡◌, ◌+◌, ◌<◌, length, arith, ap}
use Rattle.ecat_judge.specs.Share.{lacking, part_at, sum_below}
use Rattle.ecat_judge.proofs.SumLemmas.{sum_none, sum_more, sum_grows, none_left}
use Rattle.ecat_judge.proofs.share.lacks.Goals as goal

pub loop-place-init : goal.loop-place-init
loop-place-init c =
    let none = sum_none (part_at c.args.missing c.args.shares.now) in
    omega (arith, none)

pub returns-then-left-part : goal.returns-then-left-part
unfolding lacking
returns-then-left-part c =
    let each = part_at c.args.missing c.args.shares.now in
    let more = sum_more each c.loop-place.place in
    let grows = sum_grows each (c.loop-place.place + 1) (length c.args.shares.now)
    (omega (arith, c.loop-place-test.true)) in
    let past : c.args.short < sum_below each (length c.args.shares.now) =
    omega (arith, more, grows, c.part_at-part.ensures, c.if-left-part.true, c.loop-place.invariant) in
    grind arith

pub loop-place-preserved : goal.loop-place-preserved
loop-place-preserved c =
    let more = sum_more (part_at c.args.missing c.args.shares.now) c.loop-place.place in
    omega (arith, more, c.part_at-part.ensures, c.if-left-part.false, c.loop-place.invariant)

pub returns : goal.returns
unfolding lacking
returns c =
    let each = part_at c.args.missing c.args.shares.now in
    let e : c.loop-place.place ≡ length c.args.shares.now = omega (arith, c.loop-place-test.false) in
    let same = ap (sum_below each) e in
    none_left (sum_below each (length c.args.shares.now)) c.loop-place.left c.args.short
    (omega (arith, same, c.loop-place.invariant))
