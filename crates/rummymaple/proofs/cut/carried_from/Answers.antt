-- The frame is filled with one item after the other, as long as they fit.
use Rattle.std.proofs.Common.{arith, add-one}
use Rattle.rummymaple.proofs.CutLemmas.{filling-first, filling-more, filling-full, filling-end}
use Rattle.rummymaple.proofs.cut.carried_from.Goals as goal

pub loop-k-init : goal.loop-k-init
loop-k-init c = record {
  filling = λ image taken. rw (add-one c.args.first, c.wire_length-bytes.ensures.length)
      (filling-first image c.args.items.now c.args.first taken c.requires);
  ordered = omega arith;
  inside = omega (arith, c.requires);
  bytes = c.wire_length-bytes.ensures.most;
}

pub returns-then-more-gt-MAX_LENGTH : goal.returns-then-more-gt-MAX_LENGTH
returns-then-more-gt-MAX_LENGTH c image taken =
    filling-full image c.args.items.now c.args.first c.loop-k.k c.loop-k.bytes taken c.loop-k-test.true
    (c.loop-k.invariant.filling image taken) (omega (arith, c.if-more-gt-MAX_LENGTH.true, c.wire_length.ensures.length))

pub loop-k-preserved : goal.loop-k-preserved
loop-k-preserved c = record {
  filling = λ image taken. rw (add-one c.loop-k.k, c.wire_length.ensures.length)
      (filling-more image c.args.items.now c.args.first c.loop-k.k c.loop-k.bytes taken c.loop-k-test.true
      (c.loop-k.invariant.filling image taken)
      (omega (arith, c.if-more-gt-MAX_LENGTH.false, c.wire_length.ensures.length)));
  ordered = omega (arith, c.loop-k.invariant.ordered);
  inside = omega (arith, c.loop-k-test.true);
  bytes = omega (arith, c.if-more-gt-MAX_LENGTH.false);
}

pub returns : goal.returns
returns c image taken =
    filling-end image c.args.items.now c.args.first c.loop-k.k c.loop-k.bytes
    (omega (arith, c.loop-k-test.false, c.loop-k.invariant.inside)) (c.loop-k.invariant.filling image taken)
