use Rattle.std.proofs.Common.{sym, ◌∙◌, arith}
use Rattle.ec_wire.specs.Datagram.{blank}
use Rattle.ecat_trips.specs.Alike.{is_still, still_at}
use Rattle.ecat_trips.proofs.Pairs.{pointwise-fails, pointwise-passes, pointwise-end, pointwise-long}
use Rattle.ecat_trips.proofs.alike.is_still.Goals as goal

pub loop-k-preserved : goal.loop-k-preserved
loop-k-preserved c =
    c.loop-k.invariant
    ∙ pointwise-passes still_at c.args.sent.now c.args.frame.now c.loop-k.k blank (omega arith)
    (omega arith) (sym c.still_at.ensures ∙ c.if-not-still_at.false)

pub returns-then-count : goal.returns-then-count
unfolding is_still
returns-then-count c = sym (pointwise-long still_at c.args.sent.now c.args.frame.now (λ e. omega (arith, e)))

pub returns-then-not-still_at : goal.returns-then-not-still_at
unfolding is_still
returns-then-not-still_at c =
    sym
    (c.loop-k.invariant
    ∙ pointwise-fails still_at c.args.sent.now c.args.frame.now c.loop-k.k blank (omega arith)
    (omega arith) (sym c.still_at.ensures ∙ c.if-not-still_at.true))

pub returns : goal.returns
unfolding is_still
returns c =
    sym
    (c.loop-k.invariant
    ∙ pointwise-end still_at c.args.sent.now c.args.frame.now c.loop-k.k (omega arith) (omega arith))
