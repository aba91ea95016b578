use Rattle.std.proofs.Common.{sym, ◌∙◌, arith}
use Rattle.ec_wire.specs.Datagram.{blank}
use Rattle.ecat_trips.specs.Alike.{same_question, same_question_at}
use Rattle.ecat_trips.proofs.Pairs.{pointwise-fails, pointwise-passes, pointwise-end, pointwise-long}
use Rattle.ecat_trips.proofs.alike.same_question.Goals as goal

pub loop-k-preserved : goal.loop-k-preserved
loop-k-preserved c =
    c.loop-k.invariant
    ∙ pointwise-passes same_question_at c.args.sent.now c.args.frame.now c.loop-k.k blank
    (omega arith) (omega arith) (sym c.same_question_at.ensures ∙ c.if-not-same_question_at.false)

pub returns-then-count : goal.returns-then-count
unfolding same_question
returns-then-count c =
    sym (pointwise-long same_question_at c.args.sent.now c.args.frame.now (λ e. omega (arith, e)))

pub returns-then-not-same_question_at : goal.returns-then-not-same_question_at
unfolding same_question
returns-then-not-same_question_at c =
    sym
    (c.loop-k.invariant
    ∙ pointwise-fails same_question_at c.args.sent.now c.args.frame.now c.loop-k.k blank
    (omega arith) (omega arith) (sym c.same_question_at.ensures ∙ c.if-not-same_question_at.true))

pub returns : goal.returns
unfolding same_question
returns c =
    sym
    (c.loop-k.invariant
    ∙ pointwise-end same_question_at c.args.sent.now c.args.frame.now c.loop-k.k (omega arith)
    (omega arith))
