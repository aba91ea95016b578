use Rattle.std.proofs.Common.{sym, arith, ◌∙◌, ◌≡◌, ◌<◌, length}
use Rattle.ec_run.proofs.AlongLemmas.{first_out_here, first_out_more, first_out_none}
use Rattle.ec_run.proofs.along.first_out.Goals as goal

pub returns-then-not-tells_op : goal.returns-then-not-tells_op
returns-then-not-tells_op c =
    let less : c.loop-k.k < length c.args.joined.now =
    omega (arith, c.loop-k-test.true, c.count-k-end.ensures.count) in
    sym (c.loop-k.invariant.rest
    ∙ first_out_here c.args.joined.now c.loop-k.k less (sym c.if-not-tells_op.ensures))

pub loop-k-preserved : goal.loop-k-preserved
loop-k-preserved c =
    let less : c.loop-k.k < length c.args.joined.now =
    omega (arith, c.loop-k-test.true, c.count-k-end.ensures.count) in
    record {
      rest = c.loop-k.invariant.rest
          ∙ first_out_more c.args.joined.now c.loop-k.k less (sym c.if-not-tells_op.ensures);
    }

pub returns : goal.returns
returns c =
    let all : c.loop-k.k ≡ length c.args.joined.now =
    omega (arith, c.loop-k-test.false, c.loop-k.auto.k-end, c.count-k-end.ensures.count) in
    sym (c.loop-k.invariant.rest ∙ first_out_none c.args.joined.now c.loop-k.k all)
