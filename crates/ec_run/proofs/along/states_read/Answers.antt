use Rattle.std.proofs.Common.{◌<◌, arith, length}
use Rattle.ec_run.proofs.AlongLemmas.{read_behind}
use Rattle.ec_run.proofs.along.states_read.Goals as goal

pub loop-place-preserved : goal.loop-place-preserved
loop-place-preserved c =
    let inside : c.loop-place.place < length c.args.line.now =
    omega (arith, c.loop-place-test.true, c.min-end.ensures) in
    record {
      behind = omega (arith, c.loop-place.invariant.behind);
      asked = read_behind c.args.line.now c.args.first c.loop-place.place _ _ _ _
          c.loop-place.invariant.behind inside c.loop-place.invariant.asked c.state_read-in-loop-place.ensures
          c.in-Ok.ensures.ok;
    }
