use Rattle.std.proofs.Common.{List, ◌++◌, arith, subst}
use Rattle.ecat_list.specs.Passed.{firsts_of}
use Rattle.ecat_list.specs.Stats.{IsStatsOf}
use Rattle.ecat_list.specs.declared.passed.Passed.{Passed}
use Rattle.ecat_list.proofs.PassedLemmas.{firsts_more, firsts_none}
use Rattle.ecat_list.proofs.stats.Stats.take_frame.Goals as goal

pub loop-k-init : goal.loop-k-init
loop-k-init c = λ all h.
    subst (λ xs. IsStatsOf xs c.args.self.now)
    (firsts_none c.args.by_index c.args.seen.now c.args.sent.now c.args.came.now all) h

pub loop-k-preserved : goal.loop-k-preserved
loop-k-preserved c = λ all h.
    let so_far = firsts_of c.args.by_index c.args.seen.now c.args.sent.now c.args.came.now c.loop-k.k in
    subst (λ xs. IsStatsOf xs c.take.new.self)
    (firsts_more c.args.by_index c.args.seen.now c.args.sent.now c.args.came.now all c.loop-k.k
    c.passed_of.result c.passed_of.ensures)
    (c.in_ok-take.ensures (all ++ so_far) (c.loop-k.invariant all h))

pub returns : goal.returns
returns c =
    subst (λ n. (all : List Passed) → IsStatsOf all c.args.self.now → IsStatsOf (all
    ++ firsts_of c.args.by_index c.args.seen.now c.args.sent.now c.args.came.now n) c.loop-k.self)
    (omega arith) c.loop-k.invariant
