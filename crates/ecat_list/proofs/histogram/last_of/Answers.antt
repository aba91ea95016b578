use Rattle.std.proofs.Common.{◌≡◌, ◌+◌, leb, true, false, ap, sym, ◌∙◌, arith}
use Rattle.std.proofs.lemmas.Bool.Decides.{nat_tests}
use Rattle.ecat_list.proofs.HistogramLemmas.{last_behind, last_here}
use Rattle.ecat_list.proofs.histogram.last_of.Goals as goal

pub returns-then-left-may : goal.returns-then-left-may
returns-then-left-may c =
    let k = c.loop-k.k in
    let left = c.saturating_sub-left.result in
    let ends : leb left c.args.may ≡ true = grind (arith, nat_tests, c.if-left-may.true) in
    let here = last_here c.args.may c.loop-k.left left c.args.counts.now k c.loop-k-test.true
    c.saturating_sub-left.ensures ends in
    sym (c.loop-k.invariant ∙ ap (λ n. k + n) here ∙ omega arith)

pub loop-k-preserved : goal.loop-k-preserved
loop-k-preserved c =
    let k = c.loop-k.k in
    let left = c.saturating_sub-left.result in
    let counts = c.args.counts.now in
    let goes_on : leb left c.args.may ≡ false = grind (arith, nat_tests, c.if-left-may.false) in
    let behind = last_behind c.args.may c.loop-k.left left counts k c.loop-k-test.true
    c.saturating_sub-left.ensures goes_on in
    c.loop-k.invariant ∙ ap (λ n. k + n) behind ∙ omega arith
