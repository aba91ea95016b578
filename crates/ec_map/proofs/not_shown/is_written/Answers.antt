use Rattle.std.proofs.Common.{below_more, arith}
use Rattle.std.proofs.lemmas.Bool.{both_ways}
use Rattle.ec_map.proofs.NotShownLemmas.{item_there, item_same}
use Rattle.ec_map.proofs.not_shown.is_written.Goals as goal

pub loop-k-preserved : goal.loop-k-preserved
loop-k-preserved g c =
    below_more _ _ c.loop-k.invariant
    (λ writes.
    let same = item_same g.I.Asking.item c.args.items.now c.loop-k.k c.index-items-k.result writes.item c.index-items-k.is
    writes.is in
    both_ways c.writes_some.result c.if-writes_some.false (c.writes_some.ensures.1 (rw (← same) writes.writes)))

pub returns-clause-no : goal.returns-clause-no
returns-clause-no g c = λ _ k writes.
    let inside = item_there g.I.Asking.item c.args.items.now k writes.item writes.is in
    c.loop-k.invariant k (omega arith) writes
