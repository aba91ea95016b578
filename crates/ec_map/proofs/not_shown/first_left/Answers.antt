use Rattle.std.proofs.Common.{below_more, arith, ⊎_elim, ◌<◌, ◌≤◌}
use Rattle.std.proofs.lemmas.Bool.{both_ways, cases_lt}
use Rattle.ec_map.proofs.NotShownLemmas.{item_there, item_same, item_at}
use Rattle.ec_map.proofs.not_shown.first_left.Goals as goal

pub loop-k-preserved : goal.loop-k-preserved
loop-k-preserved g c =
    below_more _ _ c.loop-k.invariant
    (λ left.
    let same = item_same g.I.Asking.item c.args.items.now c.loop-k.k c.index-items-k.result left.item c.index-items-k.is
    left.is in
    both_ways c.leaves.result c.if-leaves.false (c.leaves.ensures.1 (rw (← same) left.leaves)))

pub returns-then-leaves : goal.returns-then-leaves
returns-then-leaves g c = (
  record {
    item = g.I.Asking.item c.index-items-k.result;
    is = item_at g.I.Asking.item c.args.items.now c.loop-k.k c.index-items-k.result (omega arith) c.index-items-k.is;
    leaves = c.leaves.ensures.0 c.if-leaves.true;
  },
  λ m left.
      ⊎_elim (λ (less : m < c.loop-k.k). absurd (c.loop-k.invariant m less left))
      (λ (least : c.loop-k.k ≤ m). least) (cases_lt m c.loop-k.k),
)

pub returns : goal.returns
returns g c = λ k left.
    let inside = item_there g.I.Asking.item c.args.items.now k left.item left.is in
    c.loop-k.invariant k (omega arith) left
