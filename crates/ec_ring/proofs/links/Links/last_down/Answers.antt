-- What one more link adds.
use Rattle.std.proofs.Common.{sym, ◌∙◌, rules}
use Rattle.ec_ring.specs.Links.{last_down}
use Rattle.ec_ring.proofs.LinkLemmas.{last_down-up, last_down-here}
use Rattle.ec_ring.proofs.links.Links.last_down.Goals as goal
use Rattle.ec_ring.proofs.links.Links.last_down.Goals.{then-not-is_up, else-not-is_up}

pub loop-k-init : goal.loop-k-init
unfolding last_down
loop-k-init c = search rules

pub loop-k-preserved : goal.loop-k-preserved
loop-k-preserved c =
    let k = c.loop-k.k in
    elim c.if-not-is_up.branch [
      | then-not-is_up w ↦
          w.last-is ∙ sym (last_down-here c.args.self.now k (sym c.is_up.ensures ∙ w.if-not-is_up.true))
      | else-not-is_up w ↦
          w.last-is ∙ c.loop-k.invariant
          ∙ sym (last_down-up c.args.self.now k (sym c.is_up.ensures ∙ w.if-not-is_up.false))
    ]
