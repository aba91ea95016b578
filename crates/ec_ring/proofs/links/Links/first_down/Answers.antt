-- What one more link adds.
use Rattle.std.proofs.Common.{◌+◌, ◌-◌, ◌≡◌, sym, ◌∙◌, arith, rules}
use Rattle.std.specs.Prelude.{Some}
use Rattle.ec_ring.specs.Links.{first_down}
use Rattle.ec_ring.proofs.LinkLemmas.{first_down-up, first_down-here, first_down-more}
use Rattle.ec_ring.proofs.links.Links.first_down.Goals as goal

pub loop-k-init : goal.loop-k-init
unfolding first_down
loop-k-init c = search rules

pub returns-then-not-is_up : goal.returns-then-not-is_up
returns-then-not-is_up c =
    let k = c.loop-k.k in
    let here : first_down c.args.self.now (k + 1) ≡ Some k =
    first_down-here c.args.self.now k c.loop-k.invariant (sym c.is_up.ensures ∙ c.if-not-is_up.true) in
    let more : first_down c.args.self.now (k + 1 + (c.args.count - (k + 1))) ≡ Some k =
    first_down-more c.args.self.now (k + 1) (c.args.count - (k + 1)) k here in
    let all : k + 1 + (c.args.count - (k + 1)) ≡ c.args.count = omega arith in
    sym (rw all at more)

pub loop-k-preserved : goal.loop-k-preserved
loop-k-preserved c =
    first_down-up c.args.self.now c.loop-k.k c.loop-k.invariant (sym c.is_up.ensures ∙ c.if-not-is_up.false)
