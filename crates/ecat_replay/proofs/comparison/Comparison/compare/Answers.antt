use Rattle.std.proofs.Common.{◌∙◌, sym, ap}
use Rattle.ecat_replay.specs.Comparing.{compared_at}
use Rattle.ecat_replay.proofs.ComparingLemmas.{first_more, first_none}
use Rattle.ecat_replay.proofs.comparison.Comparison.compare.Goals as goal

pub loop-k-init : goal.loop-k-init
loop-k-init c = sym (first_none c.args.trip.now c.args.there.now c.args.here.now c.args.self.now)

pub loop-k-preserved : goal.loop-k-preserved
loop-k-preserved c =
    c.in_ok-compare_at.ensures
    ∙ ap (compared_at c.args.trip.now c.args.there.now c.args.here.now c.loop-k.k) c.loop-k.invariant
    ∙ sym (first_more c.loop-k.k c.args.trip.now c.args.there.now c.args.here.now c.args.self.now)
