use Rattle.std.proofs.Common.{subst}
use Rattle.ecat_trips.specs.declared.trip.Trip.{Trip}
use Rattle.ecat_replay.specs.Comparing.{IsCompared}
use Rattle.ecat_replay.proofs.ComparingLemmas.{are_more, are_none}
use Rattle.ecat_replay.proofs.comparison.Comparison.play_all.Goals as goal

pub loop-played-init : goal.loop-played-init
loop-played-init c = are_none c.args.trips.now c.args.self.now

pub loop-played-preserved : goal.loop-played-preserved
loop-played-preserved c =
    are_more c.args.trips.now c.loop-played.played c.index-trips-trips.result c.args.self.now
    c.loop-played.self c.play.new.self c.loop-played-test.true c.index-trips-trips.is
    c.loop-played.invariant
    (subst (λ (trip : Trip). IsCompared trip c.loop-played.self c.play.new.self) c.trip.ensures
    c.in_ok-play.ensures)
