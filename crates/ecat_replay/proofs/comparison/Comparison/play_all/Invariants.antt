use Rattle.std.proofs.Common.{◌-◌, drop, length}
use Rattle.ecat_replay.specs.Comparing.{AreCompared}
use Rattle.ecat_replay.proofs.comparison.Comparison.play_all.Given as goal

abbrev pub invariant-loop-played : goal.invariant-loop-played
invariant-loop-played l = AreCompared (drop (length l.trips - l.played) l.trips) l.fn.self l.self
