use Rattle.std.proofs.Common.{◌≡◌, drop}
use Rattle.ecat_told.specs.Known.{frame_lost}
use Rattle.ecat_told.proofs.known.Known.lose_frame.Given as goal

-- what is left of the frame makes of the slaves now what all of it makes of them at first
abbrev pub invariant-loop-k : goal.invariant-loop-k
invariant-loop-k l = frame_lost l.two (drop l.k l.sent) l.self ≡ frame_lost l.two l.sent l.initial.self
