use Rattle.std.proofs.Common.{◌≡◌, drop}
use Rattle.ecat_told.specs.Known.{frame_returned}
use Rattle.ecat_told.proofs.known.Known.take_frame.Given as goal

-- what is left of the frame makes of the slaves now what all of it makes of them at first
abbrev pub invariant-loop-k : goal.invariant-loop-k
invariant-loop-k l =
    frame_returned l.broken l.all (drop l.k l.sent) (drop l.k l.came) l.self
    ≡ frame_returned l.broken l.all l.sent l.came l.initial.self
