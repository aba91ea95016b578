use Rattle.ecat_replay.specs.Replaying.{EndInFront}
use Rattle.ecat_replay.proofs.replay.Replay.take.Given as goal

abbrev pub invariant-loop-turn : goal.invariant-loop-turn
invariant-loop-turn l = EndInFront l._turn l.marks l.packet l.frame l.fn.self l.self
