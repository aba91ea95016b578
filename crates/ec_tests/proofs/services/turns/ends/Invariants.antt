use Rattle.ec_turns.specs.Start.{HasPeer}
use Rattle.ec_tests.proofs.services.turns.ends.Given as goal

abbrev pub invariant-loop-turn : goal.invariant-loop-turn
invariant-loop-turn g l = HasPeer l.start
