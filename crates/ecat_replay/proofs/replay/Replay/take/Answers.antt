use Rattle.std.proofs.Common.{◌∙◌, sym}
use Rattle.ecat_replay.proofs.ReplayingLemmas.{none_ended, one_ended}
use Rattle.ecat_replay.proofs.replay.Replay.take.Goals as goal

pub loop-turn-init : goal.loop-turn-init
loop-turn-init c = none_ended c.args.marks.now c.args.packet.now c.args.frame.now c.args.self.now

pub loop-turn-preserved : goal.loop-turn-preserved
loop-turn-preserved c =
    one_ended c.loop-turn._turn c.args.marks.now c.args.packet.now c.args.frame.now c.args.self.now
    c.loop-turn.self c.go_on.new.self c.loop-turn.invariant
    (sym c.in_ok-go_on.ensures.taken ∙ c.if-branch.false) c.in_ok-go_on.ensures.happens
