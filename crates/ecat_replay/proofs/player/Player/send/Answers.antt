use Rattle.std.proofs.Common.{subst}
use Rattle.ecat_serve.specs.State.{ServedState}
use Rattle.ecat_replay.specs.Playing.{IsSent}
use Rattle.ecat_replay.proofs.PlayingLemmas.{sent_by}
use Rattle.ecat_replay.proofs.player.Player.send.Goals as goal

pub returns : goal.returns
returns c =
    subst
    (λ (line : ServedState).
    IsSent c.args.from c.args.frame.now line c.serve_one.new.ends.came c.serve_one.new.self)
    c.self.view_is
    (sent_by c.one_spelling.ensures _ _ _ _ _ _ c.of-ends.ensures.ends c.of-ends.ensures.value
    c.serve_one.ensures)
