use Rattle.std.proofs.Common.{sym, subst}
use Rattle.ecat_replay.specs.Playing.{IsRead}
use Rattle.ecat_replay.proofs.PlayingLemmas.{is_read}
use Rattle.ecat_replay.proofs.player.read.Goals as goal

pub returns : goal.returns
returns c =
    subst (IsRead c.args.packet.now) (sym c.ok.ensures.value)
    (is_read c.args.packet.now c.read.result c.read.ensures.found c.read.ensures.only_found)
