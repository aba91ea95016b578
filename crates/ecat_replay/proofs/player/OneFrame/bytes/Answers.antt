use Rattle.ecat_replay.proofs.PlayingLemmas.{in_room}
use Rattle.ecat_replay.proofs.player.OneFrame.bytes.Goals as goal

pub returns-clause-room : goal.returns-clause-room
returns-clause-room c = in_room _ _ c.is_value.ensures c.bytes.ensures
