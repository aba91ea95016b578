use Rattle.std.proofs.Common.{rules}
use Rattle.ec_wire.specs.Spelling.{spelling}
use Rattle.ec_wire.proofs.Laws.{frame_end-spelling}
use Rattle.ecat_raw.proofs.AroundLemmas.{again}
use Rattle.ecat_raw.proofs.ethernet.taken_out_again.Goals as goal

pub returns : goal.returns
returns c = again c.args.source (spelling c.args.frame.now) (search rules)
    (frame_end-spelling c.args.frame.now c.count-count.ensures.value)
