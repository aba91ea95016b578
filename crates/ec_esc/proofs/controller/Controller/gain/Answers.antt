use Rattle.std.proofs.Common.{sym}
use Rattle.ec_esc.proofs.GainLemmas.{gain-effect}
use Rattle.ec_esc.proofs.controller.Controller.gain.Goals as goal

pub returns-clause-value : goal.returns-clause-value
returns-clause-value c =
    rw (c.gained.ensures.value, c.reads_at-is_read.ensures, c.writes_at-is_written.ensures)
    (sym (gain-effect c.args.command c.args.self.now c.args.address c.args.count))
