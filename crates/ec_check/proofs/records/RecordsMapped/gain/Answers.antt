use Rattle.std.proofs.Common.{sym}
use Rattle.ec_wire.specs.Kind.{command_of}
use Rattle.ec_esc.proofs.Laws.{gain_served}
use Rattle.ec_line.specs.Claims.{gain}
use Rattle.ec_check.specs.Records.{controller_with}
use Rattle.ec_check.proofs.records.RecordsMapped.gain.Goals as goal

pub returns-clause-value : goal.returns-clause-value
unfolding gain
returns-clause-value c =
    rw (
      c.gained.ensures.value,
      c.reads_at-is_read.ensures,
      c.writes_at-is_written.ensures,
      c.command.ensures,
    )
    (sym (gain_served (command_of c.args.kind) (controller_with c.args.self.now) c.args.address c.args.count))
