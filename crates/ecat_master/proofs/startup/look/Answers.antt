use Rattle.std.proofs.Common.{length}
use Rattle.ecat_master.proofs.StartLemmas.{unwritten_look}
use Rattle.ecat_master.proofs.startup.look.Goals as goal

pub returns-in_err-put_look : goal.returns-in_err-put_look
returns-in_err-put_look g c =
    unwritten_look g.P.HeardPorts.trips c.args.ports.now c.look_surely.new.ports (length c.args.line.now)
    c.from_residual.result c.from_residual.ensures.1

pub returns-in_err-end : goal.returns-in_err-end
returns-in_err-end g c =
    unwritten_look g.P.HeardPorts.trips c.args.ports.now c.look_surely.new.ports (length c.args.line.now)
    c.from_residual-in_err-end.result c.from_residual-in_err-end.ensures.1
