use Rattle.std.proofs.Common.{sym, ◌∙◌}
use Rattle.ec_esc.proofs.PassLemmas.{passed_counted, passed_uncounted, passed_state}
use Rattle.ec_esc.proofs.controller.Controller.pass_datagram.Goals as goal

pub returns-then-counts_adp-clause-frame : goal.returns-then-counts_adp-clause-frame
returns-then-counts_adp-clause-frame c =
    passed_counted c.command-command.result c.args.frame.now c.serve.new.frame c.count_up.new.frame
    c.args.k c.args.self.now c.serve.new.self c.requires (sym c.command-command.ensures)
    (sym c.counts_adp.ensures ∙ c.if-counts_adp.true) c.serve.ensures c.count_up.ensures

pub returns-then-counts_adp-clause-state : goal.returns-then-counts_adp-clause-state
returns-then-counts_adp-clause-state c =
    passed_state c.command-command.result c.args.frame.now c.serve.new.frame c.args.k c.args.self.now
    c.serve.new.self (sym c.command-command.ensures) c.serve.ensures

pub returns-else-counts_adp-clause-frame : goal.returns-else-counts_adp-clause-frame
returns-else-counts_adp-clause-frame c =
    passed_uncounted c.command-command.result c.args.frame.now c.serve.new.frame c.args.k
    c.args.self.now c.serve.new.self (sym c.command-command.ensures)
    (sym c.counts_adp.ensures ∙ c.if-counts_adp.false) c.serve.ensures

pub returns-else-counts_adp-clause-state : goal.returns-else-counts_adp-clause-state
returns-else-counts_adp-clause-state c =
    passed_state c.command-command.result c.args.frame.now c.serve.new.frame c.args.k c.args.self.now
    c.serve.new.self (sym c.command-command.ensures) c.serve.ensures
