use Rattle.std.proofs.Common.{sym, ◌∙◌, ap}
use Rattle.ec_wire.specs.Datagram.{nth}
use Rattle.ec_wire.specs.declared.command.Addressing.{Addressing}
use Rattle.ec_esc.specs.Pass.{is_addressed}
use Rattle.ec_esc.proofs.PassLemmas.{IsServed-others}
use Rattle.ec_esc.proofs.controller.Controller.serve.Goals as goal

pub returns-else-is_addressed : goal.returns-else-is_addressed
returns-else-is_addressed c =
    IsServed-others c.args.command c.args.frame.now c.args.k c.args.self.now c.requires.arrives
    (sym (c.is_addressed.ensures ∙ ap (λ (a : Addressing). is_addressed a c.args.self.now
    (nth c.args.frame.now c.args.k).address) c.addressing.ensures) ∙ c.if-is_addressed.false)
