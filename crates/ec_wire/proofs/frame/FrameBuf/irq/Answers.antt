use Rattle.std.proofs.Common.{◌+◌, ◌∙◌, ap}
use Rattle.ec_wire.proofs.FrameLemmas.{Keeps-view, field-irq}
use Rattle.ec_wire.proofs.frame.FrameBuf.irq.Goals as goal

pub returns : goal.returns
returns c = c.word.ensures
    ∙ field-irq _ _ _ _ c.args.k (c.start-at.result + 8) (Keeps-view c.self.invariant c.self.view_is)
    c.requires (ap (λ n. n + 8) c.start-at.ensures.value)
