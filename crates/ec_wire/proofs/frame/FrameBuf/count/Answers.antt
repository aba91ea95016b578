use Rattle.std.proofs.Common.{◌∙◌}
use Rattle.ec_wire.proofs.FrameLemmas.{Keeps-view, length-kept}
use Rattle.ec_wire.proofs.frame.FrameBuf.count.Goals as goal

pub returns-clause-count : goal.returns-clause-count
returns-clause-count c =
    c.len.ensures.value ∙ length-kept _ _ _ _ (Keeps-view c.self.invariant c.self.view_is)

pub returns-clause-value : goal.returns-clause-value
returns-clause-value c = (Keeps-view c.self.invariant c.self.view_is).value
