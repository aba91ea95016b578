use Rattle.std.proofs.Common.{◌+◌, ◌∙◌, ap}
use Rattle.ec_wire.proofs.FrameLemmas.{Keeps-view, field-address}
use Rattle.ec_wire.proofs.frame.FrameBuf.address.Goals as goal

pub returns : goal.returns
returns c = c.double_word.ensures
    ∙ field-address _ _ _ _ c.args.k (c.start-at.result + 2) (Keeps-view c.self.invariant c.self.view_is)
    c.requires (ap (λ n. n + 2) c.start-at.ensures.value)
