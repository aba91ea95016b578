use Rattle.std.proofs.Common.{◌+◌, ◌∙◌, ap, get_or}
use Rattle.ec_wire.proofs.FrameLemmas.{Keeps-view, field-index}
use Rattle.ec_wire.proofs.frame.FrameBuf.index.Goals as goal

pub returns : goal.returns
returns c = ap (λ xs. get_or xs (c.start-at.result + 1) 0) c.as_slice.ensures.value
    ∙ field-index _ _ _ _ c.args.k (c.start-at.result + 1) (Keeps-view c.self.invariant c.self.view_is)
    c.requires (ap (λ n. n + 1) c.start-at.ensures.value)
