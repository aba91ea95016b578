use Rattle.std.proofs.Common.{◌+◌, ◌/◌, ◌%◌, ◌==◌, ◌∙◌, ap}
use Rattle.ec_wire.proofs.FrameLemmas.{Keeps-view, field-circulating}
use Rattle.ec_wire.proofs.frame.FrameBuf.circulating.Goals as goal

pub returns : goal.returns
returns c = ap (λ n. n / 16384 % 2 == 1) c.word.ensures
    ∙ field-circulating _ _ _ _ c.args.k (c.start-at.result + 6) (Keeps-view c.self.invariant c.self.view_is)
    c.requires (ap (λ n. n + 6) c.start-at.ensures.value)
