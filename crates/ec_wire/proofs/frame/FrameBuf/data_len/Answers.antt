use Rattle.std.proofs.Common.{◌∙◌, ◌+◌, ap, ◌%◌}
use Rattle.ec_wire.proofs.FrameLemmas.{Keeps-view, field-length}
use Rattle.ec_wire.proofs.frame.FrameBuf.data_len.Goals as goal

pub returns : goal.returns
returns c =
    let kept = Keeps-view c.self.invariant c.self.view_is in
    c.from.ensures ∙ ap (λ n. n % 2048) c.word.ensures
    ∙ field-length _ _ _ _ c.args.k (c.start-at.result + 6) kept c.requires
    (ap (λ n. n + 6) c.start-at.ensures.value)
