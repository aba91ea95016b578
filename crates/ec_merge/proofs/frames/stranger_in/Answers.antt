use Rattle.std.proofs.Common.{sym, ◌∙◌, below_more}
use Rattle.ec_merge.proofs.frames.stranger_in.Goals as goal

pub loop-k-preserved : goal.loop-k-preserved
loop-k-preserved c = below_more _ _ c.loop-k.invariant (sym c.belongs.ensures ∙ c.if-not-belongs.false)
