use Rattle.std.proofs.Common.{◌≡◌}
use Rattle.ec_merge.proofs.FrameLemmas.{joined_part}
use Rattle.ec_merge.proofs.frames.join_all.Given as goal

-- k datagrams are joined
abbrev pub invariant-loop-k : goal.invariant-loop-k
invariant-loop-k l = l.into ≡ joined_part l.k l.sent l.initial.into l.other
