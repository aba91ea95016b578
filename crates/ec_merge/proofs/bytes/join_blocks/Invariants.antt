use Rattle.std.proofs.Common.{◌*◌}
use Rattle.ec_merge.specs.Bytes.{IsJoinedUpTo}
use Rattle.ec_merge.proofs.bytes.join_blocks.Given as goal

abbrev pub invariant-loop-block : goal.invariant-loop-block
invariant-loop-block l = IsJoinedUpTo (l.block * 32) l.sent l.initial.into l.other l.into
