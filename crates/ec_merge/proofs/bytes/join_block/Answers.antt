use Rattle.std.proofs.Common.{ap, sym}
use Rattle.std.specs.Simd.Lanes.{chunk, put_chunk}
use Rattle.ec_merge.proofs.BytesLemmas.{joined-zip2}
use Rattle.ec_merge.proofs.bytes.join_block.Goals as goal

pub returns : goal.returns
returns c =
    let at = c.args.at in
    ap (put_chunk at c.args.into.now)
    (sym (joined-zip2 (chunk at 32 c.args.sent.now) (chunk at 32 c.args.into.now)
    (chunk at 32 c.args.other.now)))
