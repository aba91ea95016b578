use Rattle.std.proofs.Common.{◌≡◌, ◌+◌, ◌*◌, arith}
use Rattle.ec_merge.proofs.BytesLemmas.{one_block_more}
use Rattle.ec_merge.proofs.bytes.join_blocks.Goals as goal

pub loop-block-preserved : goal.loop-block-preserved
loop-block-preserved c =
    let n = c.loop-block.block * 32 in
    let next : (c.loop-block.block + 1) * 32 ≡ c.loop-block.block * 32 + 32 = omega arith in
    rw next (one_block_more n c.args.sent.now c.args.into.now c.args.other.now c.loop-block.into
    c.join_block.new.into c.requires.into c.requires.other
    (omega (arith, c.requires.room, c.loop-block-test.true)) c.loop-block.invariant c.join_block.ensures)
