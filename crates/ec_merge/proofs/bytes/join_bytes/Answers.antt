use Rattle.std.proofs.Common.{◌≡◌}
use Rattle.ec_merge.specs.Bytes.{joined_bytes}
use Rattle.ec_merge.proofs.BytesLemmas.{joined_from_parts, IsJoined-joined}
use Rattle.ec_merge.proofs.bytes.join_bytes.Goals as goal

pub returns-clause-bytes : goal.returns-clause-bytes
returns-clause-bytes c =
    joined_from_parts _ _ _ _ c.join_blocks.new.into _ c.requires.into c.requires.other c.join_blocks.ensures
    c.join_rest.ensures.count c.join_rest.ensures.before c.join_rest.ensures.joined

pub returns-clause-bits : goal.returns-clause-bits
returns-clause-bits c =
    let joined : c.join_rest.new.into ≡ joined_bytes c.args.sent.now c.args.into.now c.args.other.now =
    joined_from_parts _ _ _ _ c.join_blocks.new.into _ c.requires.into c.requires.other c.join_blocks.ensures
    c.join_rest.ensures.count c.join_rest.ensures.before c.join_rest.ensures.joined in
    rw joined (IsJoined-joined c.args.sent.now c.args.into.now c.args.other.now c.requires.into
    c.requires.other)
