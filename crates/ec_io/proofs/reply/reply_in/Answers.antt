use Rattle.std.proofs.Common.{ap, ◌==◌, ℕ}
use Rattle.std.proofs.lemmas.List.{take_rest}
use Rattle.ec_io.specs.Reply.{reply_at}
use Rattle.ec_io.proofs.ReplyLemmas.{reply_with-same}
use Rattle.ec_io.proofs.reply.reply_in.Goals as goal

pub returns : goal.returns
returns c =
    reply_with-same _ _ _ _ (reply_at c.args.bytes.now)
    c.u64_at.ensures
    c.u16_at.ensures
    (ap (λ (n : ℕ). n == 1) c.u16_at-2.ensures)
    (take_rest c.args.bytes.now 20)
