use Rattle.std.proofs.Common.{◌≡◌, ◌∙◌, sym, arith, Some, None}
use Rattle.ec_io.specs.Reply.{reply_fault}
use Rattle.ec_io.proofs.ByteLemmas.{AreBytes}
use Rattle.ec_io.proofs.ReplyLemmas.{IsReply-said, reply-room, reply_at-IsReply, reply_fault-IsReply}
use Rattle.ec_io.proofs.reply.Reply.read.Goals as goal

pub reply_in-requires : goal.reply_in-requires
reply_in-requires c = reply-room c.args.bytes.now (sym c.reply_fault.ensures ∙ c.in-None.is)

pub returns-in-Some-clause-only_found : goal.returns-in-Some-clause-only_found
returns-in-Some-clause-only_found c v is =
    let fault : reply_fault c.args.bytes.now ≡ Some c.in-Some.fault =
    sym c.reply_fault.ensures ∙ c.in-Some.is in
    let none : reply_fault c.args.bytes.now ≡ None = reply_fault-IsReply c.args.bytes.now v is in
    cc

pub returns-in-None-clause-found : goal.returns-in-None-clause-found
returns-in-None-clause-found c =
    let all : AreBytes c.args.bytes.now = λ i. omega (arith, c.type_inv.bytes i) in
    IsReply-said c.args.bytes.now _ all (sym c.reply_fault.ensures ∙ c.in-None.is) c.reply_in.ensures

pub returns-in-None-clause-only_found : goal.returns-in-None-clause-only_found
returns-in-None-clause-only_found c v is = c.reply_in.ensures ∙ reply_at-IsReply c.args.bytes.now v is
