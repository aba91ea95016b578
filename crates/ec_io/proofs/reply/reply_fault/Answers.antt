use Rattle.std.proofs.Common.{◌∙◌, sym}
use Rattle.ec_io.specs.Reply.{reply_kind}
use Rattle.ec_io.proofs.FrontLemmas.{HasFront-none}
use Rattle.ec_io.proofs.ReplyLemmas.{reply_fault-front, reply_fault-last}
use Rattle.ec_io.proofs.reply.reply_fault.Goals as goal

pub last_fault-requires : goal.last_fault-requires
last_fault-requires c =
    (HasFront-none 20 reply_kind c.args.bytes.now (sym c.front_fault.ensures ∙ c.in-None.is)).room

pub returns-in-Some : goal.returns-in-Some
returns-in-Some c =
    sym (reply_fault-front c.args.bytes.now c.in-Some.fault (sym c.front_fault.ensures ∙ c.in-Some.is))

pub returns-in-None : goal.returns-in-None
returns-in-None c =
    c.last_fault.ensures
    ∙ sym (reply_fault-last c.args.bytes.now (sym c.front_fault.ensures ∙ c.in-None.is))
