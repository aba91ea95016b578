use Rattle.std.proofs.Common.{◌≡◌, ◌+◌, ◌++◌, ◌∙◌, sym, ap, drop, length, List, ℕ}
use Rattle.ec_io.specs.Reply.{reply_bytes, reply_head, reply_value}
use Rattle.ec_io.proofs.reply.Reply.write.Goals as goal

pub returns-clause-written : goal.returns-clause-written
unfolding reply_bytes
returns-clause-written c =
    let text : List ℕ = c.args.self.now.text.now in
    let before : List ℕ = c.args.into.now in
    let said : List ℕ = reply_head (reply_value c.args.self.now) in
    let head : c.reply_head-head.result ≡ said = c.reply_head-head.ensures in
    let size : c.in_ok-size.size ≡ 20 + length text = c.in_ok-size.ensures.value in
    c.put_packet.ensures
    ∙ ap (λ (h : List ℕ). h ++ text ++ drop (length h + length text) before) head
    ∙ ap (λ (n : ℕ). said ++ text ++ drop n before) (sym size)
