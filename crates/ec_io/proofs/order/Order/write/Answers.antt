use Rattle.std.proofs.Common.{◌≡◌, ◌+◌, ◌++◌, ◌∙◌, sym, ap, drop, length, List, ℕ}
use Rattle.ec_io.specs.Order.{order_bytes, order_head}
use Rattle.ec_io.proofs.order.Order.write.Goals as goal

pub returns-clause-written : goal.returns-clause-written
unfolding order_bytes
returns-clause-written c =
    let outputs : List ℕ = c.args.self.now.outputs.now in
    let before : List ℕ = c.args.into.now in
    let head : c.order_head-head.result ≡ order_head c.args.self.now.seen (length outputs) =
    c.order_head-head.ensures in
    let size : c.in_ok-size.size ≡ 16 + length outputs = c.in_ok-size.ensures.value in
    c.put_packet.ensures
    ∙ ap (λ (h : List ℕ). h ++ outputs ++ drop (length h + length outputs) before) head
    ∙ ap (λ (n : ℕ). order_head c.args.self.now.seen (length outputs) ++ outputs ++ drop n before) (sym size)
