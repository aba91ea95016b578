use Rattle.std.proofs.Common.{◌≡◌, ◌∙◌, sym, arith, Some, None}
use Rattle.ec_io.specs.Order.{order_fault}
use Rattle.ec_io.proofs.ByteLemmas.{AreBytes}
use Rattle.ec_io.proofs.OrderLemmas.{IsOrder-said, order-room, order_at-IsOrder, order_fault-IsOrder}
use Rattle.ec_io.proofs.order.Order.read.Goals as goal

pub order_in-requires : goal.order_in-requires
order_in-requires c = order-room c.args.bytes.now (sym c.front_fault.ensures ∙ c.in-None.is)

pub returns-in-Some-clause-fault : goal.returns-in-Some-clause-fault
returns-in-Some-clause-fault c = sym c.front_fault.ensures ∙ c.in-Some.is

pub returns-in-Some-clause-only_found : goal.returns-in-Some-clause-only_found
returns-in-Some-clause-only_found c v is =
    let fault : order_fault c.args.bytes.now ≡ Some c.in-Some.fault =
    sym c.front_fault.ensures ∙ c.in-Some.is in
    let none : order_fault c.args.bytes.now ≡ None = order_fault-IsOrder c.args.bytes.now v is in
    cc

pub returns-in-Some-clause-only_fault : goal.returns-in-Some-clause-only_fault
returns-in-Some-clause-only_fault c f is =
    let fault : order_fault c.args.bytes.now ≡ Some c.in-Some.fault =
    sym c.front_fault.ensures ∙ c.in-Some.is in
    cc

pub returns-in-None-clause-found : goal.returns-in-None-clause-found
returns-in-None-clause-found c =
    let all : AreBytes c.args.bytes.now = λ i. omega (arith, c.type_inv.bytes i) in
    IsOrder-said c.args.bytes.now _ all (sym c.front_fault.ensures ∙ c.in-None.is) c.order_in.ensures

pub returns-in-None-clause-only_found : goal.returns-in-None-clause-only_found
returns-in-None-clause-only_found c v is = c.order_in.ensures ∙ order_at-IsOrder c.args.bytes.now v is

pub returns-in-None-clause-only_fault : goal.returns-in-None-clause-only_fault
returns-in-None-clause-only_fault c f is =
    let none : order_fault c.args.bytes.now ≡ None = sym c.front_fault.ensures ∙ c.in-None.is in
    absurd (let bad : None ≡ Some f = sym none ∙ is in cc)
