use Rattle.std.proofs.Common.{◌≡◌, suc, ◌+◌, ◌-◌, ◌∙◌, sym, arith}
use Rattle.ecat_master.specs.declared.scanning.TheConstants.{ASKS}
use Rattle.ecat_master.proofs.ScanLemmas.{asks_end, asks_enough, asks_fail, asks_on, few_behind}
use Rattle.ecat_master.proofs.scanning.count_often.Goals as goal

pub returns-in-Err : goal.returns-in-Err
returns-in-Err g c =
    asks_fail g.P.HeardPorts.trips c.args.ports.now c.loop-ask.ports c.count_once.new.ports ASKS
    (ASKS - c.loop-ask._ask) (ASKS - (c.loop-ask._ask + 1)) c.loop-ask.counted c.in-Err.fault
    c.loop-ask.invariant.0
    (let e : ASKS - c.loop-ask._ask ≡ suc (ASKS - (c.loop-ask._ask + 1)) =
    omega (arith, c.loop-ask-test.true) in e)
    c.in-Err.ensures

pub returns-then-is_enough : goal.returns-then-is_enough
returns-then-is_enough g c =
    rw (c.keep.ensures) (asks_enough g.P.HeardPorts.trips c.args.ports.now c.loop-ask.ports
    c.count_once.new.ports ASKS (ASKS - c.loop-ask._ask) (ASKS - (c.loop-ask._ask + 1)) c.loop-ask.counted
    c.in-Ok.told
    c.loop-ask.invariant.0
    (let e : ASKS - c.loop-ask._ask ≡ suc (ASKS - (c.loop-ask._ask + 1)) =
    omega (arith, c.loop-ask-test.true) in e)
    c.in-Ok.ensures (rw (sym c.keep.ensures) (sym c.is_enough.ensures ∙ c.if-is_enough.true)))

pub loop-ask-preserved : goal.loop-ask-preserved
loop-ask-preserved g c = (
  rw (c.keep.ensures) (asks_on g.P.HeardPorts.trips c.args.ports.now c.loop-ask.ports
      c.count_once.new.ports ASKS (ASKS - c.loop-ask._ask) (ASKS - (c.loop-ask._ask + 1)) c.loop-ask.counted
      c.in-Ok.told
      c.loop-ask.invariant.0
      (let e : ASKS - c.loop-ask._ask ≡ suc (ASKS - (c.loop-ask._ask + 1)) =
      omega (arith, c.loop-ask-test.true) in e)
      c.in-Ok.ensures (rw (sym c.keep.ensures) (sym c.is_enough.ensures ∙ c.if-is_enough.false))),
  rw (c.keep.ensures) (few_behind c.loop-ask.counted c.in-Ok.told c.loop-ask.invariant.1
      (rw (sym c.keep.ensures) (sym c.is_enough.ensures ∙ c.if-is_enough.false))),
)

pub returns : goal.returns
returns g c =
    asks_end g.P.HeardPorts.trips c.args.ports.now c.loop-ask.ports ASKS (ASKS - c.loop-ask._ask)
    c.loop-ask.counted c.loop-ask.invariant.0
    (let e : ASKS - c.loop-ask._ask ≡ 0 = omega (arith, c.loop-ask-test.false) in e)
