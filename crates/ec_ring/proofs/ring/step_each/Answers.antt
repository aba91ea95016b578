-- One slave more has taken its step.
use Rattle.std.proofs.Common.{◌≡◌, ℕ, length, ap, sym, ◌∙◌, arith}
use Rattle.ec_app.specs.Slave.{step}
use Rattle.ec_ring.proofs.MapLemmas.{map_from, map_from-zero, map_from-next, map_from-length}
use Rattle.ec_ring.proofs.ring.step_each.Goals as goal

pub loop-slave-init : goal.loop-slave-init
loop-slave-init c = map_from-zero step c.args.slaves.now

pub loop-slave-preserved : goal.loop-slave-preserved
loop-slave-preserved c =
    rw c.step.ensures.step
    (map_from-next step c.loop-slave.slave-index c.loop-slave.slaves c.slave-item.result (omega arith)
    ∙ c.loop-slave.invariant)

pub returns : goal.returns
returns c =
    let all : c.loop-slave.slave-index ≡ length c.loop-slave.slaves = omega arith in
    sym (map_from-length step c.loop-slave.slaves)
    ∙ ap (λ (i : ℕ). map_from step i c.loop-slave.slaves) (sym all)
    ∙ c.loop-slave.invariant
