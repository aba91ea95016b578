use Rattle.std.proofs.Common.{◌≡◌, arith}
use Rattle.ec_regs.specs.declared.registers.TheConstants.{FMMU_COUNT}
use Rattle.ec_check.specs.Line.{controllers_by}
use Rattle.ec_check.proofs.OneSideLemmas.{IsExchangedSoFar-slave}
use Rattle.ec_check.proofs.hulls.with_slave.Goals as goal

pub returns : goal.returns
returns g c =
    let line = controllers_by g.S.Mapped.controller c.args.line.now in
    let end : c.loop-number.number ≡ FMMU_COUNT = omega arith in
    IsExchangedSoFar-slave line c.args.slave c.loop-number.hulls (rw end at c.loop-number.invariant)
