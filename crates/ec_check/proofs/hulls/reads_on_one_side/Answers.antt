use Rattle.std.proofs.Common.{◌≡◌, length, refl, arith}
use Rattle.ec_check.specs.Line.{controllers_by}
use Rattle.ec_check.proofs.LineLemmas.{length-controllers_by}
use Rattle.ec_check.proofs.OneSideLemmas.{IsReadSoFar-first, EachReadsOnOneSide-end}
use Rattle.ec_check.proofs.hulls.reads_on_one_side.Goals as goal

pub loop-slave-init : goal.loop-slave-init
loop-slave-init g c =
    IsReadSoFar-first (controllers_by g.S.Mapped.controller c.args.line.now) c.of_no_bits-read.result
    c.of_no_bits-read.ensures

pub returns : goal.returns
returns g c =
    let line = controllers_by g.S.Mapped.controller c.args.line.now in
    let end : c.loop-slave.slave ≡ length line =
    omega (arith, length-controllers_by g.S.Mapped.controller c.args.line.now) in
    (λ _. EachReadsOnOneSide-end line c.loop-slave.read (rw end at c.loop-slave.invariant), λ _. refl)
