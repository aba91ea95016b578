use Rattle.std.proofs.Common.{ℕ, List, [], ◌∷◌, ◌+◌, ◌*◌, Ok}
use Rattle.std.proofs.lemmas.Result.{err_from_is_err_and}
use Rattle.ec_regs.specs.declared.registers.TheConstants.{FMMU_BASE, FMMU_SIZE}
use Rattle.ec_services.specs.Ask.{write}
use Rattle.ec_run.specs.Step.{register_write, holds}
use Rattle.ec_run.proofs.StepLemmas.{talks_next, talks_fault, talks_last}
use Rattle.ec_run.proofs.step.set_fmmu.Goals as goal

pub returns-in_err-write_at-clause-talk : goal.returns-in_err-write_at-clause-talk
returns-in_err-write_at-clause-talk g c =
    let bytes : List ℕ = c.args.bytes.now in
    let at : ℕ = FMMU_BASE + FMMU_SIZE * c.args.number in
    let p = err_from_is_err_and c.from_residual.result c.from_residual.ensures.1 in
    rw (p.1, p.2)
    (talks_fault g.P.Ports.trips c.args.ports.now c.write_at.new.ports
    (write (register_write c.args.station at bytes)) (holds c.args.station at bytes ∷ []) (Ok tt)
    c.in_err-write_at.field-0.0 c.in_err-write_at.ensures.asked)

pub returns-clause-talk : goal.returns-clause-talk
returns-clause-talk g c =
    let bytes : List ℕ = c.args.bytes.now in
    let at : ℕ = FMMU_BASE + FMMU_SIZE * c.args.number in
    talks_next g.P.Ports.trips c.args.ports.now c.write_at.new.ports c.check_at.new.ports
    (write (register_write c.args.station at bytes)) (holds c.args.station at bytes ∷ []) (Ok tt)
    c.check_at.result c.in_ok-write_at.ensures.asked
    (talks_last g.P.Ports.trips c.write_at.new.ports c.check_at.new.ports (holds c.args.station at bytes)
    c.check_at.result c.check_at.ensures.asked)
