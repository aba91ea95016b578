use Rattle.std.proofs.Common.{ℕ, List, [], ◌∷◌, ◌+◌, ◌*◌, take, slice_index, Ok, Err}
use Rattle.std.proofs.lemmas.Result.{err_from_is_err_and}
use Rattle.ec_regs.specs.declared.registers.TheConstants.{SYNC_MANAGER_BASE, SYNC_MANAGER_SIZE}
use Rattle.ec_regs.specs.declared.registers.TheConstants.{SYNC_MANAGER_ACTIVATE}
use Rattle.ec_services.specs.Ask.{write, Question}
use Rattle.ec_run.specs.Step.{register_write, holds}
use Rattle.ec_run.specs.declared.step.TheConstants.{AREA_BYTES, SWITCH_AT}
use Rattle.ec_run.proofs.StepLemmas.{talks_next, talks_fault, talks_last}
use Rattle.ec_run.proofs.step.set_manager.Goals as goal

-- where the record stands, and the byte that switches it on
abbrev record_at : ℕ → ℕ
record_at n = SYNC_MANAGER_BASE + SYNC_MANAGER_SIZE * n

abbrev switch_off : ℕ → ℕ → Question (Unit {0})
switch_off station n = write (register_write station (record_at n + SYNC_MANAGER_ACTIVATE) (0 ∷ []))

abbrev record_write : ℕ → ℕ → List ℕ → Question (Unit {0})
record_write station n bytes = write (register_write station (record_at n) bytes)

abbrev area_holds : ℕ → ℕ → List ℕ → Question (Unit {0})
area_holds station n bytes = holds station (record_at n) (take AREA_BYTES bytes)

abbrev switch_holds : ℕ → ℕ → List ℕ → Question (Unit {0})
switch_holds station n bytes =
    holds station (record_at n + SYNC_MANAGER_ACTIVATE) (slice_index bytes SWITCH_AT ∷ [])

pub returns-in_err-write_at-clause-talk : goal.returns-in_err-write_at-clause-talk
returns-in_err-write_at-clause-talk g c =
    let s : ℕ = c.args.station in
    let n : ℕ = c.args.number in
    let bytes : List ℕ = c.args.bytes.now in
    let p = err_from_is_err_and c.from_residual.result c.from_residual.ensures.1 in
    rw (p.1, p.2)
    (talks_fault g.P.Ports.trips c.args.ports.now c.write_at.new.ports (switch_off s n)
    (record_write s n bytes ∷ area_holds s n bytes ∷ switch_holds s n bytes ∷ []) (Ok tt)
    c.in_err-write_at.field-0.0 c.in_err-write_at.ensures.asked)

pub returns-in_err-write_at-2-clause-talk : goal.returns-in_err-write_at-2-clause-talk
returns-in_err-write_at-2-clause-talk g c =
    let s : ℕ = c.args.station in
    let n : ℕ = c.args.number in
    let bytes : List ℕ = c.args.bytes.now in
    let p = err_from_is_err_and c.from_residual-in_err-write_at-2.result
    c.from_residual-in_err-write_at-2.ensures.1 in
    rw (p.1, p.2)
    (talks_next g.P.Ports.trips c.args.ports.now c.write_at.new.ports c.write_at-2.new.ports (switch_off s n)
    (record_write s n bytes ∷ area_holds s n bytes ∷ switch_holds s n bytes ∷ []) (Ok tt)
    (Err c.in_err-write_at-2.field-0.0) c.in_ok-write_at.ensures.asked
    (talks_fault g.P.Ports.trips c.write_at.new.ports c.write_at-2.new.ports (record_write s n bytes)
    (area_holds s n bytes ∷ switch_holds s n bytes ∷ []) (Ok tt)
    c.in_err-write_at-2.field-0.0 c.in_err-write_at-2.ensures.asked))

pub returns-in_err-check_at-clause-talk : goal.returns-in_err-check_at-clause-talk
returns-in_err-check_at-clause-talk g c =
    let s : ℕ = c.args.station in
    let n : ℕ = c.args.number in
    let bytes : List ℕ = c.args.bytes.now in
    let p = err_from_is_err_and c.from_residual-in_err-check_at.result
    c.from_residual-in_err-check_at.ensures.1 in
    rw (p.1, p.2)
    (talks_next g.P.Ports.trips c.args.ports.now c.write_at.new.ports c.check_at.new.ports (switch_off s n)
    (record_write s n bytes ∷ area_holds s n bytes ∷ switch_holds s n bytes ∷ []) (Ok tt)
    (Err c.in_err-check_at.field-0.0) c.in_ok-write_at.ensures.asked
    (talks_next g.P.Ports.trips c.write_at.new.ports c.write_at-2.new.ports c.check_at.new.ports
    (record_write s n bytes) (area_holds s n bytes ∷ switch_holds s n bytes ∷ []) (Ok tt)
    (Err c.in_err-check_at.field-0.0) c.in_ok-write_at-2.ensures.asked
    (talks_fault g.P.Ports.trips c.write_at-2.new.ports c.check_at.new.ports (area_holds s n bytes)
    (switch_holds s n bytes ∷ []) (Ok tt)
    c.in_err-check_at.field-0.0 c.in_err-check_at.ensures.asked)))

pub returns-clause-talk : goal.returns-clause-talk
returns-clause-talk g c =
    let s : ℕ = c.args.station in
    let n : ℕ = c.args.number in
    let bytes : List ℕ = c.args.bytes.now in
    talks_next g.P.Ports.trips c.args.ports.now c.write_at.new.ports c.check_at-2.new.ports (switch_off s n)
    (record_write s n bytes ∷ area_holds s n bytes ∷ switch_holds s n bytes ∷ []) (Ok tt)
    c.check_at-2.result c.in_ok-write_at.ensures.asked
    (talks_next g.P.Ports.trips c.write_at.new.ports c.write_at-2.new.ports c.check_at-2.new.ports
    (record_write s n bytes) (area_holds s n bytes ∷ switch_holds s n bytes ∷ []) (Ok tt)
    c.check_at-2.result c.in_ok-write_at-2.ensures.asked
    (talks_next g.P.Ports.trips c.write_at-2.new.ports c.check_at.new.ports c.check_at-2.new.ports
    (area_holds s n bytes) (switch_holds s n bytes ∷ []) (Ok tt)
    c.check_at-2.result c.in_ok-check_at.ensures.asked
    (talks_last g.P.Ports.trips c.check_at.new.ports c.check_at-2.new.ports (switch_holds s n bytes)
    c.check_at-2.result c.check_at-2.ensures.asked)))
