use Rattle.std.proofs.Common.{◌*◌, ◌/◌, true, length, sym, arith}
use Rattle.ec_areas.specs.Areas.{is_writable}
use Rattle.ec_areas.proofs.ReachLemmas.{AllPass, write_whole, names_whole}
use Rattle.ec_areas.proofs.logical_write.write_run.Goals as goal

pub returns-clause-bits : goal.returns-clause-bits
returns-clause-bits c =
    let run = c.args.run in
    let pass : AllPass (is_writable c.args.managers.now) true run.physical run.count =
    λ p starts ends. c.are_writable.ensures.each c.if-not-are_writable.false (p / 8) (omega arith)
    (omega arith) in
    write_whole (is_writable c.args.managers.now) c.args.memory.now c.args.payload.now
    c.copy_bits.new.self run.physical run.at run.count pass c.copy_bits.ensures.value

pub returns-clause-served : goal.returns-clause-served
returns-clause-served c =
    let run = c.args.run in
    let pass : AllPass (is_writable c.args.managers.now) true run.physical run.count =
    λ p starts ends. c.are_writable.ensures.each c.if-not-are_writable.false (p / 8) (omega arith)
    (omega arith) in
    sym (names_whole (is_writable c.args.managers.now) run.at run.physical run.count
    (8 * length c.args.payload.now) c.requires.run.some c.requires.run.data_inside pass)
