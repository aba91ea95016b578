use Rattle.std.proofs.Common.{◌*◌, ◌/◌, true, length, sym, arith}
use Rattle.ec_areas.specs.Areas.{is_readable}
use Rattle.ec_areas.proofs.ReachLemmas.{AllPass, read_whole, names_whole}
use Rattle.ec_areas.proofs.logical.read_run.Goals as goal

pub returns-clause-bits : goal.returns-clause-bits
returns-clause-bits c =
    let run = c.args.run in
    let pass : AllPass (is_readable c.args.managers.now) true run.physical run.count =
    λ p starts ends. c.are_readable.ensures.each c.if-not-are_readable.false (p / 8) (omega arith)
    (omega arith) in
    read_whole (is_readable c.args.managers.now) c.args.into.now c.args.memory.now c.copy_bits.new.into
    run.at run.physical run.count pass c.copy_bits.ensures

pub returns-clause-served : goal.returns-clause-served
returns-clause-served c =
    let run = c.args.run in
    let pass : AllPass (is_readable c.args.managers.now) true run.physical run.count =
    λ p starts ends. c.are_readable.ensures.each c.if-not-are_readable.false (p / 8) (omega arith)
    (omega arith) in
    sym (names_whole (is_readable c.args.managers.now) run.at run.physical run.count
    (8 * length c.args.into.now) c.requires.run.some c.requires.run.data_inside pass)
