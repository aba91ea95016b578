use Rattle.std.proofs.Common.{arith}
use Rattle.std.proofs.lemmas.Bool.Decides.{nat_tests}
use Rattle.ec_areas.proofs.ShowingLemmas.{names-partner}
use Rattle.ec_areas.proofs.showing.has_bit_in.Goals as goal

pub returns-then-run-first : goal.returns-then-run-first
returns-then-run-first c =
    let is = names-partner c.args.run.physical c.args.run.at c.args.run.count c.args.address
    c.requires.some in
    grind (arith, nat_tests)

pub returns-else-run-first : goal.returns-else-run-first
returns-else-run-first c =
    let is = names-partner c.args.run.physical c.args.run.at c.args.run.count c.args.address
    c.requires.some in
    grind (arith, nat_tests)
