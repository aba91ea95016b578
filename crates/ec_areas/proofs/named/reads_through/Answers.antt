use Rattle.std.proofs.Common.{◌+◌, ◌*◌, None, Some, sym, ◌∙◌}
use Rattle.ec_areas.specs.Logical.{read_place}
use Rattle.ec_areas.specs.Met.{readable_in}
use Rattle.ec_areas.proofs.LogicalLemmas.{read_place_not_for_reading, read_place-run}
use Rattle.ec_areas.proofs.NamesLemmas.{names_same, names_nowhere}
use Rattle.ec_areas.proofs.named.reads_through.Goals as goal

pub returns-then-not-reads : goal.returns-then-not-reads
returns-then-not-reads c =
    let managers = c.args.managers.now in
    let f = c.args.fmmu.now in
    let from = 8 * c.args.address in
    sym (names_nowhere (λ i. read_place managers f (from + i)) (8 * c.args.bytes)
    (λ i _. read_place_not_for_reading managers f (from + i) (sym c.reads.ensures ∙ c.if-not-reads.true)))

pub returns-in-Some : goal.returns-in-Some
returns-in-Some c =
    let managers = c.args.managers.now in
    let f = c.args.fmmu.now in
    let from = 8 * c.args.address in
    c.reads_run.ensures (8 * c.args.bytes) c.in-Some.ensures.inside.data_inside
    ∙ names_same (readable_in managers c.in-Some.run') (λ i. read_place managers f (from + i)) (8 * c.args.bytes)
    (λ i inside. read_place-run managers f (Some c.in-Some.run') from i (sym c.reads.ensures
    ∙ c.if-not-reads.false) (c.in-Some.ensures.physical i inside))

pub returns-in-None : goal.returns-in-None
returns-in-None c =
    let managers = c.args.managers.now in
    let f = c.args.fmmu.now in
    let from = 8 * c.args.address in
    sym (names_nowhere (λ i. read_place managers f (from + i)) (8 * c.args.bytes)
    (λ i inside. sym (read_place-run managers f None from i (sym c.reads.ensures
    ∙ c.if-not-reads.false) (c.in-None.ensures.physical i inside))))
