use Rattle.std.proofs.Common.{◌*◌, None, Some, sym, ◌∙◌}
use Rattle.ec_areas.specs.Met.{target_in}
use Rattle.ec_areas.proofs.WriteLemmas.{targets, targets_not_for_writing, targets-run}
use Rattle.ec_areas.proofs.NamesLemmas.{names_same, names_nowhere}
use Rattle.ec_areas.proofs.named.writes_through.Goals as goal

pub returns-then-not-writes : goal.returns-then-not-writes
returns-then-not-writes c =
    let managers = c.args.managers.now in
    let f = c.args.fmmu.now in
    let from = 8 * c.args.address in
    sym (names_nowhere (targets managers f from) (8 * c.args.bytes)
    (λ i _. targets_not_for_writing managers f from i (sym c.writes.ensures ∙ c.if-not-writes.true)))

pub returns-in-Some : goal.returns-in-Some
returns-in-Some c =
    let managers = c.args.managers.now in
    let f = c.args.fmmu.now in
    let from = 8 * c.args.address in
    c.writes_run.ensures (8 * c.args.bytes) c.in-Some.ensures.inside.data_inside
    ∙ names_same (target_in managers c.in-Some.run') (targets managers f from) (8 * c.args.bytes)
    (λ i inside. targets-run managers f (Some c.in-Some.run') from i (sym c.writes.ensures
    ∙ c.if-not-writes.false) (c.in-Some.ensures.physical i inside))

pub returns-in-None : goal.returns-in-None
returns-in-None c =
    let managers = c.args.managers.now in
    let f = c.args.fmmu.now in
    let from = 8 * c.args.address in
    sym (names_nowhere (targets managers f from) (8 * c.args.bytes)
    (λ i inside. sym (targets-run managers f None from i (sym c.writes.ensures
    ∙ c.if-not-writes.false) (c.in-None.ensures.physical i inside))))
