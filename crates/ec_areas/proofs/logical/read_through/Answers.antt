use Rattle.std.proofs.Common.{◌+◌, ◌*◌, None, Some, length, sym, ◌∙◌, arith}
use Rattle.ec_regs.proofs.Laws.{with_bits_none, with_bits_same_places}
use Rattle.ec_areas.specs.Logical.{read_place}
use Rattle.ec_areas.specs.Met.{readable_in}
use Rattle.ec_areas.proofs.LogicalLemmas.{read_place_not_for_reading, read_place-run}
use Rattle.ec_areas.proofs.NamesLemmas.{names_same, names_nowhere}
use Rattle.ec_areas.proofs.logical.read_through.Goals as goal

pub returns-then-not-reads-clause-bits : goal.returns-then-not-reads-clause-bits
returns-then-not-reads-clause-bits c =
    sym (with_bits_none c.args.into.now c.args.memory.now
    (λ i. read_place c.args.managers.now c.args.fmmu.now (8 * c.args.address + i)) (λ k. omega
    (arith, c.type_inv.into k))
    (λ i _. read_place_not_for_reading c.args.managers.now c.args.fmmu.now (8 * c.args.address + i)
    (sym c.reads.ensures ∙ c.if-not-reads.true)))

pub returns-then-not-reads-clause-served : goal.returns-then-not-reads-clause-served
returns-then-not-reads-clause-served c =
    sym (names_nowhere (λ i. read_place c.args.managers.now c.args.fmmu.now (8 * c.args.address + i))
    (8 * length c.args.into.now)
    (λ i _. read_place_not_for_reading c.args.managers.now c.args.fmmu.now (8 * c.args.address + i)
    (sym c.reads.ensures ∙ c.if-not-reads.true)))

pub returns-in-Some-clause-bits : goal.returns-in-Some-clause-bits
returns-in-Some-clause-bits c =
    let managers = c.args.managers.now in
    let f = c.args.fmmu.now in
    let from = 8 * c.args.address in
    c.read_run.ensures.bits
    ∙ with_bits_same_places c.args.into.now c.args.memory.now (readable_in managers c.in-Some.run')
    (λ i. read_place managers f (from + i))
    (λ i inside. read_place-run managers f (Some c.in-Some.run') from i (sym c.reads.ensures
    ∙ c.if-not-reads.false) (c.in-Some.ensures.physical i inside))

pub returns-in-Some-clause-served : goal.returns-in-Some-clause-served
returns-in-Some-clause-served c =
    let managers = c.args.managers.now in
    let f = c.args.fmmu.now in
    let from = 8 * c.args.address in
    c.read_run.ensures.served
    ∙ names_same (readable_in managers c.in-Some.run') (λ i. read_place managers f (from + i))
    (8 * length c.args.into.now)
    (λ i inside. read_place-run managers f (Some c.in-Some.run') from i (sym c.reads.ensures
    ∙ c.if-not-reads.false) (c.in-Some.ensures.physical i inside))

pub returns-in-None-clause-bits : goal.returns-in-None-clause-bits
returns-in-None-clause-bits c =
    let managers = c.args.managers.now in
    let f = c.args.fmmu.now in
    let from = 8 * c.args.address in
    sym (with_bits_none c.args.into.now c.args.memory.now (λ i. read_place managers f (from + i))
    (λ k. omega (arith, c.type_inv.into k))
    (λ i inside. sym (read_place-run managers f None from i (sym c.reads.ensures
    ∙ c.if-not-reads.false) (c.in-None.ensures.physical i inside))))

pub returns-in-None-clause-served : goal.returns-in-None-clause-served
returns-in-None-clause-served c =
    let managers = c.args.managers.now in
    let f = c.args.fmmu.now in
    let from = 8 * c.args.address in
    sym (names_nowhere (λ i. read_place managers f (from + i)) (8 * length c.args.into.now)
    (λ i inside. sym (read_place-run managers f None from i (sym c.reads.ensures
    ∙ c.if-not-reads.false) (c.in-None.ensures.physical i inside))))
