use Rattle.std.proofs.Common.{◌≡◌, ◌*◌, ◌/◌, ℕ, Bool, true, false, cond, Option, None, Some, length, sym}
use Rattle.std.proofs.Common.{◌∙◌, refl}
use Rattle.ec_regs.proofs.Laws.{with_bits_none, with_bits_same_places}
use Rattle.ec_areas.specs.Areas.{is_writable}
use Rattle.ec_areas.specs.Met.{target_in, writable_in}
use Rattle.ec_areas.proofs.WriteLemmas.{targets, sources, targets_not_for_writing, sources_not_for_writing}
use Rattle.ec_areas.proofs.WriteLemmas.{targets-run, sources-run}
use Rattle.ec_areas.proofs.NamesLemmas.{names_same, names_nowhere}
use Rattle.ec_areas.proofs.logical_write.write_through.Goals as goal

pub returns-then-not-writes-clause-bits : goal.returns-then-not-writes-clause-bits
returns-then-not-writes-clause-bits c =
    let from = 8 * c.args.address in
    let bits = 8 * length c.args.payload.now in
    sym (with_bits_none c.args.memory.now c.args.payload.now
    (sources c.args.managers.now c.args.fmmu.now from bits) c.requires
    (λ p _. sources_not_for_writing c.args.managers.now c.args.fmmu.now from bits p
    (sym c.writes.ensures ∙ c.if-not-writes.true)))

pub returns-then-not-writes-clause-served : goal.returns-then-not-writes-clause-served
returns-then-not-writes-clause-served c =
    let from = 8 * c.args.address in
    sym (names_nowhere (targets c.args.managers.now c.args.fmmu.now from) (8 * length c.args.payload.now)
    (λ i _. targets_not_for_writing c.args.managers.now c.args.fmmu.now from i (sym c.writes.ensures
    ∙ c.if-not-writes.true)))

pub returns-in-Some-clause-bits : goal.returns-in-Some-clause-bits
returns-in-Some-clause-bits c =
    let managers = c.args.managers.now in
    let f = c.args.fmmu.now in
    let from = 8 * c.args.address in
    let bits = 8 * length c.args.payload.now in
    c.write_run.ensures.bits
    ∙ with_bits_same_places c.args.memory.now c.args.payload.now (writable_in managers c.in-Some.run')
    (sources managers f from bits)
    (λ p _. sources-run managers f (Some c.in-Some.run') from bits p (sym c.writes.ensures
    ∙ c.if-not-writes.false) (c.in-Some.ensures.data p))

pub returns-in-Some-clause-served : goal.returns-in-Some-clause-served
returns-in-Some-clause-served c =
    let managers = c.args.managers.now in
    let f = c.args.fmmu.now in
    let from = 8 * c.args.address in
    c.write_run.ensures.served
    ∙ names_same (target_in managers c.in-Some.run') (targets managers f from) (8 * length c.args.payload.now)
    (λ i inside. targets-run managers f (Some c.in-Some.run') from i (sym c.writes.ensures
    ∙ c.if-not-writes.false) (c.in-Some.ensures.physical i inside))

-- nothing is nothing under any condition
none_either : (b : Bool) → cond b None None ≡ (let none : Option ℕ = None in none)
none_either true = refl
none_either false = refl

pub returns-in-None-clause-bits : goal.returns-in-None-clause-bits
returns-in-None-clause-bits c =
    let managers = c.args.managers.now in
    let f = c.args.fmmu.now in
    let from = 8 * c.args.address in
    let bits = 8 * length c.args.payload.now in
    sym (with_bits_none c.args.memory.now c.args.payload.now (sources managers f from bits) c.requires
    (λ p _. sym (sources-run managers f None from bits p (sym c.writes.ensures
    ∙ c.if-not-writes.false) (c.in-None.ensures.data p)) ∙ none_either (is_writable managers (p / 8))))

pub returns-in-None-clause-served : goal.returns-in-None-clause-served
returns-in-None-clause-served c =
    let managers = c.args.managers.now in
    let f = c.args.fmmu.now in
    let from = 8 * c.args.address in
    sym (names_nowhere (targets managers f from) (8 * length c.args.payload.now)
    (λ i inside. sym (targets-run managers f None from i (sym c.writes.ensures
    ∙ c.if-not-writes.false) (c.in-None.ensures.physical i inside))))
