use Rattle.std.proofs.Common.{◌≡◌, ◌+◌, ◌-◌, ◌*◌, sym, ◌∙◌, ap, arith}
use Rattle.ec_regs.specs.Pairs.{partner, first_logical, first_physical, pair_count}
use Rattle.ec_regs.proofs.Laws.{partner_none}
use Rattle.ec_areas.proofs.RunMetLemmas.{IsCut-ends, physical-cut, data-cut}
use Rattle.ec_areas.proofs.met.run_met.Goals as goal

pub returns-then-end-start-clause-physical : goal.returns-then-end-start-clause-physical
returns-then-end-start-clause-physical c = λ i inside.
    let f = c.args.fmmu.now in
    let start = c.max-start.result in
    let from = 8 * c.args.address in
    let empty : c.min-end.result - start ≡ 0 = omega arith in
    let cut = IsCut-ends (first_logical f) (pair_count f) from c.args.bytes c.min-to.result start
    c.min-end.result (omega arith) (omega arith) (omega arith) in
    sym (partner_none (start - from) (first_physical f + (start - first_logical f)) i)
    ∙ ap (λ n. partner (start - from) (first_physical f + (start - first_logical f)) n i) (sym empty)
    ∙ physical-cut (first_logical f) (first_physical f) (pair_count f) from
    (8 * c.args.bytes) start c.min-end.result i cut inside

pub returns-then-end-start-clause-data : goal.returns-then-end-start-clause-data
returns-then-end-start-clause-data c = λ p.
    let f = c.args.fmmu.now in
    let start = c.max-start.result in
    let from = 8 * c.args.address in
    let empty : c.min-end.result - start ≡ 0 = omega arith in
    let cut = IsCut-ends (first_logical f) (pair_count f) from c.args.bytes c.min-to.result start
    c.min-end.result (omega arith) (omega arith) (omega arith) in
    sym (partner_none (first_physical f + (start - first_logical f)) (start - from) p)
    ∙ ap (λ n. partner (first_physical f + (start - first_logical f)) (start - from) n p) (sym empty)
    ∙ data-cut (first_logical f) (first_physical f) (pair_count f) from
    (8 * c.args.bytes) start c.min-end.result p cut

pub returns-clause-physical : goal.returns-clause-physical
returns-clause-physical c = λ i inside.
    let f = c.args.fmmu.now in
    let start = c.max-start.result in
    let from = 8 * c.args.address in
    let cut = IsCut-ends (first_logical f) (pair_count f) from c.args.bytes c.min-to.result start
    c.min-end.result (omega arith) (omega arith) (omega arith) in
    let at : start - 8 * c.from-from.result ≡ start - from = omega arith in
    let physical : c.first_physical.result + (start - c.first_logical-first.result)
    ≡ first_physical f + (start - first_logical f) = omega arith in
    ap (λ x. partner x (c.first_physical.result + (start - c.first_logical-first.result))
    (c.min-end.result - start) i) at
    ∙ ap (λ x. partner (start - from) x (c.min-end.result - start) i) physical
    ∙ physical-cut (first_logical f) (first_physical f) (pair_count f) from
    (8 * c.args.bytes) start c.min-end.result i cut inside

pub returns-clause-data : goal.returns-clause-data
returns-clause-data c = λ p.
    let f = c.args.fmmu.now in
    let start = c.max-start.result in
    let from = 8 * c.args.address in
    let cut = IsCut-ends (first_logical f) (pair_count f) from c.args.bytes c.min-to.result start
    c.min-end.result (omega arith) (omega arith) (omega arith) in
    let at : start - 8 * c.from-from.result ≡ start - from = omega arith in
    let physical : c.first_physical.result + (start - c.first_logical-first.result)
    ≡ first_physical f + (start - first_logical f) = omega arith in
    ap (λ x. partner (c.first_physical.result + (start - c.first_logical-first.result)) x
    (c.min-end.result - start) p) at
    ∙ ap (λ x. partner x (start - from) (c.min-end.result - start) p) physical
    ∙ data-cut (first_logical f) (first_physical f) (pair_count f) from
    (8 * c.args.bytes) start c.min-end.result p cut
