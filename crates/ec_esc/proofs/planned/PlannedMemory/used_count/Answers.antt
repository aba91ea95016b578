use Rattle.std.proofs.Common.{◌≡◌, length, ◌∙◌, ap, arith}
use Rattle.ec_areas.specs.Extent.{mapped_count}
use Rattle.ec_areas.specs.declared.extent.Extent.{Extent}
use Rattle.ec_areas.proofs.Laws.{length-fmmus_of, mapped_count-le}
use Rattle.ec_esc.proofs.planned.PlannedMemory.used_count.Goals as goal

pub returns-then-self-clause-limit : goal.returns-then-self-clause-limit
returns-then-self-clause-limit c =
    let fmmus = c.self.inside.fmmus in
    let count : c.self.inside.extent.count ≡ mapped_count fmmus =
    ap (λ (e : Extent). e.count) (c.self.invariant.extent_is c.if-self.true) in
    let all : length fmmus ≡ 8 = ap length c.self.invariant.fmmus_are ∙ length-fmmus_of c.self.inside.memory in
    omega (arith, count, all, mapped_count-le fmmus)
