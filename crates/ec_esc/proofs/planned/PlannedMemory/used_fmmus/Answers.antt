use Rattle.std.proofs.Common.{ℕ, List, ◌∙◌, ap}
use Rattle.ec_areas.specs.Records.{fmmus_of}
use Rattle.ec_esc.proofs.PlannedLemmas.{first_are_used}
use Rattle.ec_esc.proofs.planned.PlannedMemory.used_fmmus.Goals as goal

pub returns : goal.returns
returns c =
    first_are_used c.args.self.now c.self.inside.fmmus c.used_count-count.result
    (c.self.invariant.fmmus_are ∙ ap (λ (m : List ℕ). fmmus_of m) c.self.view_is) c.used_count-count.ensures.count
