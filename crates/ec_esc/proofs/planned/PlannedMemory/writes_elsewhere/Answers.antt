use Rattle.std.proofs.Common.{◌*◌, ℕ, List, sym, ◌∙◌, ap}
use Rattle.ec_regs.specs.declared.fmmu.Fmmu.{Fmmu}
use Rattle.ec_areas.specs.Hull.{write_hull_of, misses}
use Rattle.ec_areas.specs.Records.{fmmus_of, sync_managers_of}
use Rattle.ec_areas.specs.declared.extent.Extent.{Extent}
use Rattle.ec_areas.proofs.Laws.{writes_none}
use Rattle.ec_esc.proofs.planned.PlannedMemory.writes_elsewhere.Goals as goal

pub returns-then-self : goal.returns-then-self
returns-then-self c = λ far.
    let from : ℕ = 8 * c.args.address in
    let n : ℕ = 8 * c.args.count in
    writes_none (sync_managers_of c.args.self.now) (fmmus_of c.args.self.now) from n
    (sym (ap (λ (e : Extent). misses e.writes from n) (c.self.invariant.extent_is c.if-self.true)
    ∙ ap (λ (fs : List Fmmu). misses (write_hull_of fs) from n) c.self.invariant.fmmus_are
    ∙ ap (λ (m : List ℕ). misses (write_hull_of (fmmus_of m)) from n) c.self.view_is)
    ∙ sym c.misses.ensures ∙ far)
