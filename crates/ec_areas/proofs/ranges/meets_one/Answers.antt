use Rattle.std.proofs.Common.{ℕ, eqb, sym, ◌∙◌, ap}
use Rattle.std.proofs.lemmas.List.Sums.{length-filter}
use Rattle.ec_regs.specs.declared.sync_man.SyncMan.{SyncMan}
use Rattle.ec_areas.specs.Ranges.{meets}
use Rattle.ec_areas.proofs.ranges.meets_one.Goals as goal

pub returns : goal.returns
returns c =
    let test = λ (s : SyncMan). meets s c.args.range.first c.args.range.count in
    ap (λ (n : ℕ). eqb n 1) (c.areas_met.ensures ∙ sym (length-filter test c.args.managers.now))
