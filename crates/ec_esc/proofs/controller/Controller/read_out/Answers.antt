use Rattle.std.proofs.Common.{sym, ◌∙◌, arith}
use Rattle.ec_areas.proofs.Laws.{emptied_inside}
use Rattle.ec_esc.proofs.controller.Controller.read_out.Goals as goal

pub mark_empty-requires : goal.mark_empty-requires
mark_empty-requires c =
    let inside = emptied_inside c.managers.result.now c.range.result.first c.range.result.count c.in-Some.number
    (sym c.emptied_by.ensures ∙ c.in-Some.is) in
    omega arith
