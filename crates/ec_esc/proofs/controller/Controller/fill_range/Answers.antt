use Rattle.std.proofs.Common.{sym, ◌∙◌, arith}
use Rattle.ec_areas.proofs.Laws.{filled_inside}
use Rattle.ec_esc.proofs.controller.Controller.fill_range.Goals as goal

pub fill_mailbox-requires : goal.fill_mailbox-requires
fill_mailbox-requires c =
    let inside = filled_inside c.args.before.now c.args.range.first c.args.range.count c.in-Some.number
    (sym c.filled_by.ensures ∙ c.in-Some.is) in
    omega arith
