use Rattle.std.proofs.Common.{sym, ap, ◌∙◌, arith}
use Rattle.ec_regs.specs.SyncMan.{guards_outputs}
use Rattle.ec_check.specs.Line.{controllers_by}
use Rattle.ec_check.proofs.Laws.{length-controllers_by}
use Rattle.ec_map.proofs.NotShownLemmas.{mapped_from, mapped_to}
use Rattle.ec_map.proofs.not_shown.is_mapped_area.Goals as goal

pub returns-then-guards_outputs : goal.returns-then-guards_outputs
returns-then-guards_outputs g c =
    let line = controllers_by g.S.Mapped.controller c.args.line.now in
    let is = c.sync_manager_of-manager.ensures in (
      λ yes. mapped_from line c.args.slave c.args.number
          (record {
            slave_there = omega (arith, length-controllers_by g.S.Mapped.controller c.args.line.now);
            number_there = c.requires.number;
          })
          (ap guards_outputs (sym is) ∙ sym c.guards_outputs.ensures.value ∙ c.if-guards_outputs.true)
          (rw (← is) (rw (c.area.ensures) at (c.maps_some.ensures.0 yes))),
      λ area. c.maps_some.ensures.1 (rw (c.area.ensures, is) (mapped_to line c.args.slave c.args.number area)),
    )
