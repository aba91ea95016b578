use Rattle.std.proofs.Common.{◌*◌, ◌&&◌, sym, ◌∙◌, ap}
use Rattle.std.specs.List.{list_any}
use Rattle.std.proofs.Math.Bool.{and_assoc}
use Rattle.ec_regs.specs.SyncMan.{guards_outputs}
use Rattle.ec_areas.specs.Areas.{is_writable}
use Rattle.ec_areas.specs.Showing.{last_byte, reaches}
use Rattle.ec_areas.proofs.ShowingLemmas.{names-write_map}
use Rattle.ec_areas.proofs.showing.writes_outputs.Goals as goal

pub returns : goal.returns
returns c =
    let area = c.args.area.now in
    let managers = c.args.managers.now in
    let fmmus = c.args.fmmus.now in
    let from = 8 * c.args.address in
    let bits = 8 * c.args.count in
    c.is_last_written.ensures
    ∙ and_assoc (guards_outputs area) (list_any (reaches from bits (last_byte area)) fmmus)
    (is_writable managers (last_byte area))
    ∙ ap (λ b. guards_outputs area && b) (sym (names-write_map managers fmmus from bits (last_byte area)))
