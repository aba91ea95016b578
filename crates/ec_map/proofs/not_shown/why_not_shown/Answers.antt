use Rattle.std.proofs.Common.{◌≡◌, ap, ◌∙◌, refl}
use Rattle.ec_regs.specs.SyncMan.{guards_outputs}
use Rattle.ec_check.specs.Line.{controllers_by, sync_manager_of}
use Rattle.ec_map.specs.Item.{items_by}
use Rattle.ec_map.proofs.NotShownLemmas.{area_of, last_of, outputs_size, outputs_end, IsFirst-left}
use Rattle.ec_map.proofs.NotShownLemmas.{IsFirst-never, no_why}
use Rattle.ec_map.proofs.not_shown.why_not_shown.Goals as goal

pub last_byte-last-requires-clause-some : goal.last_byte-last-requires-clause-some
last_byte-last-requires-clause-some g c =
    outputs_size c.sync_manager_of-manager.result
    (ap guards_outputs c.sync_manager_of-manager.ensures ∙ c.requires.outputs)

pub last_byte-last-requires-clause-end : goal.last_byte-last-requires-clause-end
last_byte-last-requires-clause-end g c =
    outputs_end c.sync_manager_of-manager.result
    (ap guards_outputs c.sync_manager_of-manager.ensures ∙ c.requires.outputs)

pub first_left-requires-clause-area : goal.first_left-requires-clause-area
first_left-requires-clause-area g c =
    rw (c.area.ensures) (outputs_size c.sync_manager_of-manager.result
    (ap guards_outputs c.sync_manager_of-manager.ensures ∙ c.requires.outputs))

pub returns-in-Some : goal.returns-in-Some
returns-in-Some g c =
    let line = controllers_by g.S.Mapped.controller c.args.line.now in
    let is = c.sync_manager_of-manager.ensures in
    let area : c.area.result ≡ area_of (sync_manager_of line c.args.slave c.args.number) =
    c.area.ensures ∙ ap area_of is in
    let last : c.last_byte-last.result ≡ last_of (sync_manager_of line c.args.slave c.args.number) =
    c.last_byte-last.ensures ∙ ap last_of is in
    IsFirst-left line (items_by g.I.Asking.item c.args.items.now) c.args.slave c.args.number c.in-Some.item
    (rw (← area, ← last) c.in-Some.ensures)

pub returns-then-is_written : goal.returns-then-is_written
returns-then-is_written g c =
    let line = controllers_by g.S.Mapped.controller c.args.line.now in
    let is = c.sync_manager_of-manager.ensures in
    let area : c.area.result ≡ area_of (sync_manager_of line c.args.slave c.args.number) =
    c.area.ensures ∙ ap area_of is in
    let last : c.last_byte-last.result ≡ last_of (sync_manager_of line c.args.slave c.args.number) =
    c.last_byte-last.ensures ∙ ap last_of is in
    no_why line (items_by g.I.Asking.item c.args.items.now) c.args.slave c.args.number (rw (← area, ← last) c.in-None.ensures)
    (rw (← last) (c.if-is_written.ensures.yes refl))

pub returns-else-is_written : goal.returns-else-is_written
returns-else-is_written g c =
    let line = controllers_by g.S.Mapped.controller c.args.line.now in
    let is = c.sync_manager_of-manager.ensures in
    let area : c.area.result ≡ area_of (sync_manager_of line c.args.slave c.args.number) =
    c.area.ensures ∙ ap area_of is in
    let last : c.last_byte-last.result ≡ last_of (sync_manager_of line c.args.slave c.args.number) =
    c.last_byte-last.ensures ∙ ap last_of is in
    IsFirst-never line (items_by g.I.Asking.item c.args.items.now) c.args.slave c.args.number (rw (← area, ← last) c.in-None.ensures)
    (rw (← last) (c.if-is_written.ensures.no refl))
