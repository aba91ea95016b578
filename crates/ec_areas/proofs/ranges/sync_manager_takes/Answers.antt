use Rattle.std.proofs.Common.{◌≡◌, ◌-◌, ◌%◌, ◌<◌, true, sym, ◌∙◌, arith}
use Rattle.std.proofs.lemmas.Bool.Decides.{nat_tests}
use Rattle.ec_areas.specs.Ranges.{is_in_sync_manager}
use Rattle.ec_areas.proofs.RangeLemmas.{takes_before_status}
use Rattle.ec_areas.proofs.ranges.sync_manager_takes.Goals as goal

pub returns-then-offset-lt-STATUS_OFFSET : goal.returns-then-offset-lt-STATUS_OFFSET
returns-then-offset-lt-STATUS_OFFSET c memory managers_are =
    let inside : is_in_sync_manager c.args.address ≡ true = sym c.contains.ensures ∙ c.if-not-contains.false in
    let base = c.from.ensures in
    let size = c.from-2.ensures in
    let before : (c.args.address - 2048) % 8 < 5 =
    rw (base, c.from-3.ensures) at c.if-offset-lt-STATUS_OFFSET.true in
    takes_before_status memory c.args.managers.now _ c.args.address c.is_active.result managers_are inside
    (grind (arith, nat_tests)) before
    (rw (base, size) at c.is_active.ensures.value)
