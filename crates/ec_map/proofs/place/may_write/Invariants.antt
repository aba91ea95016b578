-- None of the sync managers so far does.
use Rattle.std.proofs.Common.{◌≡◌, ℕ, ◌<◌, false}
use Rattle.ec_areas.specs.Records.{sync_manager_at}
use Rattle.ec_map.specs.Place.{is_output_run}
use Rattle.ec_map.proofs.place.may_write.Given as goal

abbrev pub invariant-loop-number : goal.invariant-loop-number
invariant-loop-number g l =
    (n : ℕ) → n < l.number
    → is_output_run l.from l.count (sync_manager_at (g.S.Mapped.controller l.slave).memory n) ≡ false
