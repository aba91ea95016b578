-- The exit status that tells how the last of the cycles ended.
use Rattle.std.specs.Prelude.{ℕ, Bool, true, not, if◌then◌else◌, Option, None, Some, List}
use Rattle.std.specs.Prelude.{Ok, Err}
use Rattle.ec_map.specs.Item.{ItemRecord}
use Rattle.ec_master.specs.declared.cycle.CycleFault.TheVariants.{Port, Stranger}
use Rattle.ec_master.specs.declared.verdict.Verdict.TheVariants.{Good, Short, Over}
use Rattle.ec_run.specs.Cycles.{End}
use Rattle.ec_run.specs.States.{tells_all_in_op}

-- the answers of the last good cycle tell that all slaves are in Op; where cycles don't tell the states,
-- nothing speaks against it
abbrev pub in_op : Bool → Option (List ItemRecord) → Bool
in_op states None = not states
in_op states (Some image) = if states then tells_all_in_op image else true

-- 0 where the last cycle was good with all slaves in Op, or there was none; 1 where they were not all in Op,
-- its counters were others or a frame came back that is none of those sent; 3 where a port failed
abbrev pub status_told : Option End → Bool → ℕ
status_told None all_in_op = 0
status_told (Some (Ok Good)) all_in_op = if all_in_op then 0 else 1
status_told (Some (Ok (Short k))) all_in_op = 1
status_told (Some (Ok (Over k))) all_in_op = 1
status_told (Some (Err Stranger)) all_in_op = 1
status_told (Some (Err Port)) all_in_op = 3
