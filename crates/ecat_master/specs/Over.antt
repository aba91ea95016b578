-- Why a course of cycles has ended.
use Rattle.std.specs.Prelude.{◌≡◌, ◌&&◌, Bool, true, false, not, Option, Some, Result, Ok, Err}
use Rattle.ec_master.specs.declared.verdict.Verdict.TheVariants.{Good}
use Rattle.ec_run.specs.Cycles.{End}
use Rattle.ec_run.specs.declared.cycles.Cycles.{Cycles}
use Rattle.ec_run.specs.declared.cycles.TheConstants.{MOST_CYCLES}
use Rattle.ecat_master.specs.Last.{in_op}
use Rattle.ecat_master.specs.declared.run.Plan.{Plan}
use Rattle.ecat_master.specs.declared.teller.Unwritten.{Unwritten}

-- a cycle was good, with all slaves in Op
abbrev pub ends_well : End → Bool → Bool
ends_well (Ok Good) all_in_op = all_in_op
ends_well _ all_in_op = false

-- one that was not is the last one, where the plan wants that
abbrev pub stops_behind : Plan → End → Bool → Bool
stops_behind plan end all_in_op = plan.stop && not (ends_well end all_in_op)

-- no other cycle was due, by the pace; as many were counted as can be; the last one did not end well, and the
-- plan wants such a one to be the last; or it could not be written what cycles came to
pub data IsOver {T : Type 0} (over : T → Type 0) (plan : Plan) (pace : T)
    (ran : Result (Option End) Unwritten) (cycles : Cycles) : Type 0 where
  none_due : over pace → IsOver over plan pace ran cycles
  most : cycles.counts.cycles ≡ MOST_CYCLES → IsOver over plan pace ran cycles
  stopped : (end : End) → ran ≡ Ok (Some end) → plan.stop ≡ true
      → ends_well end (in_op plan.states cycles.image) ≡ false → IsOver over plan pace ran cycles
  unwritten : (why : Unwritten) → ran ≡ Err why → IsOver over plan pace ran cycles
