-- The exit status of a master's run, whichever it is, and what it tells.
use Rattle.std.specs.Prelude.{◌≡◌, ◌⊎◌, ◌&&◌, ℕ, Bool, true, false, Option, List, length, Result, Ok, Err}
use Rattle.ec_map.specs.Item.{ItemRecord}
use Rattle.ec_run.specs.Cycles.{End}
use Rattle.ec_run.specs.Watched.{WatchedState, untold}
use Rattle.ec_run.specs.declared.cycles.Cycles.{Cycles}
use Rattle.ecat_master.specs.Course.{Sides}
use Rattle.ecat_master.specs.Exits.{start_status}
use Rattle.ecat_master.specs.GoodRun.{IsMade}
use Rattle.ecat_master.specs.Last.{in_op, status_told}
use Rattle.ec_regs.specs.declared.al.AlState.{AlState}
use Rattle.ecat_master.specs.Leaving.{IsLeft, MayBeLeft}
use Rattle.ecat_master.specs.Start.{IsCaused}
use Rattle.ecat_master.specs.declared.leaving.Left.{Left}
use Rattle.ecat_master.specs.declared.leaving.Left.TheVariants.{AsTheyAre, All, NotAll}
use Rattle.ecat_master.specs.declared.run.LinePlan.{LinePlan}
use Rattle.ecat_master.specs.declared.run.TheConstants.{FAILED}
use Rattle.ecat_master.specs.declared.startup.StartFault.{StartFault}
use Rattle.ecat_master.specs.declared.teller.Unwritten.{Unwritten}

-- are the slaves as they are to be left
abbrev pub is_well : Left → Bool
is_well AsTheyAre = true
is_well (All state) = true
is_well (NotAll state) = false

-- behind cycles: that of the last one, or 3 where not all could be written
abbrev pub HasStatus : Result (Option End) Unwritten → Bool → ℕ → Type 0
HasStatus (Err unwritten) all_well status = status ≡ FAILED
HasStatus (Ok last) all_well status = (status ≡ FAILED) ⊎ (status ≡ status_told last all_well)

-- it is 3 where output or log could not be written; that of the fault where the line could not be started,
-- and the fault has its cause; and else, behind a start and a course of cycles, that of the last cycle, if
-- there was one, and of the way in which the slaves were left
pub data IsEnded {P D T : Type 0} (sides : Sides P D T) (before : P) (work : List ItemRecord)
    (planned : LinePlan) (status : ℕ) : Type 0 where
  unwritten : status ≡ FAILED → IsEnded sides before work planned status
  not_started : (fault : StartFault)
      → IsCaused sides.heard (untold before) planned.line.now planned.plan.now.identities.now fault
      → status ≡ start_status fault → IsEnded sides before work planned status
  ran : (last : Option End) (cycles : Cycles) (behind : WatchedState P) (left : Left)
      (later : WatchedState P) (leave : Option AlState) → IsMade sides before work planned last cycles behind
      → MayBeLeft planned.plan.now.leave_by_task planned.plan.now.leave leave
      → IsLeft sides.heard leave (length planned.line.now) behind left later
      → status ≡ status_told last (is_well left && in_op planned.plan.now.states cycles.image)
      → IsEnded sides before work planned status
