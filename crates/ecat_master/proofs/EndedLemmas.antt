-- How a run ends, by its exit status.
use Rattle.std.proofs.Common.{◌≡◌, ◌&&◌, inl, inr, ℕ, List, Option, Result, Ok, Err, IfOk, length, subst}
use Rattle.ec_map.specs.Item.{ItemRecord}
use Rattle.ec_run.specs.Cycles.{End}
use Rattle.ec_run.specs.Watched.{WatchedState, untold}
use Rattle.ec_run.specs.declared.cycles.Cycles.{Cycles}
use Rattle.ecat_master.specs.Course.{Sides}
use Rattle.ecat_master.specs.Ended.{IsEnded, HasStatus, is_well}
use Rattle.ecat_master.specs.Exits.{start_status}
use Rattle.ecat_master.specs.GoodRun.{IsMade}
use Rattle.ecat_master.specs.Last.{in_op}
use Rattle.ec_regs.specs.declared.al.AlState.{AlState}
use Rattle.ecat_master.specs.Leaving.{IsLeft, MayBeLeft}
use Rattle.ecat_master.specs.Start.{IsCaused}
use Rattle.ecat_master.specs.declared.leaving.Left.{Left}
use Rattle.ecat_master.specs.declared.run.LinePlan.{LinePlan}
use Rattle.ecat_master.specs.declared.startup.StartFault.{StartFault}
use Rattle.ecat_master.specs.declared.teller.Unwritten.{Unwritten}

-- before the first cycle
pub ended_unstarted : {P D T : Type 0} (sides : Sides P D T) (given : P) (before : WatchedState P)
    (work : List ItemRecord) (planned : LinePlan) (status : ℕ) → before ≡ untold given
    → ((fault : StartFault)
    × IsCaused sides.heard before planned.line.now planned.plan.now.identities.now fault
    × (status ≡ start_status fault))
    → IsEnded sides given work planned status
ended_unstarted sides given before work planned status same (fault, cause, is) =
    IsEnded.not_started fault (subst (λ s. IsCaused sides.heard s planned.line.now
    planned.plan.now.identities.now fault) same cause) is

-- behind the last one
pub ended_behind : {P D T : Type 0} (sides : Sides P D T) (given : P) (work : List ItemRecord)
    (planned : LinePlan) (cycles : Cycles) (behind later : WatchedState P) (left : Left) (status : ℕ)
    (ran : Result (Option End) Unwritten) (leave : Option AlState)
    → IfOk ran (λ last. IsMade sides given work planned last cycles behind)
    → MayBeLeft planned.plan.now.leave_by_task planned.plan.now.leave leave
    → IsLeft sides.heard leave (length planned.line.now) behind left later
    → HasStatus ran (is_well left && in_op planned.plan.now.states cycles.image) status
    → IsEnded sides given work planned status
ended_behind sides given work planned cycles behind later left status (Err unwritten) leave made may is_left failed =
    IsEnded.unwritten failed
ended_behind sides given work planned cycles behind later left status (Ok last) leave made may is_left (inl failed) =
    IsEnded.unwritten failed
ended_behind sides given work planned cycles behind later left status (Ok last) leave made may is_left (inr told) =
    IsEnded.ran last cycles behind left later leave made may is_left told
