-- What a run was that ends with the exit status 0.
use Rattle.std.proofs.Common.{◌≡◌, List, Option, Result, Ok, Err, IfOk, IsOk, subst}
use Rattle.ec_diag.specs.declared.located.Located.{Located}
use Rattle.ec_map.specs.Item.{ItemRecord}
use Rattle.ec_run.specs.Cycles.{End, begun_with}
use Rattle.ec_run.specs.Watched.{WatchedState, untold}
use Rattle.ec_run.specs.declared.cycles.Cycles.{Cycles}
use Rattle.ecat_master.specs.Course.{IsCourse, Sides}
use Rattle.ecat_master.specs.GoodRun.{EndsGood, IsGoodRun, IsMade}
use Rattle.ecat_master.specs.Over.{IsOver}
use Rattle.ecat_master.specs.Start.{IsStarted}
use Rattle.ecat_master.specs.declared.run.LinePlan.{LinePlan}
use Rattle.ecat_master.specs.declared.teller.Unwritten.{Unwritten}

-- what was made of a line that was started, where all could be written
pub made_by : {P D T : Type 0} (sides : Sides P D T) (given : P) (before begun later : WatchedState P)
    (work : List ItemRecord) (planned : LinePlan) (cable : Located) (begun_with_work cycles : Cycles)
    (pace : T) (ran : Result (Option End) Unwritten) → before ≡ untold given
    → begun_with_work ≡ begun_with work
    → IsStarted sides.heard before planned.line.now planned.plan.now.identities.now cable begun
    → IfOk ran (λ last. IsCourse sides planned begun_with_work begun last cycles later)
    → IsOver sides.over planned.plan.now pace ran cycles
    → IfOk ran (λ last. IsMade sides given work planned last cycles later)
made_by sides given before begun later work planned cable first cycles pace (Err unwritten) same is started
    course over =
    tt
made_by sides given before begun later work planned cable first cycles pace (Ok last) same is started course
    over =
    record {
      cable = cable;
      begun = begun;
      started = subst (λ (s : WatchedState _). IsStarted sides.heard s planned.line.now
          planned.plan.now.identities.now cable begun) same started;
      course = subst (λ (s : Cycles). IsCourse sides planned s begun last cycles later) is course;
      pace = pace;
      over = over;
    }

pub good_run : {P D T : Type 0} (sides : Sides P D T) (given : P) (work : List ItemRecord) (planned : LinePlan)
    (cycles : Cycles) (later : WatchedState P) (ran : Result (Option End) Unwritten)
    → IfOk ran (λ last. IsMade sides given work planned last cycles later)
    → IfOk ran (λ last. EndsGood last planned.plan.now cycles) → IsOk ran
    → IsGoodRun sides given work planned
good_run sides given work planned cycles later (Ok last) made good there =
    record { last = last; cycles = cycles; later = later; made = made; good = good }
good_run sides given work planned cycles later (Err unwritten) made good there = absurd (cc)
