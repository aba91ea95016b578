-- A run that ends with the exit status 0: its line was started, cycles were made on it from there on, and the
-- last one was good with all slaves in Op.
use Rattle.std.specs.Prelude.{◌≡◌, Option, List, Ok}
use Rattle.ec_diag.specs.declared.located.Located.{Located}
use Rattle.ec_map.specs.Item.{ItemRecord}
use Rattle.ec_run.specs.Cycles.{End, begun_with}
use Rattle.ec_run.specs.Watched.{WatchedState, untold}
use Rattle.ec_run.specs.declared.cycles.Cycles.{Cycles}
use Rattle.ecat_master.specs.Course.{IsCourse, Sides}
use Rattle.ecat_master.specs.Last.{in_op, status_told}
use Rattle.ecat_master.specs.Over.{IsOver}
use Rattle.ecat_master.specs.Start.{IsStarted}
use Rattle.ecat_master.specs.declared.run.LinePlan.{LinePlan}
use Rattle.ecat_master.specs.declared.run.Plan.{Plan}

-- the status 0, by how the last cycle ended and by the image
abbrev pub EndsGood : Option End → Plan → Cycles → Type 0
EndsGood last plan cycles = status_told last (in_op plan.states cycles.image) ≡ 0

-- the line was started; from the ports as they were then there was a course of cycles, up to where no other
-- one was to come, which left the ports so, and of which the last one ended so, if there was any
pub record IsMade {P D T : Type 0} (sides : Sides P D T) (before : P) (work : List ItemRecord)
    (planned : LinePlan) (last : Option End) (cycles : Cycles) (later : WatchedState P) : Type 0 where
  pub cable : Located
  pub begun : WatchedState P
  pub started : IsStarted sides.heard (untold before) planned.line.now planned.plan.now.identities.now cable
      begun
  pub course : IsCourse sides planned (begun_with work) begun last cycles later
  pub pace : T
  pub over : IsOver sides.over planned.plan.now pace (Ok last) cycles

-- and the last one was good
pub record IsGoodRun {P D T : Type 0} (sides : Sides P D T) (before : P) (work : List ItemRecord)
    (planned : LinePlan) : Type 0 where
  pub last : Option End
  pub cycles : Cycles
  pub later : WatchedState P
  pub made : IsMade sides before work planned last cycles later
  pub good : EndsGood last planned.plan.now cycles
