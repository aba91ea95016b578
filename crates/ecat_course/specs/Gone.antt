-- How a master goes through a course, by its exit status.
use Rattle.std.specs.Prelude.{◌≡◌, ℕ}
use Rattle.ecat_master.specs.Course.{Sides}
use Rattle.ecat_master.specs.Ended.{IsEnded}
use Rattle.ecat_master.specs.GoodRun.{IsGoodRun}
use Rattle.ecat_master.specs.declared.run.LinePlan.{LinePlan}
use Rattle.ecat_master.specs.declared.run.Plan.{Plan}
use Rattle.ecat_course.specs.Stands.{Stands}
use Rattle.ecat_course.specs.declared.course.Course.{Course}

-- the line and the counters that are cycled on are those of the course; how a master runs on them is as it is
-- planned, with the identities and the names of the course, and its cycles tell the states if the course says
-- so
pub record IsPlannedFor (course : Course) (plan : Plan) (planned : LinePlan) : Type 0 where
  pub line : planned.line.now ≡ course.line.items
  pub expected : planned.expected.now ≡ course.expected
  pub states : planned.plan.now.states ≡ course.states
  pub identities : planned.plan.now.identities.now ≡ course.identities.items
  pub names : planned.plan.now.names.now ≡ course.names.items
  pub rest : planned.plan.now ≡ record plan {
    states = planned.plan.now.states;
    identities = planned.plan.now.identities;
    names = planned.plan.now.names;
  }

-- a run that ends well, of the line, the work and the counters of a course that stands
pub record IsGoodCourse {P D T : Type 0} (sides : Sides P D T) (before : P) (course : Course) (plan : Plan)
    : Type 0 where
  pub stands : ∥ Stands course.line.items course.work course.expected ∥₁
  pub planned : LinePlan
  pub is_planned : IsPlannedFor course plan planned
  pub run : IsGoodRun sides before course.work planned

-- and one that ends with a status, whichever it is
pub record IsEndedCourse {P D T : Type 0} (sides : Sides P D T) (before : P) (course : Course) (plan : Plan)
    (status : ℕ) : Type 0 where
  pub stands : ∥ Stands course.line.items course.work course.expected ∥₁
  pub planned : LinePlan
  pub is_planned : IsPlannedFor course plan planned
  pub run : IsEnded sides before course.work planned status
