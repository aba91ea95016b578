-- How far a slave is that is being brought to Op again (IEC 61158-6-12, AL management).
use Rattle.std.specs.Prelude.{ℕ, List, Option}
use Rattle.ec_services.specs.declared.surely.Progress.{Progress}
use Rattle.ec_run.specs.declared.recovering.StepProgress.{StepProgress}
use Rattle.ec_run.specs.declared.recovery.Seen.{Seen}
use Rattle.ec_run.specs.declared.step.Step.{Step}

-- a slave at a place, of which this was seen first; the steps that are left; how often it was asked in the
-- first of them for what it has not come to yet, and how often no slave answered; how far the startup object
-- is that is being written, if one is; and how often AL status is read at the most for a state
pub record RecoveryState : Type 0 where
  pub place : ℕ
  pub seen : Seen
  pub steps : List Step
  pub asked : ℕ
  pub unanswered : ℕ
  pub written : Option Progress
  pub reads : ℕ

-- the same, by the parts of which somebody else keeps how far the first step is
abbrev pub resumed : ℕ → Seen → List Step → StepProgress → ℕ → RecoveryState
resumed place seen steps first reads = record {
  place = place;
  seen = seen;
  steps = steps;
  asked = first.asked;
  unanswered = first.unanswered;
  written = first.written;
  reads = reads;
}

abbrev pub progress_of : RecoveryState → StepProgress
progress_of r = record { asked = r.asked; unanswered = r.unanswered; written = r.written }
