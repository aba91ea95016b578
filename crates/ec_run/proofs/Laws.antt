-- The laws that crates above cite: cycle after cycle, and what so many of them have counted and asked; how
-- many trips steps and recoveries make; and the answer by which a slave was brought to a state.
use Rattle.std.proofs.Common.{◌≡◌, ℕ, suc, ◌+◌, List, Ok, Err, refl, ap, arith, ◌∙◌}
use Rattle.ec_master.specs.Ports.{Trips}
use Rattle.ec_master.specs.declared.verdict.Verdict.TheVariants.{Good, Short, Over}
use Rattle.ec_run.specs.Cycles.{AddUp, End, counted, IsCycle, Run, OneMore, IsRun}
use Rattle.ec_run.specs.declared.counts.Counts.{Counts}
use Rattle.ec_run.specs.declared.cycles.Cycles.{Cycles}
use Rattle.ec_run.specs.declared.outputs.Outputs.{Outputs}
pub use Rattle.ec_run.proofs.TravelsLemmas.{along_within, are_done_within, brings_within, done_within}
pub use Rattle.ec_run.proofs.TravelsLemmas.{looked_at_within, looked_up_within, turn_within}
pub use Rattle.ec_run.proofs.TravelsLemmas.{recovered_within, tried_within, within_less, within_none}
pub use Rattle.ec_run.proofs.TravelsLemmas.{within_one, within_then}
pub use Rattle.ec_run.proofs.AlikeLemmas.{are_done_of, asks_of, brings_of, counted_of, done_of, leaves_of}
pub use Rattle.ec_run.proofs.AlikeLemmas.{looked_up_of, recovered_of, runs_of, sure_of, talks_of, within_of}
pub use Rattle.ec_run.proofs.AlikeCycleLemmas.{cycle_of, run_of}
pub use Rattle.ec_run.proofs.CycleTripsLemmas.{cycle_within}
pub use Rattle.ec_run.proofs.OutputLemmas.{filled_length}
pub use Rattle.ec_run.proofs.EndLemmas.{EndsWith, done_ends, recovered_ends, tried_ends}

pub run_none : {P : Type 0} (trips : Trips P) (outputs : Outputs) (expected : List ℕ) (start : Cycles)
    → Run trips outputs expected 0 start start
unfolding Run
run_none trips outputs expected start = refl

pub run_more : {P : Type 0} (trips : Trips P) (outputs : Outputs) (expected : List ℕ) (n : ℕ)
    (start between now : Cycles) → Run trips outputs expected n start between
    → OneMore trips outputs expected between now → Run trips outputs expected (suc n) start now
unfolding Run
run_more trips outputs expected n start between now so_far more = (between, so_far, more)

-- so many cycles were made, and their ends add up
pub record RunSoFar {P : Type 0} (trips : Trips P) (outputs : Outputs) (expected : List ℕ)
    (start now : Cycles)
    : Type 0 where
  pub number : ℕ
  pub run : Run trips outputs expected number start now
  pub counts : now.counts.cycles ≡ start.counts.cycles + number
  pub adds_up : AddUp now.counts
  pub asked : now.asked ≡ start.asked

pub run_starts : {P : Type 0} (trips : Trips P) (outputs : Outputs) (expected : List ℕ) (start : Cycles)
    → AddUp start.counts → RunSoFar trips outputs expected start start
run_starts trips outputs expected start sum = record {
  number = 0;
  run = run_none trips outputs expected start;
  counts = omega arith;
  adds_up = sum;
  asked = refl;
}

-- one cycle more is counted, and asks the same
one-more : (end : End) (c : Counts) → (counted end c).cycles ≡ c.cycles + 1
one-more (Err fault) c = refl
one-more (Ok Good) c = refl
one-more (Ok (Short k)) c = refl
one-more (Ok (Over k)) c = refl

pub run_goes_on : {P : Type 0} (trips : Trips P) (outputs : Outputs) (expected : List ℕ)
    (start between now : Cycles) (before later : P) (end : End)
    → RunSoFar trips outputs expected start between
    → IsCycle trips before outputs expected between end now later → AddUp now.counts
    → RunSoFar trips outputs expected start now
run_goes_on trips outputs expected start between now before later end so_far cycle sum = record {
  number = suc so_far.number;
  run = run_more trips outputs expected so_far.number start between now so_far.run
      (record { before = before; end = end; later = later; cycle = cycle });
  counts = ap (λ (c : Cycles). c.counts.cycles) cycle.after_is ∙ one-more end between.counts
      ∙ ap (λ (n : ℕ). n + 1) so_far.counts
      ∙ (let e : start.counts.cycles + so_far.number + 1 ≡ start.counts.cycles + suc so_far.number =
      omega arith in e);
  adds_up = sum;
  asked = ap (λ (c : Cycles). c.asked) cycle.after_is ∙ so_far.asked;
}

pub is_run : {P : Type 0} (trips : Trips P) (outputs : Outputs) (expected : List ℕ) (start now : Cycles)
    → RunSoFar trips outputs expected start now → IsRun trips outputs expected start now
is_run trips outputs expected start now so_far = record {
  number = so_far.number;
  run = so_far.run;
  counts = so_far.counts;
}
