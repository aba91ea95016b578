-- What is said of cycles over ports is said of those over others whose trips theirs are, and so of a course
-- of cycles.
use Rattle.std.proofs.Common.{ℕ, zero, suc, List, [], ◌∷◌, ap, Ok, Err}
use Rattle.ec_wire.specs.Datagram.{DatagramRecord}
use Rattle.ec_map.specs.Item.{ItemRecord}
use Rattle.ec_master.specs.Given.{AllThatCame}
use Rattle.ec_master.specs.Ports.{IsPortCycle, Outcome, Sends, Trips}
use Rattle.ec_master.specs.Suffice.{Brings, FramesSuffice}
use Rattle.ec_run.specs.Alike.{AreTripsOf}
use Rattle.ec_run.specs.Cycles.{End, IsCycle, IsRun, OneMore, Run}
use Rattle.ec_run.specs.declared.cycles.Cycles.{Cycles}
use Rattle.ec_run.specs.declared.outputs.Outputs.{Outputs}

-- ---- the frames of a cycle

sends_of : {P Q : Type 0} (f : P → Q) (S : Trips P) (T : Trips Q) → AreTripsOf f S T → (before later : P)
    (frames : List (List DatagramRecord)) (outcome : Outcome) → Sends S before frames outcome later
    → Sends T (f before) frames outcome (f later)
unfolding Sends
sends_of f S T are before later [] outcome (is, same) = (is, ap f same)
sends_of f S T are before later (sent ∷ rest) outcome (Err fault, between, trip, (is, same)) = (
  Err fault,
  f between,
  record {
    came = trip.came;
    made = are before sent trip.came between trip.made;
    comes = trip.comes;
  },
  (is, ap f same),
)
sends_of f S T are before later (sent ∷ rest) outcome (Ok joined, between, trip, (others, sends, is)) = (
  Ok joined,
  f between,
  record {
    came = trip.came;
    made = are before sent trip.came between trip.made;
    comes = trip.comes;
  },
  (others, sends_of f S T are between later rest others sends, is),
)

brought_of : {P Q : Type 0} (f : P → Q) (S : Trips P) (T : Trips Q) → AreTripsOf f S T → (before later : P)
    (frames : List (List DatagramRecord)) (came : AllThatCame) → Brings S before frames came later
    → Brings T (f before) frames came (f later)
unfolding Brings
brought_of f S T are before later frames [] same = ap f same
brought_of f S T are before later [] (came ∷ more) brings = absurd brings
brought_of f S T are before later (sent ∷ rest) (came ∷ more) (between, made, brings) = (
  f between,
  are before sent came between made,
  brought_of f S T are between later rest more brings,
)

-- ---- a cycle

port_cycle_of : {P Q : Type 0} (f : P → Q) (S : Trips P) (T : Trips Q) → AreTripsOf f S T
    → (before later : P) (items items_later : List ItemRecord) (expected : List ℕ) (end : End)
    → IsPortCycle S before items expected end items_later later
    → IsPortCycle T (f before) items expected end items_later (f later)
port_cycle_of f S T are before later items items_later expected end cycle = record {
  outcome = cycle.outcome;
  sends = sends_of f S T are before later _ cycle.outcome cycle.sends;
  ends = cycle.ends;
}

suffice_of : {P Q : Type 0} (f : P → Q) (S : Trips P) (T : Trips Q) → AreTripsOf f S T → (before later : P)
    (items items_later : List ItemRecord) (expected : List ℕ) (end : End)
    → FramesSuffice S before items expected end items_later later
    → FramesSuffice T (f before) items expected end items_later (f later)
suffice_of f S T are before later items items_later expected end suffices = record {
  came = suffices.came;
  brought = brought_of f S T are before later _ suffices.came suffices.brought;
  cycle = suffices.cycle;
  says = suffices.says;
  says_moving = suffices.says_moving;
  this_round = suffices.this_round;
}

pub cycle_of : {P Q : Type 0} (f : P → Q) (S : Trips P) (T : Trips Q) → AreTripsOf f S T → (before later : P)
    (outputs : Outputs) (expected : List ℕ) (s after : Cycles) (end : End)
    → IsCycle S before outputs expected s end after later
    → IsCycle T (f before) outputs expected s end after (f later)
cycle_of f S T are before later outputs expected s after end cycle = record {
  brought = cycle.brought;
  cycle = port_cycle_of f S T are before later _ cycle.brought expected end cycle.cycle;
  suffices = suffice_of f S T are before later _ cycle.brought expected end cycle.suffices;
  after_is = cycle.after_is;
}

-- ---- cycle after cycle

one_more_of : {P Q : Type 0} (f : P → Q) (S : Trips P) (T : Trips Q) → AreTripsOf f S T
    → (outputs : Outputs) (expected : List ℕ) (s after : Cycles) → OneMore S outputs expected s after
    → OneMore T outputs expected s after
one_more_of f S T are outputs expected s after more = record {
  before = f more.before;
  end = more.end;
  later = f more.later;
  cycle = cycle_of f S T are more.before more.later outputs expected s after more.end more.cycle;
}

so_many_of : {P Q : Type 0} (f : P → Q) (S : Trips P) (T : Trips Q) → AreTripsOf f S T
    → (outputs : Outputs) (expected : List ℕ) (n : ℕ) (start now : Cycles)
    → Run S outputs expected n start now → Run T outputs expected n start now
unfolding Run
so_many_of f S T are outputs expected zero start now same = same
so_many_of f S T are outputs expected (suc n) start now (between, so_far, more) = (
  between,
  so_many_of f S T are outputs expected n start between so_far,
  one_more_of f S T are outputs expected between now more,
)

pub run_of : {P Q : Type 0} (f : P → Q) (S : Trips P) (T : Trips Q) → AreTripsOf f S T
    → (outputs : Outputs) (expected : List ℕ) (start now : Cycles) → IsRun S outputs expected start now
    → IsRun T outputs expected start now
run_of f S T are outputs expected start now run = record {
  number = run.number;
  run = so_many_of f S T are outputs expected run.number start now run.run;
  counts = run.counts;
}
