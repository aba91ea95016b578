-- Cycles one after the other: the outputs go out, the verdict comes back, the ends are counted, and the image
-- changes on a good one alone.
use Rattle.std.specs.Prelude.{◌≡◌, ℕ, zero, suc, ◌+◌, Option, None, Some, List, map, Result, Ok, Err}
use Rattle.ec_map.specs.Item.{ItemRecord}
use Rattle.ec_master.specs.Ports.{Trips, IsPortCycle}
use Rattle.ec_master.specs.Suffice.{FramesSuffice}
use Rattle.ec_master.specs.Work.{rewound}
use Rattle.ec_master.specs.declared.cycle.CycleFault.{CycleFault}
use Rattle.ec_master.specs.declared.verdict.Verdict.{Verdict}
use Rattle.ec_master.specs.declared.verdict.Verdict.TheVariants.{Good, Short, Over}
use Rattle.ec_run.specs.Outputs.{outputs_at}
use Rattle.ec_run.specs.declared.counts.Counts.{Counts}
use Rattle.ec_run.specs.declared.cycles.Cycles.{Cycles}
use Rattle.ec_run.specs.declared.outputs.Outputs.{Outputs}

-- ---- the ends of cycles, counted

abbrev pub End : Type 0
End = Result Verdict CycleFault

abbrev pub no_cycles : Counts
no_cycles = record { cycles = 0; good = 0; short = 0; over = 0; fault = 0 }

-- each cycle ended in one of the four ways
abbrev pub AddUp : Counts → Type 0
AddUp c = c.good + c.short + c.over + c.fault ≡ c.cycles

-- one cycle more, by its end
abbrev pub counted : End → Counts → Counts
counted (Err fault) c = record c { cycles = c.cycles + 1; fault = c.fault + 1 }
counted (Ok verdict) c = elim verdict [
  | Good ↦ record c { cycles = c.cycles + 1; good = c.good + 1 }
  | Short k ↦ record c { cycles = c.cycles + 1; short = c.short + 1 }
  | Over k ↦ record c { cycles = c.cycles + 1; over = c.over + 1 }
]

-- ---- one cycle

-- a work of which no cycle was made
abbrev pub begun_with : List ItemRecord → Cycles
begun_with items = record { asked = items; image = None; counts = no_cycles }

-- the image behind a cycle: what it brought where it was good, and else what was there
abbrev pub image_after : End → Option (List ItemRecord) → List ItemRecord → Option (List ItemRecord)
image_after (Err fault) image brought = image
image_after (Ok verdict) image brought = elim verdict [
  | Good ↦ Some brought
  | _ ↦ image
]

-- the items that the next cycle sends: with its outputs, and rewound
abbrev pub items_sent : Outputs → Cycles → List ItemRecord
items_sent outputs s = map rewound (outputs_at outputs s.counts.cycles s.asked)

-- one cycle over ports, of which all is said that a cycle over ports says; its end is counted, and it gives
-- the image on a good verdict alone
pub record IsCycle {P : Type 0} (trips : Trips P) (before : P) (outputs : Outputs) (expected : List ℕ)
    (s : Cycles) (end : End) (after : Cycles) (later : P) : Type 0 where
  pub brought : List ItemRecord
  pub cycle : IsPortCycle trips before (items_sent outputs s) expected end brought later
  pub suffices : FramesSuffice trips before (items_sent outputs s) expected end brought later
  pub after_is : after
      ≡ record s { image = image_after end s.image brought; counts = counted end s.counts }

-- ---- cycle after cycle

-- one cycle more, from some ports on
pub record OneMore {P : Type 0} (trips : Trips P) (outputs : Outputs) (expected : List ℕ) (s after : Cycles)
    : Type 0 where
  pub before : P
  pub end : End
  pub later : P
  pub cycle : IsCycle trips before outputs expected s end after later

-- so many cycles one after the other; between two of them the ports may make other trips
unfoldable pub Run : {P : Type 0} → Trips P → Outputs → List ℕ → ℕ → Cycles → Cycles → Type 0
Run trips outputs expected zero start now = now ≡ start
Run trips outputs expected (suc n) start now =
    (between : Cycles) × Run trips outputs expected n start between
    × OneMore trips outputs expected between now

-- some number of cycles one after the other
pub record IsRun {P : Type 0} (trips : Trips P) (outputs : Outputs) (expected : List ℕ) (start now : Cycles)
    : Type 0 where
  pub number : ℕ
  pub run : Run trips outputs expected number start now
  pub counts : now.counts.cycles ≡ start.counts.cycles + number
