-- A fit line as facts: what the promises about cycles take of a line, and nothing else.
use Rattle.std.specs.Prelude.{◌≡◌, ◌≢◌, ℕ, ◌/◌, true, List, [], ◌∷◌}
use Rattle.std.specs.List.{AllByRecursion}
use Rattle.ec_regs.specs.declared.registers.TheConstants.{STATION_ADDRESS}
use Rattle.ec_areas.specs.Logical.{IsReadable, IsWritable}
use Rattle.ec_areas.specs.Records.{fmmus_of, sync_managers_of}
use Rattle.ec_esc.specs.State.{ControllerState, IsController, word_at}
use Rattle.ec_line.specs.Steady.{is_steady}

-- the controller's readable pairs and its writable pairs
abbrev pub Reads : ControllerState → ℕ → ℕ → Type 0
Reads c l p = IsReadable (sync_managers_of c.memory) (fmmus_of c.memory) l p

abbrev pub Writes : ControllerState → ℕ → ℕ → Type 0
Writes c l p = IsWritable (sync_managers_of c.memory) (fmmus_of c.memory) l p

-- alone: each byte that a readable pair names is a register or an input; its readable pairs name a logical
-- bit once, and its writable pairs a physical bit once
pub record IsFitAlone (c : ControllerState) : Type 0 where
  pub controller : IsController c
  pub steady : (l p : ℕ) → Reads c l p → is_steady (sync_managers_of c.memory) (p / 8) ≡ true
  pub read_once : (l p q : ℕ) → Reads c l p → Reads c l q → p ≡ q
  pub written_once : (l m p : ℕ) → Writes c l p → Writes c m p → l ≡ m

-- two: their stations differ, no logical bit is read from both, and none is read from one and written to the
-- other
pub record AreApart (x y : ControllerState) : Type 0 where
  pub stations : word_at x.memory STATION_ADDRESS ≢ word_at y.memory STATION_ADDRESS
  pub both_read : (l p q : ℕ) → Reads x l p → Reads y l q → ⊥
  pub read_and_written : (l p q : ℕ) → Reads x l p → Writes y l q → ⊥
  pub written_and_read : (l p q : ℕ) → Writes x l p → Reads y l q → ⊥

-- each is apart from each later one
abbrev pub AllApart : List ControllerState → Type 0
AllApart [] = Unit {0}
AllApart (x ∷ xs) = AllByRecursion (λ y. AreApart x y) xs × AllApart xs

-- the facts of a fit line
pub record IsFitLine (line : List ControllerState) : Type 0 where
  pub alone : AllByRecursion IsFitAlone line
  pub apart : AllApart line
