-- The task that the cycles of a running master serve: which outputs the items have before a cycle.
use Rattle.std.specs.Prelude.{◌≡◌, ℕ, Bool, if◌then◌else◌, List}
use Rattle.ec_map.specs.Item.{ItemRecord}
use Rattle.ec_run.specs.Outputs.{filled}
use Rattle.ec_run.specs.declared.cycles.Cycles.{Cycles}

-- how a task is listened to: the task before, whether it has other outputs than before, and the task behind
abbrev pub Listens : Type 0 → Type 1
Listens D = D → Bool → D → Type 0

-- the items that write with the outputs that a task holds, if these are others; as they were if not
abbrev pub items_with : Bool → List ℕ → List ItemRecord → List ItemRecord
items_with are_others image items = if are_others then filled image items else items

-- a task is listened to once, and what the items are asked with from then on is what it holds
pub record TakesOutputs {D : Type 0} (listens : Listens D) (held : D → List ℕ) (s now : Cycles) : Type 0 where
  pub task : D
  pub are_others : Bool
  pub later : D
  pub listened : listens task are_others later
  pub now_is : now ≡ record s { asked = items_with are_others (held later) s.asked }
