-- What the course of a master rests on: slaves on which its work is accepted.
use Rattle.std.specs.Prelude.{◌≡◌, ℕ, None, List, map, replicate}
use Rattle.ec_app.specs.State.{SlaveState}
use Rattle.ec_check.specs.Line.{controllers}
use Rattle.ec_map.specs.Item.{ItemRecord}
use Rattle.ec_map.specs.Share.{expected_of}
use Rattle.ec_master.specs.Unordered.{IsAccepted}
use Rattle.ec_run.specs.Wanted.{wanted_by}
use Rattle.ec_run.specs.declared.wanted.TheConstants.{MAX_STARTUP}
use Rattle.ec_run.specs.declared.wanted.Wanted.{Wanted}

-- what a slave is told but for its startup objects: its station address, its sync managers and its FMMUs
abbrev pub shape : Wanted → Wanted
shape wanted = record wanted { startup = replicate MAX_STARTUP None }

-- there are slaves that the mapping checker accepts with the work; what is expected of its counters is what
-- they add; and each is told what stands in it
pub record Stands (line : List Wanted) (work : List ItemRecord) (expected : List ℕ) : Type 0 where
  pub slaves : List SlaveState
  pub accepted : IsAccepted slaves work
  pub expects : expected ≡ map (expected_of (controllers slaves)) work
  pub told : map shape line ≡ map wanted_by slaves
