-- A line that was started over a ring meets the certificate of its work (IEC 61158-4-12, sync manager and
-- FMMU entities; IEC 61158-6-12, AL management).
use Rattle.std.specs.Prelude.{◌≡◌, ◌≤◌, ℕ, None, List, length, map, replicate}
use Rattle.ec_app.specs.State.{SlaveState}
use Rattle.ec_check.specs.Line.{controllers}
use Rattle.ec_map.specs.Item.{ItemRecord}
use Rattle.ec_map.specs.Share.{expected_of}
use Rattle.ec_ring.specs.Ring.{RingState, line_of}
use Rattle.ec_ring.specs.declared.links.TheConstants.{MAX_SLAVES}
use Rattle.ec_master.specs.Unordered.{IsAccepted}
use Rattle.ec_run.specs.Wanted.{wanted_by}
use Rattle.ec_run.specs.declared.wanted.TheConstants.{MAX_STARTUP}
use Rattle.ec_run.specs.declared.wanted.Wanted.{Wanted}

-- ---- what a line is started from

-- what a slave is told but for its startup objects: its station address, its sync managers and its FMMUs
abbrev pub records_of : Wanted → Wanted
records_of wanted = record wanted { startup = replicate MAX_STARTUP None }

-- a line is told what stands in slaves that the mapping checker accepts with a work; and what is expected of
-- its counters is what they add
pub record IsToldOf (slaves : List SlaveState) (line : List Wanted) (work : List ItemRecord)
    (expected : List ℕ) : Type 0 where
  pub accepted : IsAccepted slaves work
  pub expects : expected ≡ map (expected_of (controllers slaves)) work
  pub told : map records_of line ≡ map wanted_by slaves

-- ---- what a ring is then

-- a ring of no more slaves than one may have is an accepted line of a work, and what is expected of the
-- counters is what its slaves add: so what the certificate of a cycle says is of this ring
pub record IsCertified (r : RingState) (work : List ItemRecord) (expected : List ℕ) : Type 0 where
  pub limit : length r.slaves ≤ MAX_SLAVES
  pub accepted : IsAccepted r.slaves work
  pub expects : expected ≡ map (expected_of (line_of r)) work
