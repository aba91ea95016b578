-- A buffered area has three buffers: its own bytes and two more, which the controller keeps in the bytes
-- behind it (IEC 61158-4-12, sync manager, buffered mode). Another area has to begin behind all three.
use Rattle.std.specs.Prelude.{ℕ, ◌+◌, ◌*◌, ◌&&◌, Bool, not, nat_lt}
use Rattle.std.specs.Prelude.{Option, None, Some, List, position, find}
use Rattle.std.specs.List.{list_any}
use Rattle.ec_regs.specs.SyncMan.{is_active, is_buffered}
use Rattle.ec_regs.specs.declared.sync_man.SyncMan.{SyncMan}
use Rattle.ecat_lint.specs.declared.oddity.Oddity.{Oddity}
use Rattle.ecat_lint.specs.declared.oddity.Oddity.TheVariants.{BuffersMeet}

-- is the second one an active area that begins behind the begin of the first
abbrev pub begins_behind : SyncMan → SyncMan → Bool
begins_behind s u = is_active u && nat_lt s.start u.start

-- does an active area begin between the begins of two others
abbrev pub has_between : List SyncMan → SyncMan → SyncMan → Bool
has_between managers s u = list_any (λ v. begins_behind s v && nat_lt v.start u.start) managers

-- is it the next one, with no other that begins between
abbrev pub is_next : List SyncMan → SyncMan → SyncMan → Bool
is_next managers s u = begins_behind s u && not (has_between managers s u)

-- does an area begin within the three buffers of an area, which is active and buffered
abbrev pub is_within_buffers : SyncMan → SyncMan → Bool
is_within_buffers s u = is_active s && is_buffered s && nat_lt u.start (s.start + 3 * s.length)

-- is it the next one, and begins it within the three buffers
abbrev pub crowds : List SyncMan → SyncMan → SyncMan → Bool
crowds managers s u = is_next managers s u && is_within_buffers s u

-- ---- what is odd of it

-- the area and the next one, by the number of its sync manager and its begin, if there is one
abbrev pub met_by : SyncMan → Option ℕ → Option SyncMan → Option Oddity
met_by s None other = None
met_by s (Some next) None = None
met_by s (Some next) (Some other) = Some (BuffersMeet s.start s.length next other.start)

-- the next area begins within the three buffers of an area
abbrev pub buffers_meet : List SyncMan → SyncMan → Option Oddity
buffers_meet managers s =
    met_by s (position (crowds managers s) managers) (find (crowds managers s) managers)
