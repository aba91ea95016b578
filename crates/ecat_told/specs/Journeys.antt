-- Frames that go over a line of simulated controllers, and what is told by their trips.
use Rattle.std.specs.Prelude.{◌≡◌, ◌⊎◌, ℕ, ◌<◌, ◌≤◌, Bool, None, Some, List, [], ◌∷◌, length}
use Rattle.std.specs.Prelude.{count_by, slice_index, true, false, not, ◌&&◌, if◌then◌else◌, Option}
use Rattle.std.specs.List.{AllByRecursion}
use Rattle.ec_regs.specs.Bits.{AreBytes}
use Rattle.ec_regs.specs.SyncMan.{is_active, is_enabled}
use Rattle.ec_regs.specs.declared.registers.TheConstants.{PROCESS_MEMORY, SYNC_MANAGER_COUNT}
use Rattle.ec_wire.specs.Command.{addressing, writes}
use Rattle.ec_wire.specs.Datagram.{DatagramRecord, adp}
use Rattle.ec_wire.specs.declared.command.Addressing.TheVariants.{ConfiguredStation}
use Rattle.ec_wire.specs.declared.datagram.TheConstants.{MAX_DATA}
use Rattle.ec_areas.specs.Records.{sync_manager_at}
use Rattle.ec_esc.specs.State.{ControllerState, IsController, NamesState}
use Rattle.ec_esc.specs.declared.counting.TheConstants.{MOST_CONTROLLERS}
use Rattle.ec_line.specs.Trip.{front_pass}
use Rattle.ecat_trips.specs.declared.trip.Trip.{Trip}
use Rattle.ec_wire.specs.declared.command.Command.{Command}
use Rattle.ecat_told.specs.Known.{KnownState, came_whole, is_logical, moves_logical, trip_after}
use Rattle.ecat_told.specs.So.{IsClaimed, has_station}

-- ---- what must hold of the line and of the frames

-- a line at first: controllers, of which AL status names a state, and no more than counters can count
pub record IsLine (line : List ControllerState) : Type 0 where
  pub controllers : AllByRecursion IsController line
  pub states : AllByRecursion (λ (c : ControllerState). NamesState c.memory) line
  pub few : length line ≤ MOST_CONTROLLERS

-- a datagram as it is sent: bytes that fit a frame, and a working counter of 16 bits
pub record IsSent (d : DatagramRecord) : Type 0 where
  pub bytes : AreBytes d.payload
  pub size : length d.payload ≤ MAX_DATA
  pub counter : d.counter < 65536

-- each sync manager that is enabled guards an area, so that its record is barred from writes
pub record IsGuarding (c : ControllerState) : Type 0 where
  pub active : (i : ℕ) → i < SYNC_MANAGER_COUNT → is_enabled (sync_manager_at c.memory i) ≡ true
      → is_active (sync_manager_at c.memory i) ≡ true

-- does a command write registers: by place, by station, or of all
abbrev pub writes_registers : Command → Bool
writes_registers x = writes x && not (is_logical x)

-- a datagram and the line that it finds: where it writes registers each enabled sync manager guards an area,
-- and where it names a station no two controllers have it
pub record IsFitFor (d : DatagramRecord) (line : List ControllerState) : Type 0 where
  pub guarding : writes_registers d.command ≡ true → AllByRecursion IsGuarding line
  pub alone : addressing d.command ≡ ConfiguredStation → count_by (has_station (adp d)) line ≤ 1

-- each datagram of a frame that passes the first n controllers, and the line as those before leave it
abbrev pub AreFit : ℕ → List ControllerState → List DatagramRecord → Type 0
AreFit n line [] = Unit {0}
AreFit n line (d ∷ ds) = IsFitFor d line × AreFit n (front_pass n line (d ∷ [])).line ds

-- ---- between two frames

-- what may happen to a controller from its own side: it is one then, in a state, and of what is claimed no
-- byte has changed
pub record HasKept (states : Bool) (before after : ControllerState) : Type 0 where
  pub controller : IsController after
  pub state : NamesState after.memory
  pub bytes : (a : ℕ) → a < PROCESS_MEMORY → IsClaimed states a
      → slice_index after.memory a ≡ slice_index before.memory a

-- to each of a line
abbrev pub HaveKept : Bool → List ControllerState → List ControllerState → Type 0
HaveKept states [] [] = Unit {0}
HaveKept states (x ∷ xs) (y ∷ ys) = HasKept states x y × HaveKept states xs ys
HaveKept states _ _ = ⊥

-- ---- journeys

-- a trip, how many controllers the frame passed, and the line when the next one is sent
pub record Journey : Type 0 where
  pub trip : Trip
  pub passed : ℕ
  pub later : List ControllerState

-- the frame passed the whole line and came back as the line left it
abbrev pub IsBack : ℕ → Trip → List ControllerState → Type 0
IsBack n t line = (n ≡ length line) × (t.came ≡ Some (front_pass n line t.sent.frame).frame)

-- it was lost, and so was what else was sent; or another copy came back alone, which no slave processed: that
-- of a master's other port, where the ring is closed
abbrev pub IsLost : Trip → Type 0
IsLost t = (t.came ≡ None) ⊎ ((came_whole t ≡ false) × (t.came ≡ Some t.sent.frame))

-- a journey over a line
pub record IsJourney (states : Bool) (j : Journey) (line : List ControllerState) : Type 0 where
  pub came : IsBack j.passed j.trip line ⊎ IsLost j.trip
  pub sent : AllByRecursion IsSent j.trip.sent.frame
  pub fit : AreFit j.passed line j.trip.sent.frame
  pub kept : HaveKept states (front_pass j.passed line j.trip.sent.frame).line j.later

-- one after the other
abbrev pub AreJourneys : Bool → List Journey → List ControllerState → Type 0
AreJourneys states [] line = Unit {0}
AreJourneys states (j ∷ js) line = IsJourney states j line × AreJourneys states js j.later

-- the line behind all of them
abbrev pub behind : List Journey → List ControllerState → List ControllerState
behind [] line = line
behind (j ∷ js) line = behind js j.later

-- what is told behind all of them
abbrev pub told_of : List Journey → KnownState → KnownState
told_of [] k = k
told_of (j ∷ js) k = told_of js (trip_after j.trip k)

-- ---- the line that cycles find

-- the line that the last logical datagram of a frame found that moved, where the frame passed the first n
-- controllers; where none moved, the one that was found before
abbrev pub found_in : ℕ → List ControllerState → List DatagramRecord → List DatagramRecord
    → List ControllerState → List ControllerState
found_in n line [] came last = last
found_in n line (d ∷ ds) [] last = last
found_in n line (d ∷ ds) (c ∷ cs) last =
    found_in n (front_pass n line (d ∷ [])).line ds cs (if moves_logical d c then line else last)

-- of a trip; one that was lost found none
abbrev pub found_on : ℕ → Trip → Option (List DatagramRecord) → List ControllerState → List ControllerState
    → List ControllerState
found_on n t None line last = last
found_on n t (Some came) line last = found_in n line t.sent.frame came last

-- of all trips
abbrev pub found : List Journey → List ControllerState → List ControllerState → List ControllerState
found [] line last = last
found (j ∷ js) line last = found js j.later (found_on j.passed j.trip j.trip.came line last)
