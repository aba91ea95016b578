-- What a slave is to be told at start-up, by its records and the objects that are written to it (ETG.2000,
-- InitCmd).
use Rattle.std.specs.Prelude.{ℕ, ◌==◌, ◌||◌, Bool, Option, None, Some, List, [], ◌∷◌, is_some, slice_get}
use Rattle.std.specs.List.{list_all}
use Rattle.ec_areas.specs.Records.{fmmus_of, sync_managers_of}
use Rattle.ec_app.specs.declared.value.Value.{Value}
use Rattle.ec_check.specs.Records.{memory_of}
use Rattle.ec_check.specs.declared.records.Records.{Records}
use Rattle.ec_esc.specs.State.{word_at}
use Rattle.ec_regs.specs.declared.registers.TheConstants.{STATION_ADDRESS}
use Rattle.ec_run.specs.declared.wanted.StartupObject.{StartupObject}
use Rattle.ec_run.specs.declared.wanted.Wanted.{Wanted}
use Rattle.rummymaple.specs.Values.{value_in}
use Rattle.rummymaple.specs.declared.wanted.Object.{Object}
use Rattle.rummymaple.specs.declared.wanted.Startup.{Startup}

-- the object that the numbers are; nothing where they are none
abbrev pub object_with : Object → Option Value → Option StartupObject
object_with o None = None
object_with o (Some value) = Some (record { index = o.index; sub = o.sub; value = value })

abbrev pub object_in : Object → Option StartupObject
object_in o = object_with o (value_in o.size o.value)

-- a size of 0 says that there is none
abbrev pub is_object : Object → Bool
is_object o = o.size == 0 || is_some (value_in o.size o.value)

abbrev pub are_objects : List Object → Bool
are_objects os = list_all is_object os

abbrev pub object_by : Option Object → Option StartupObject
object_by None = None
object_by (Some o) = object_in o

abbrev pub object_at : List Object → ℕ → Option StartupObject
object_at os n = object_by (slice_get os n)

-- those of the slave at a place, which has none where none stand there
abbrev pub objects_by : Option Startup → List Object
objects_by None = []
objects_by (Some s) = s.objects

abbrev pub objects_for : List Startup → ℕ → List Object
objects_for all place = objects_by (slice_get all place)

-- the sixteen of a slave, by their numbers
abbrev pub startup_of : List Object → List (Option StartupObject)
startup_of os =
    object_at os 0 ∷ object_at os 1 ∷ object_at os 2 ∷ object_at os 3 ∷ object_at os 4 ∷ object_at os 5
    ∷ object_at os 6 ∷ object_at os 7 ∷ object_at os 8 ∷ object_at os 9 ∷ object_at os 10 ∷ object_at os 11
    ∷ object_at os 12 ∷ object_at os 13 ∷ object_at os 14 ∷ object_at os 15
    ∷ []

abbrev pub wanted_of : Records → List Object → Wanted
wanted_of records os = record {
  station = word_at (memory_of records) STATION_ADDRESS;
  managers = sync_managers_of (memory_of records);
  fmmus = fmmus_of (memory_of records);
  startup = startup_of os;
}
