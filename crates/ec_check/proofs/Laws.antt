-- The laws that crates above cite: on the controllers of slaves, what a fit line gives a cycle, and what is
-- the same of lines with one mapping.
use Rattle.std.proofs.Common.{◌≡◌, ◌≢◌, true, ℕ, ◌<◌, ◌≤◌, ◌+◌, ◌*◌, ◌++◌, None, List, length, get_or, take, drop}
use Rattle.std.specs.List.{AllByRecursion}
use Rattle.std.specs.List.Sorted.{IsPermutation}
use Rattle.ec_regs.specs.Bits.{AreBytes}
use Rattle.ec_regs.specs.Fmmu.{fmmu_of}
use Rattle.ec_regs.specs.SyncMan.{sync_man_of}
use Rattle.ec_regs.specs.declared.registers.TheConstants.{MEMORY_SIZE, STATION_ADDRESS}
use Rattle.ec_regs.specs.declared.registers.TheConstants.{FMMU_COUNT, FMMU_SIZE}
use Rattle.ec_regs.specs.declared.registers.TheConstants.{SYNC_MANAGER_COUNT, SYNC_MANAGER_SIZE}
use Rattle.ec_areas.specs.Records.{fmmu_at, sync_manager_at}
use Rattle.ec_esc.specs.Application.{put_inputs_fault, with_inputs, are_told, with_registers}
use Rattle.ec_esc.specs.Application.{with_mail_repeated, with_repeat_told}
use Rattle.ec_line.specs.Moving.{HasMoved}
use Rattle.ec_esc.specs.State.{ControllerState, IsController, word_at}
use Rattle.ec_line.specs.Fit.{IsFitLine}
use Rattle.ec_line.specs.Mapping.{mapping_of, mapping}
use Rattle.ec_app.specs.Left.{SameLeft}
use Rattle.ec_app.specs.Slave.{step}
use Rattle.ec_app.specs.State.{SlaveState}
use Rattle.ec_check.specs.Line.{controllers, controllers_by, controller_of, station_of}
use Rattle.ec_check.specs.Fit.{IsFit}
use Rattle.ec_check.specs.Records.{controller_with, memory_of}
use Rattle.ec_check.specs.declared.records.Records.{Records}
use Rattle.ec_check.specs.declared.records.TheConstants.{FMMU_BYTES, SYNC_MANAGER_BYTES}
use Rattle.ec_check.proofs.LineLemmas as lines
use Rattle.ec_check.proofs.FactLemmas as facts
use Rattle.ec_check.proofs.MappingLemmas as mappings
use Rattle.ec_check.proofs.LastsLemmas as lasts
use Rattle.ec_check.proofs.PlacesLemmas as places
use Rattle.ec_check.proofs.RecordsLemmas as by_records
-- lists of numbers in the order of a dictionary: what begins a list, and what comes before one that goes on
-- with a number
pub use Rattle.ec_check.proofs.OrderLemmas.{BeginsWith-shorter, BeginsWith-itself, IsBefore-begins}
pub use Rattle.ec_check.proofs.OrderLemmas.{IsBefore-cases}

-- the controller under a number is that of what stands under it
pub controller_of-controllers_by : {S : Type 0} (controller : S → ControllerState) (line : List S) (i : ℕ)
    (s : S) → i < length line → s ≡ get_or line i s
    → controller_of (controllers_by controller line) i ≡ controller s
controller_of-controllers_by = lines.controller_of-controllers_by

-- there are as many controllers as there stand
pub length-controllers_by : {S : Type 0} (controller : S → ControllerState) (line : List S)
    → length (controllers_by controller line) ≡ length line
length-controllers_by = lines.length-controllers_by

-- the controller under a number is that of the slave under it
pub controller_of-controllers : (slaves : List SlaveState) (i : ℕ) (s : SlaveState) → i < length slaves
    → s ≡ get_or slaves i s
    → controller_of (controllers slaves) i ≡ s.controller
controller_of-controllers = lines.controller_of-controllers

-- there are as many controllers as slaves
pub length-controllers : (slaves : List SlaveState) → length (controllers slaves) ≡ length slaves
length-controllers = lines.length-controllers

-- a fit line of controllers has the facts that the promises about cycles take
pub IsFitLine-fit : (line : List ControllerState) → AllByRecursion IsController line → IsFit line
    → IsFitLine line
IsFitLine-fit = facts.IsFitLine-fit

-- lines with one mapping have as many slaves
pub same_length : (line later : List ControllerState) → mapping later ≡ mapping line → length later ≡ length line
same_length = mappings.same_length

-- their slaves have the same mapping, place by place
pub same_mapping : (line later : List ControllerState) (slave : ℕ) → mapping later ≡ mapping line
    → mapping_of (controller_of later slave) ≡ mapping_of (controller_of line slave)
same_mapping = mappings.same_mapping

-- and the same station address
pub same_station : (line later : List ControllerState) (slave : ℕ) → mapping later ≡ mapping line
    → station_of later slave ≡ station_of line slave
same_station = mappings.same_station

-- a line with the mapping of a fit one is fit
pub fit_by_mapping : (line later : List ControllerState) → mapping later ≡ mapping line → IsFit line
    → IsFit later
fit_by_mapping = mappings.fit_by_mapping

-- a step of a slave leaves the mapping of its controller
pub mapping_step : (s : SlaveState) → IsController s.controller
    → mapping_of (step s).controller ≡ mapping_of s.controller
mapping_step = lasts.mapping_step

-- so does all that leaves the registers which no step writes
pub mapping_left : (c d : ControllerState) → length c.memory ≡ MEMORY_SIZE → SameLeft c.memory d.memory
    → mapping_of d ≡ mapping_of c
mapping_left = lasts.mapping_left

-- and so do inputs that are put
pub mapping_inputs : (c : ControllerState) (i : ℕ) (bytes : List ℕ) → IsController c
    → put_inputs_fault (sync_manager_at c.memory i) bytes ≡ None
    → mapping_of (with_inputs c i bytes) ≡ mapping_of c
mapping_inputs = lasts.mapping_inputs

-- and so do registers that are told, which is a move
pub mapping_told : (c : ControllerState) (from : ℕ) (bytes : List ℕ) → IsController c
    → are_told from (length bytes) ≡ true → AreBytes bytes
    → mapping_of (with_registers c from bytes) ≡ mapping_of c
mapping_told = lasts.mapping_told

pub moved_told : (c : ControllerState) (from : ℕ) (bytes : List ℕ) → IsController c → AreBytes bytes
    → are_told from (length bytes) ≡ true → HasMoved c (with_registers c from bytes)
moved_told = lasts.moved_told

-- and so does a mail that the master has once more
pub mapping_repeated : (c : ControllerState) (i : ℕ) → IsController c → i < 8
    → mapping_of (with_mail_repeated c i) ≡ mapping_of c
mapping_repeated = lasts.mapping_repeated

pub moved_repeated : (c : ControllerState) (i : ℕ) → IsController c → i < 8
    → HasMoved c (with_mail_repeated c i)
moved_repeated = lasts.moved_repeated

-- and of each byte that is neither the status byte nor the PDI byte of the mailbox it has what there was
pub repeated_same : (c : ControllerState) (i a : ℕ) → a ≢ 2048 + 8 * i + 5 → a ≢ 2048 + 8 * i + 7
    → get_or (with_mail_repeated c i).memory a 0 ≡ get_or c.memory a 0
repeated_same = lasts.repeated_same

-- where that is told alone, it is a move too
pub moved_repeat_told : (c : ControllerState) (i : ℕ) → IsController c → i < 8
    → HasMoved c (with_repeat_told c i)
moved_repeat_told = lasts.moved_repeat_told

-- a fit line is fit in any order of its slaves
pub fit_in_any_order : (line later : List ControllerState) → IsPermutation line later → IsFit line → IsFit later
fit_in_any_order = places.fit_in_any_order

-- an element of a list in another order stood in the list before
pub stood_before : {X : Type 0} (xs ys : List X) (k : ℕ) (d : X) → IsPermutation xs ys → k < length ys
    → (j : ℕ) × (j < length xs) × (get_or ys k d ≡ get_or xs j d)
stood_before = places.stood_before

-- ---- a slave by its records alone

-- records of their sizes, whose elements are bytes, are those of a controller
pub IsController-records : (r : Records) → r.station < 65536 → length r.fmmus ≡ FMMU_BYTES → AreBytes r.fmmus
    → length r.sync_managers ≡ SYNC_MANAGER_BYTES → AreBytes r.sync_managers
    → IsController (controller_with r)
IsController-records = by_records.IsController-records

-- the station address stands in its memory
pub station-records : (r : Records) → word_at (memory_of r) STATION_ADDRESS ≡ r.station
station-records = by_records.station-records

-- an FMMU's record does
pub fmmu-records : (r : Records) (i : ℕ) → i < FMMU_COUNT → length r.fmmus ≡ FMMU_BYTES
    → fmmu_at (memory_of r) i ≡ fmmu_of (take FMMU_SIZE (drop (FMMU_SIZE * i) r.fmmus))
fmmu-records = by_records.fmmu-records

-- and a sync manager's
pub sync_manager-records : (r : Records) (i : ℕ) → i < SYNC_MANAGER_COUNT → length r.fmmus ≡ FMMU_BYTES
    → length r.sync_managers ≡ SYNC_MANAGER_BYTES
    → sync_manager_at (memory_of r) i
    ≡ sync_man_of (take SYNC_MANAGER_SIZE (drop (SYNC_MANAGER_SIZE * i) r.sync_managers))
sync_manager-records = by_records.sync_manager-records

-- a run of the middle one of three lists is a run of them all, so many elements further on
pub run_of_middle : (front middle back : List ℕ) (base from count : ℕ) → length front ≡ base
    → from + count ≤ length middle
    → take count (drop (base + from) (front ++ (middle ++ back))) ≡ take count (drop from middle)
run_of_middle = by_records.run_of_middle
