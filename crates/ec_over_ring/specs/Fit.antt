-- What slaves need so that a start-up over a ring brings them to Op (IEC 61158-4-12, sync manager and FMMU
-- entities; IEC 61158-6-12, AL management; ETG.2000, InitCmd).
use Rattle.std.specs.Prelude.{◌≡◌, ◌⊎◌, ◌<◌, ◌≤◌, ℕ, Bool, true, false, Option, None, Some, List, Result, Ok}
use Rattle.std.specs.Prelude.{◌==◌, ◌&&◌, [], ◌∷◌, slice_get, take}
use Rattle.std.specs.List.{AllByRecursion}
use Rattle.ec_regs.specs.Bits.{AreBytes}
use Rattle.ec_regs.specs.Fmmu.{fmmu_bytes}
use Rattle.ec_regs.specs.declared.fmmu.Fmmu.{Fmmu}
use Rattle.ec_regs.specs.declared.registers.TheConstants.{SYNC_MANAGER_COUNT}
use Rattle.ec_regs.specs.declared.sync_man.SyncMan.{SyncMan}
use Rattle.ec_areas.specs.Ranges.{meets}
use Rattle.ec_areas.specs.Records.{sync_manager_at}
use Rattle.ec_esc.specs.State.{IsController}
use Rattle.ec_app.specs.AlStep.{has_inputs, has_outputs, lacks_mailboxes}
use Rattle.ec_app.specs.Objects.{object_at}
use Rattle.ec_app.specs.Roles.{fits_inputs, fits_outputs, is_answer_mailbox, is_request_mailbox}
use Rattle.ec_app.specs.State.{SlaveState}
use Rattle.ec_app.specs.Value.{may_write, size_of}
use Rattle.ec_app.specs.declared.objects.Entry.{Entry}
use Rattle.ec_app.specs.declared.roles.TheConstants.{ANSWER_MAILBOX, INPUTS, OUTPUTS, REQUEST_MAILBOX}
use Rattle.ec_app.specs.declared.sdo.Sdo.TheVariants.{Download}
use Rattle.ec_app.specs.declared.value.Rights.{Rights}
use Rattle.ec_app.specs.declared.value.Value.{Value}
use Rattle.ec_ring.specs.Ring.{RingState}
use Rattle.ec_run.specs.declared.phase.StepFault.{StepFault}
use Rattle.ec_run.specs.declared.step.Step.TheVariants.{SyncManager}
use Rattle.ec_run.specs.declared.wanted.StartupObject.{StartupObject}
use Rattle.ec_run.specs.declared.wanted.TheConstants.{MAX_STARTUP}
use Rattle.ec_run.specs.declared.wanted.Wanted.{Wanted}
use Rattle.ec_over_ring.specs.Recovery.{value_at}
use Rattle.ec_over_ring.specs.Started.{HoldsSet, IsSetUp}
use Rattle.ec_over_ring.specs.States.{HasStation}
use Rattle.ec_over_ring.specs.Transfers.{IsRequest}

-- ---- records that registers can hold

-- the numbers of a sync manager's record fit its registers
pub record FitsRegisters (m : SyncMan) : Type 0 where
  pub start : m.start < 65536
  pub length : m.length < 65536
  pub control : m.control < 256
  pub status : m.status < 256
  pub activate : m.activate < 256
  pub pdi : m.pdi < 256

-- so do those of each record that is wanted
pub record AreRecords (wanted : Wanted) : Type 0 where
  pub managers : AllByRecursion FitsRegisters wanted.managers
  pub fmmus : AllByRecursion (λ (f : Fmmu). AreBytes (fmmu_bytes f)) wanted.fmmus

-- ---- records that a slave's application accepts

-- the record is there, and this test holds of it
abbrev pub Passes : (SyncMan → Bool) → Option SyncMan → Type 0
Passes test None = ⊥
Passes test (Some m) = test m ≡ true

-- both records are there: one is a mailbox that the master writes, the other is one that it reads, and they
-- share no byte
abbrev pub ArePaired : Option SyncMan → Option SyncMan → Type 0
ArePaired (Some requests) (Some answers) =
    (is_request_mailbox requests ≡ true) × (is_answer_mailbox answers ≡ true)
    × (meets requests answers.start answers.length ≡ false)
ArePaired _ _ = ⊥

-- what is wanted of a slave fits it: its records are such that registers can hold them; two of them are its
-- mailboxes, unless it is a simple slave, which asks for none; and those of its outputs and its inputs have
-- the lengths that its application works with, or are switched off where a length is 0
pub record IsFitFor (wanted : Wanted) (s : SlaveState) : Type 0 where
  pub records : AreRecords wanted
  pub mailboxes : s.application.simple ≡ false
      → ArePaired (slice_get wanted.managers REQUEST_MAILBOX) (slice_get wanted.managers ANSWER_MAILBOX)
  pub outputs : Passes (λ m. fits_outputs m s.application.out_length) (slice_get wanted.managers OUTPUTS)
  pub inputs : Passes (λ m. fits_inputs m s.application.in_length) (slice_get wanted.managers INPUTS)

-- one slave of a ring alone has a wanted station address, whatever state it is in and whatever error it
-- tells, and what is wanted fits it
pub record CanStart (r : RingState) (wanted : Wanted) : Type 0 where
  pub before : List SlaveState
  pub slave : SlaveState
  pub behind : List SlaveState
  pub has : HasStation wanted.station r before slave behind
  pub fits : IsFitFor wanted slave

-- ---- startup objects that a slave takes

-- a slave with these objects takes a startup object: its numbers fit their fields, and it names an object
-- that may be written and has a value of that size
pub record TakesObject (objects : List Entry) (wanted : StartupObject) : Type 0 where
  pub numbers : IsRequest (Download wanted.index wanted.sub wanted.value)
  pub rights : Rights
  pub value : Value
  pub stands : object_at wanted.index wanted.sub objects ≡ Some (rights, value)
  pub writable : may_write rights ≡ true
  pub size : size_of wanted.value ≡ size_of value

-- so it takes a startup object where one is wanted
abbrev pub TakesWanted : List Entry → Option StartupObject → Type 0
TakesWanted objects None = Unit {0}
TakesWanted objects (Some wanted) = TakesObject objects wanted

-- no sync manager for process data that is switched on in a memory has a byte of the area of this one
abbrev pub IsFree : List ℕ → Option SyncMan → Type 0
IsFree memory None = Unit {0}
IsFree memory (Some area) =
    (n : ℕ) → OUTPUTS ≤ n → n < SYNC_MANAGER_COUNT
    → meets (sync_manager_at memory n) area.start area.length ≡ false

-- a slave takes all startup objects that are wanted of it: it has mailboxes, and as it is found no sync
-- manager for process data has a byte of them
pub record TakesAll (wanted : Wanted) (s : SlaveState) : Type 0 where
  pub objects : AllByRecursion (TakesWanted s.application.objects) wanted.startup
  pub real : s.application.simple ≡ false
  pub requests : IsFree s.controller.memory (slice_get wanted.managers REQUEST_MAILBOX)
  pub answers : IsFree s.controller.memory (slice_get wanted.managers ANSWER_MAILBOX)

-- none of these startup objects is wanted
abbrev pub AreNone : List (Option StartupObject) → Type 0
AreNone startup = AllByRecursion (λ (o : Option StartupObject). o ≡ None) startup

-- one slave of a ring alone has a wanted station address; it takes all startup objects, or none is wanted
pub record CanTake (r : RingState) (wanted : Wanted) : Type 0 where
  pub before : List SlaveState
  pub slave : SlaveState
  pub behind : List SlaveState
  pub has : HasStation wanted.station r before slave behind
  pub takes : AreNone wanted.startup ⊎ TakesAll wanted slave

-- no startup object is wanted of any slave of a line
abbrev pub HaveNoObjects : List Wanted → Type 0
HaveNoObjects line = AllByRecursion (λ (wanted : Wanted). AreNone wanted.startup) line

-- ---- what is read off a slave that stands as it is to be

-- a slave stands as it is to be: by its records its application refuses neither Pre-Op nor Safe-Op
pub record StandsFit (s : SlaveState) : Type 0 where
  pub controller : IsController s.controller
  pub mailboxes : lacks_mailboxes s ≡ false
  pub outputs : has_outputs s ≡ true
  pub inputs : has_inputs s ≡ true

-- a slave whose application asks for what another's does, whatever else it is
pub record NeedsSame (s t : SlaveState) : Type 0 where
  pub simple : t.application.simple ≡ s.application.simple
  pub out_length : t.application.out_length ≡ s.application.out_length
  pub in_length : t.application.in_length ≡ s.application.in_length

-- ---- a start-up that succeeds

-- the slave of a ring that alone has a wanted station address has the wanted records in sync managers 0 and 1
pub record HasMailboxes (r : RingState) (wanted : Wanted) : Type 0 where
  pub before : List SlaveState
  pub slave : SlaveState
  pub behind : List SlaveState
  pub has : HasStation wanted.station r before slave behind
  pub requests : HoldsSet wanted slave.controller.memory (SyncManager REQUEST_MAILBOX)
  pub answers : HoldsSet wanted slave.controller.memory (SyncManager ANSWER_MAILBOX)

-- a later startup object names the object that an earlier one names
abbrev pub names_same : StartupObject → StartupObject → Bool
names_same earlier later = (earlier.index == later.index) && (earlier.sub == later.sub)

-- none of these names the object that an earlier startup object names
abbrev pub IsLast : StartupObject → List (Option StartupObject) → Type 0
IsLast wanted later =
    AllByRecursion (λ (o : Option StartupObject).
    elim o [ None ↦ Unit {0} | Some other ↦ names_same wanted other ≡ false ]) later

-- each startup object that no later one names again is stored: the object that it names has its value
abbrev pub AreStored : List (Option StartupObject) → List Entry → Type 0
AreStored [] objects = Unit {0}
AreStored (None ∷ later) objects = AreStored later objects
AreStored (Some wanted ∷ later) objects =
    (IsLast wanted later → value_at wanted.index wanted.sub objects ≡ Some wanted.value)
    × AreStored later objects

-- the slave of a ring that alone has a wanted station address has its startup objects stored
pub record HasStored (r : RingState) (wanted : Wanted) : Type 0 where
  pub before : List SlaveState
  pub slave : SlaveState
  pub behind : List SlaveState
  pub has : HasStation wanted.station r before slave behind
  pub stored : AreStored (take MAX_STARTUP wanted.startup) slave.application.objects

-- no phase failed, and in the end each slave of the line is in Op, all its records stand, and its startup
-- objects are stored
pub record Succeeds (line : List Wanted) (init pre_op startup safe_op op : Result (Unit {0}) StepFault)
    (later : RingState) : Type 0 where
  pub came_to_init : init ≡ Ok tt
  pub came_to_pre_op : pre_op ≡ Ok tt
  pub objects_written : startup ≡ Ok tt
  pub came_to_safe_op : safe_op ≡ Ok tt
  pub came_to_op : op ≡ Ok tt
  pub set_up : AllByRecursion (IsSetUp later) line
  pub mailboxes : AllByRecursion (HasMailboxes later) line
  pub objects : AllByRecursion (HasStored later) line
