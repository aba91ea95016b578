-- An area of outputs is handed to the slave's application when its last byte is written: where each item that
-- writes the area writes its last byte too, and one does, the application is shown it whole (IEC 61158-4-12,
-- sync manager, buffered mode).
use Rattle.std.specs.Prelude.{◌≡◌, ℕ, true, Some, List, [], ◌∷◌, slice_get}
use Rattle.ec_regs.specs.AddressRange.{within}
use Rattle.ec_regs.specs.SyncMan.{guards_outputs}
use Rattle.ec_regs.specs.declared.address_range.AddressRange.{AddressRange}
use Rattle.ec_areas.specs.Showing.{last_byte}
use Rattle.ec_esc.specs.State.{ControllerState}
use Rattle.ec_check.specs.Line.{sync_manager_of, HasSyncManager}
use Rattle.ec_map.specs.Item.{ItemRecord}
use Rattle.ec_map.specs.Written.{PairsByte, WritesByte, WritesSome}
use Rattle.ec_map.specs.declared.not_shown.NotShown.{NotShown}
use Rattle.ec_map.specs.declared.not_shown.WhyNotShown.{WhyNotShown}
use Rattle.ec_map.specs.declared.not_shown.WhyNotShown.TheVariants.{LeftBy, NeverCompleted}

-- the sync manager guards outputs, and an FMMU for writing of its slave maps a bit of its area
pub record IsMappedArea (line : List ControllerState) (slave number : ℕ) : Type 0 where
  pub there : HasSyncManager line slave number
  pub outputs : guards_outputs (sync_manager_of line slave number) ≡ true
  pub bit : ℕ
  pub address : ℕ
  pub inside : within (sync_manager_of line slave number).start (sync_manager_of line slave number).length
      address ≡ true
  pub mapped : PairsByte line slave bit address

-- the item writes a byte of the area
abbrev pub WritesArea : List ControllerState → ℕ → ℕ → ItemRecord → Type 0
WritesArea line slave number r =
    WritesSome line slave (sync_manager_of line slave number).start
    (sync_manager_of line slave number).length r

-- the item completes the area: it writes its last byte
abbrev pub Completes : List ControllerState → ℕ → ℕ → ItemRecord → Type 0
Completes line slave number r = WritesByte line slave (last_byte (sync_manager_of line slave number)) r

-- the item of this number writes the area and does not complete it
pub record IsLeftBy (line : List ControllerState) (items : List ItemRecord) (slave number k : ℕ) : Type 0
  where
    pub item : ItemRecord
    pub is : slice_get items k ≡ Some item
    pub writes : WritesArea line slave number item
    pub left : ¬ Completes line slave number item

-- no item completes it
abbrev pub IsNeverCompleted : List ControllerState → List ItemRecord → ℕ → ℕ → Type 0
IsNeverCompleted line items slave number =
    (k : ℕ) (item : ItemRecord) → slice_get items k ≡ Some item → ¬ Completes line slave number item

-- why the area is not shown
abbrev pub IsWhy : List ControllerState → List ItemRecord → ℕ → ℕ → WhyNotShown → Type 0
IsWhy line items slave number (LeftBy item) = IsLeftBy line items slave number item
IsWhy line items slave number NeverCompleted = IsNeverCompleted line items slave number

-- a mapped area of outputs is not shown, as it is said
pub record IsNotShown (line : List ControllerState) (items : List ItemRecord) (found : NotShown) : Type 0
  where
    pub area : IsMappedArea line found.slave found.sync_manager
    pub why : IsWhy line items found.slave found.sync_manager found.why

-- each is shown
abbrev pub AreShown : List ControllerState → List ItemRecord → Type 0
AreShown line items = (found : NotShown) → ¬ IsNotShown line items found

-- by these numbers they are ordered: the slave, the sync manager, and the item
abbrev pub why_numbers : WhyNotShown → List ℕ
why_numbers (LeftBy item) = 0 ∷ item ∷ []
why_numbers NeverCompleted = 1 ∷ []

abbrev pub not_shown_numbers : NotShown → List ℕ
not_shown_numbers found = found.slave ∷ found.sync_manager ∷ why_numbers found.why

-- ---- by runs of bytes

-- the item of this number writes one of these bytes
pub record WritesBytes
    (line : List ControllerState) (items : List ItemRecord) (slave : ℕ) (bytes : AddressRange) (k : ℕ)
    : Type 0 where
  pub item : ItemRecord
  pub is : slice_get items k ≡ Some item
  pub writes : WritesSome line slave bytes.first bytes.count item

-- an item writes one of the first ones and none of the others
pub record Leaves
    (line : List ControllerState) (slave : ℕ) (area last : AddressRange) (item : ItemRecord) : Type 0 where
  pub writes : WritesSome line slave area.first area.count item
  pub left : ¬ WritesSome line slave last.first last.count item

-- that of this number does
pub record LeavesBytes
    (line : List ControllerState) (items : List ItemRecord) (slave : ℕ) (area last : AddressRange) (k : ℕ)
    : Type 0 where
  pub item : ItemRecord
  pub is : slice_get items k ≡ Some item
  pub leaves : Leaves line slave area last item
