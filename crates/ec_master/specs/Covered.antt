-- What stands in the master's image and in a slave's memory for each mapped bit, and what the slave's
-- application is shown, once a cycle is over (IEC 61158-4-12, FMMU and sync manager, buffered mode).
use Rattle.std.specs.Prelude.{◌≡◌, ◌⊎◌, ◌+◌, ◌-◌, ◌*◌, ◌/◌, ◌%◌, ℕ, Bool, true, if◌then◌else◌, Option, None}
use Rattle.std.specs.Prelude.{Some, List, [], ◌∷◌, slice_get}
use Rattle.std.specs.Int.{bit_at}
use Rattle.std.specs.List.{AllByRecursion}
use Rattle.std.specs.Option.{option_map}
use Rattle.ec_regs.specs.Bits.{bit, later}
use Rattle.ec_regs.specs.SyncMan.{guards_outputs}
use Rattle.ec_regs.specs.declared.registers.TheConstants.{PROCESS_MEMORY}
use Rattle.ec_regs.specs.declared.sync_man.SyncMan.{SyncMan}
use Rattle.ec_app.specs.State.{SlaveState}
use Rattle.ec_areas.specs.Areas.{holds}
use Rattle.ec_areas.specs.Records.{sync_managers_of}
use Rattle.ec_areas.specs.Showing.{last_byte}
use Rattle.ec_wire.specs.declared.kind.Kind.TheVariants.{Fpwr}
use Rattle.ec_esc.specs.Pass.{touches}
use Rattle.ec_esc.specs.State.{ControllerState}
use Rattle.ec_line.specs.Claims.{taken}
use Rattle.ec_line.specs.Fit.{Reads as ReadsPair, Writes as WritesPair}
use Rattle.ec_map.specs.Item.{ItemRecord}
use Rattle.ec_map.specs.Place.{station_named}
use Rattle.ec_map.specs.Covered.{asks_bit}
use Rattle.ec_map.specs.Share.{request_of}
use Rattle.ec_map.specs.declared.covered.Way.TheVariants.{Reads, Writes}
use Rattle.ec_master.specs.Certificate.{shown_at}
use Rattle.ec_master.specs.Unordered.{by_station}

-- ---- inputs

-- the answer has each input bit of the controller that the item reads, as it is in this memory
pub record HasInputs (c : ControllerState) (sent answer : ItemRecord) : Type 0 where
  pub bits : (l p : ℕ) → ReadsPair c l p → asks_bit Reads l sent ≡ true
      → bit answer.payload (l - 8 * sent.address) ≡ bit c.memory p

-- so does each answer
abbrev pub HaveInputs : ControllerState → List ItemRecord → List ItemRecord → Type 0
HaveInputs c [] [] = Unit {0}
HaveInputs c (sent ∷ rest) (answer ∷ answers) = HasInputs c sent answer × HaveInputs c rest answers
HaveInputs c _ _ = ⊥

-- ---- outputs

-- the bit that an item sends for a logical bit, if it writes that
unfoldable pub sent_bit : ℕ → ItemRecord → Option ℕ
sent_bit l r = if asks_bit Writes l r then Some (bit r.payload (l - 8 * r.address)) else None

-- the bit that the last item sends which writes it
abbrev pub last_sent : List ItemRecord → ℕ → Option ℕ
last_sent [] l = None
last_sent (r ∷ rs) l = later (sent_bit l r) (last_sent rs l)

-- the item is a write to the station
pub record IsWriteTo (station : ℕ) (r : ItemRecord) : Type 0 where
  pub kind : r.kind ≡ Fpwr
  pub named : station_named r ≡ station

-- no item is
abbrev pub NoWriteTo : ℕ → List ItemRecord → Type 0
NoWriteTo station items = AllByRecursion (λ r. ¬ IsWriteTo station r) items

-- ---- shown bytes

-- does the item write the byte at an address of the controller
unfoldable pub writes_at : ControllerState → ℕ → ItemRecord → Bool
writes_at c address r = touches (taken (request_of r) c) address

-- the sync manager of this number guards outputs of the controller, and the byte lies in its area
pub record IsOutputByte (c : ControllerState) (number address : ℕ) (s : SyncMan) : Type 0 where
  pub is : slice_get (sync_managers_of c.memory) number ≡ Some s
  pub outputs : guards_outputs s ≡ true
  pub inside : holds s address ≡ true

-- an item that writes the byte completes its area
abbrev pub CompletesWhere : ControllerState → ℕ → SyncMan → ItemRecord → Type 0
CompletesWhere c address s r = writes_at c address r ≡ true → writes_at c (last_byte s) r ≡ true

-- some item completes the area
abbrev pub IsCompleted : ControllerState → SyncMan → List ItemRecord → Type 0
IsCompleted c s [] = ⊥
IsCompleted c s (r ∷ rs) = (writes_at c (last_byte s) r ≡ true) ⊎ IsCompleted c s rs

-- the byte lies in an area of outputs that each item which writes the byte completes, and that some item does
pub record IsShownWhole (c : ControllerState) (items : List ItemRecord) (address : ℕ) : Type 0 where
  pub number : ℕ
  pub area : SyncMan
  pub byte : IsOutputByte c number address area
  pub completes : AllByRecursion (CompletesWhere c address area) items
  pub completed : IsCompleted c area items

-- ---- once a cycle is over

-- the answers have each input that a slave maps and that the item reads, as it was before the cycle
abbrev pub InputsStand : List SlaveState → List ItemRecord → List ItemRecord → Type 0
InputsStand slaves items got =
    (n : ℕ) (s : SlaveState) → by_station slaves n ≡ Some s → HaveInputs s.controller items got

-- each slave's application is shown, for each output that it maps, the bit that was sent last, where no item
-- is an addressed write to the slave's station
abbrev pub OutputsAreShown : List SlaveState → List ItemRecord → List SlaveState → Type 0
OutputsAreShown slaves items later =
    (n l p k : ℕ) (s : SlaveState) → NoWriteTo n items → by_station slaves n ≡ Some s
    → WritesPair s.controller l p → p / 8 ≡ PROCESS_MEMORY + k
    → (v : ℕ) × (last_sent items l ≡ Some v)
    × (option_map (λ (byte : ℕ). bit_at byte (p % 8)) (shown_at (by_station later) k n) ≡ Some v)
