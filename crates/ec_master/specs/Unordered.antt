-- A master's cycle as a machine builder wishes it: item after item is answered by slaves that are known by
-- their stations alone. No frame, no copy, no place on the line and no link occurs in it.
use Rattle.std.specs.Prelude.{◌≡◌, ℕ, zero, suc, ◌+◌, ◌%◌, ◌==◌, if◌then◌else◌, Option, None, Some}
use Rattle.std.specs.Prelude.{List, [], ◌∷◌, length}
use Rattle.std.specs.Option.{option_map}
use Rattle.std.specs.List.{AllByRecursion}
use Rattle.ec_regs.specs.Bits.{AreBytes, bit}
use Rattle.ec_regs.specs.declared.registers.TheConstants.{STATION_ADDRESS}
use Rattle.ec_esc.specs.State.{IsController, word_at}
use Rattle.ec_app.specs.State.{SlaveState}
use Rattle.ec_app.specs.Lending.{with_controller}
use Rattle.ec_line.specs.After.{after}
use Rattle.ec_line.specs.Claims.{claim}
use Rattle.ec_check.specs.Fit.{IsFit}
use Rattle.ec_check.specs.Line.{controllers}
use Rattle.ec_map.specs.Item.{ItemRecord, is_broadcast}
use Rattle.ec_map.specs.Place.{IsPlaced}
use Rattle.ec_map.specs.Share.{share, request_of}

-- ---- slaves by their stations

-- for each station address at most one slave
abbrev pub ByStation : Type 0
ByStation = ℕ → Option SlaveState

-- a slave's station address
unfoldable pub station : SlaveState → ℕ
station s = word_at s.controller.memory STATION_ADDRESS

-- the slaves of a list by their stations
unfoldable pub by_station : List SlaveState → ByStation
by_station [] n = None
by_station (s ∷ ss) n = if station s == n then Some s else by_station ss n

-- what the slave of a station comes to, if there is one
unfoldable pub part_of_station : (SlaveState → ℕ) → Option SlaveState → ℕ
part_of_station f None = 0
part_of_station f (Some s) = f s

-- what slaves come to together, each station below a limit counted once
unfoldable pub sum_of_stations : (SlaveState → ℕ) → ByStation → ℕ → ℕ
sum_of_stations f slaves zero = 0
sum_of_stations f slaves (suc n) = part_of_station f (slaves n) + sum_of_stations f slaves n

-- over all 65,536 stations
abbrev pub total : (SlaveState → ℕ) → ByStation → ℕ
total f slaves = sum_of_stations f slaves 65536

-- ---- one item

-- a slave after an item: its memory took the item's data where the item writes it, and shows what that
-- completes; its application is as before
abbrev pub slave_after : ItemRecord → SlaveState → SlaveState
slave_after r s = with_controller s (after (request_of r) r.payload s.controller)

abbrev pub slaves_after : ItemRecord → ByStation → ByStation
slaves_after r slaves n = option_map (slave_after r) (slaves n)

-- the slave of some station claims a bit of the item's data for a value of its own
pub record IsClaimed (slaves : ByStation) (r : ItemRecord) (i value : ℕ) : Type 0 where
  pub station : ℕ
  pub slave : SlaveState
  pub there : slaves station ≡ Some slave
  pub claims : claim (request_of r) slave.controller i ≡ Some value

-- the answer of slaves to an item: each claimed bit has its value and every other bit is as sent; the counter
-- has moved by the sum of their shares, and the ADP of a broadcast read by their number
pub record IsAnswer (slaves : ByStation) (sent got : ItemRecord) : Type 0 where
  pub kind : got.kind ≡ sent.kind
  pub address : got.address ≡ sent.address
  pub size : length got.payload ≡ length sent.payload
  pub claimed : (i value : ℕ) → IsClaimed slaves sent i value → bit got.payload i ≡ value
  pub rest : (i : ℕ) → ((value : ℕ) → ¬ IsClaimed slaves sent i value)
      → bit got.payload i ≡ bit sent.payload i
  pub counter : got.counter ≡ (sent.counter + total (λ s. share sent s.controller) slaves) % 65536
  pub adp : got.adp
      ≡ (if is_broadcast sent.kind then (sent.adp + total (λ s. 1) slaves) % 65536 else sent.adp)

-- ---- a cycle

-- items are answered one after the other, each by the slaves as the items before it left them
abbrev pub AreAnswers : ByStation → List ItemRecord → List ItemRecord → Type 0
AreAnswers slaves [] [] = Unit {0}
AreAnswers slaves (sent ∷ rest) (got ∷ gots) =
    IsAnswer slaves sent got × AreAnswers (slaves_after sent slaves) rest gots
AreAnswers slaves _ _ = ⊥

-- the slaves after all items
abbrev pub slaves_after_all : List ItemRecord → ByStation → ByStation
slaves_after_all [] slaves = slaves
slaves_after_all (r ∷ rs) slaves = slaves_after_all rs (slaves_after r slaves)

-- the cycle of slaves and items: what the items got, and the slaves later
pub record IsCycle (before : ByStation) (sent got : List ItemRecord) (later : ByStation) : Type 0 where
  pub answers : AreAnswers before sent got
  pub slaves : (n : ℕ) → later n ≡ slaves_after_all sent before n

-- the data of an item are bytes, as those of every item of a work are
abbrev pub HasBytes : ItemRecord → Type 0
HasBytes r = AreBytes r.payload

-- ---- of which slaves and items it is promised

-- a line that the mapping checker accepts, and items that it accepts on it
pub record IsAccepted (slaves : List SlaveState) (items : List ItemRecord) : Type 0 where
  pub are : AllByRecursion IsController (controllers slaves)
  pub fit : IsFit (controllers slaves)
  pub placed : AllByRecursion (IsPlaced (controllers slaves)) items
