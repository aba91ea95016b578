-- The laws that crates above cite: on items, and on those that slaves accept.
use Rattle.std.proofs.Common.{◌≡◌, ◌≤◌, true, length, List}
use Rattle.std.specs.List.{AllByRecursion}
use Rattle.std.specs.List.Sorted.{IsPermutation}
use Rattle.ec_regs.specs.SyncMan.{guards_outputs}
use Rattle.ec_regs.specs.declared.sync_man.SyncMan.{SyncMan}
use Rattle.ec_wire.specs.declared.datagram.TheConstants.{MAX_DATA}
use Rattle.ec_esc.specs.State.{ControllerState}
use Rattle.ec_line.specs.Accepted.{Accepts}
use Rattle.ec_line.specs.Mapping.{mapping}
use Rattle.ec_check.specs.Fit.{IsFit}
use Rattle.ec_map.specs.Item.{ItemRecord, IsItem, AsksTheSame, is_in_range}
use Rattle.ec_map.specs.Place.{IsPlaced}
use Rattle.ec_map.specs.Share.{share, request_of, expected_of}
use Rattle.ec_map.proofs.ItemLemmas as items
use Rattle.ec_map.proofs.AnyOrderLemmas as orders
use Rattle.ec_map.proofs.LawLemmas as checked
use Rattle.ec_map.proofs.MappingLemmas as mappings
use Rattle.ec_map.proofs.NotShownLemmas as areas

-- an item has a byte
pub item_size : (r : ItemRecord) → IsItem r → 1 ≤ length r.payload
item_size = items.item_size

-- an item has no more bytes than a datagram holds
pub item_most : (r : ItemRecord) → IsItem r → length r.payload ≤ MAX_DATA
item_most = items.item_most

-- the range of an item exists
pub item_range : (r : ItemRecord) → IsItem r → is_in_range r.kind r.address (length r.payload) ≡ true
item_range = items.item_range

-- an item that the checker places is one that each controller of a fit line accepts
pub Accepts-IsPlaced : (line : List ControllerState) (r : ItemRecord) → IsFit line → IsItem r
    → IsPlaced line r
    → AllByRecursion (Accepts (request_of r)) line
Accepts-IsPlaced = checked.Accepts-IsPlaced

-- an item that asks what a placed one asks, on a line with the same mapping, is placed
pub placed_by_mapping : (line later : List ControllerState) (r s : ItemRecord)
    → mapping later ≡ mapping line → AsksTheSame r s → IsPlaced line r → IsPlaced later s
placed_by_mapping = mappings.placed_by_mapping

-- the shares of items that ask the same are the same
pub share_asked : (r s : ItemRecord) (c : ControllerState) → IsItem r → IsItem s → AsksTheSame r s
    → share s c ≡ share r c
share_asked = mappings.share_asked

-- what a fit line adds to the counter of a placed item hangs on the line's mapping
pub expected_by_mapping : (line later : List ControllerState) (r : ItemRecord) → mapping later ≡ mapping line
    → IsFit line → IsItem r → IsPlaced line r → expected_of later r ≡ expected_of line r
expected_by_mapping = mappings.expected_by_mapping

-- an item that is placed on a fit line is placed in any order of its slaves
pub placed_in_any_order : (line later : List ControllerState) (r : ItemRecord) → IsPermutation line later
    → IsFit line → IsPlaced line r → IsPlaced later r
placed_in_any_order = orders.placed_in_any_order

-- an area of outputs has a byte
pub outputs_size : (s : SyncMan) → guards_outputs s ≡ true → 1 ≤ s.length
outputs_size = areas.outputs_size
