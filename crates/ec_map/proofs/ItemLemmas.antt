-- What is known of the size and the range of an item.
use Rattle.std.proofs.Common.{◌≡◌, ℕ, ◌≤◌, Bool, true, false, cond, ◌||◌, eqb, ltb, length, None, Some, refl}
use Rattle.std.proofs.Common.{arith}
use Rattle.std.proofs.lemmas.Bool.{ltb-false, eqb-false, or_parts}
use Rattle.ec_wire.specs.declared.datagram.TheConstants.{MAX_DATA}
use Rattle.ec_map.specs.Item.{ItemRecord, IsItem, is_in_range}
use Rattle.ec_map.specs.declared.kind.ItemFault.{ItemFault}
use Rattle.ec_map.specs.declared.kind.ItemFault.TheVariants.{BadLength, BadRange}

-- where there is no fault the length and the range are good
no_fault : (b c : Bool) (x y : ItemFault) → cond b (Some x) (cond c None (Some y)) ≡ None
    → (b ≡ false) × (c ≡ true)
no_fault true c x y e = absurd (cc)
no_fault false true x y e = (refl, refl)
no_fault false false x y e = absurd (cc)

item_good : (r : ItemRecord) → IsItem r
    → ((eqb (length r.payload) 0 || ltb MAX_DATA (length r.payload)) ≡ false)
    × (is_in_range r.kind r.address (length r.payload) ≡ true)
item_good r item =
    no_fault (eqb (length r.payload) 0 || ltb MAX_DATA (length r.payload))
    (is_in_range r.kind r.address (length r.payload)) BadLength BadRange item.good

-- it has a byte
pub item_size : (r : ItemRecord) → IsItem r → 1 ≤ length r.payload
item_size r item =
    let n : ℕ = length r.payload in
    let some = eqb-false n 0 (or_parts (eqb n 0) (ltb MAX_DATA n) (item_good r item).0).0 in
    omega (arith, some)

-- and no more than a datagram holds
pub item_most : (r : ItemRecord) → IsItem r → length r.payload ≤ MAX_DATA
item_most r item =
    let n : ℕ = length r.payload in
    ltb-false MAX_DATA n (or_parts (eqb n 0) (ltb MAX_DATA n) (item_good r item).0).1

-- and its range exists
pub item_range : (r : ItemRecord) → IsItem r → is_in_range r.kind r.address (length r.payload) ≡ true
item_range r item = (item_good r item).1
