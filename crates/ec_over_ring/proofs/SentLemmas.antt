-- What a running master sends in each cycle asks what its items ask: outputs and counters of 0 leave the
-- kind, the address and the size of an item.
use Rattle.std.proofs.Common.{◌≡◌, ℕ, Bool, true, false, cond, List, [], ◌∷◌, length, map}
use Rattle.std.proofs.Common.{length-append, length-drop, refl, ap, ◌∙◌, arith}
use Rattle.std.proofs.lemmas.List.{length-take}
use Rattle.std.specs.Int.{to_le_bytes, w64}
use Rattle.std.specs.List.{AllByRecursion}
use Rattle.ec_wire.specs.Command.{writes}
use Rattle.ec_wire.specs.Kind.{command_of}
use Rattle.ec_map.specs.Item.{ItemRecord, IsItem, AsksTheSame, is_broadcast, item_fault}
use Rattle.ec_master.specs.Again.{AskTheSame}
use Rattle.ec_master.specs.Work.{rewound}
use Rattle.ec_run.specs.Cycles.{items_sent}
use Rattle.ec_run.specs.Outputs.{filled, image_of, in_front, left_by, numbered, outputs_at}
use Rattle.ec_run.specs.declared.cycles.Cycles.{Cycles}
use Rattle.ec_run.specs.declared.outputs.Outputs.{Outputs}
use Rattle.ec_run.specs.declared.outputs.Outputs.TheVariants.{Kept, Count, Images}

-- ---- they ask the same

-- each asks what it asks
asks_itself : (items : List ItemRecord) → AskTheSame items items
asks_itself [] = tt
asks_itself (r ∷ rs) = (record { kind = refl; address = refl; size = refl }, asks_itself rs)

-- so does one that is rewound
asks_rewound : (r s : ItemRecord) → AsksTheSame r s → AsksTheSame r (rewound s)
asks_rewound r s asks =
    let P : Bool → Type 0 = λ b. AsksTheSame r
    (cond b (record s { counter = 0; adp = 0 }) (record s { counter = 0 })) in
    elim (is_broadcast s.kind) as P [
      | true ↦ record { kind = asks.kind; address = asks.address; size = asks.size }
      | false ↦ record { kind = asks.kind; address = asks.address; size = asks.size }
    ]

ask_rewound : (rs ss : List ItemRecord) → AskTheSame rs ss → AskTheSame rs (map rewound ss)
ask_rewound [] [] asks = tt
ask_rewound [] (s ∷ ss) asks = absurd asks
ask_rewound (r ∷ rs) [] asks = absurd asks
ask_rewound (r ∷ rs) (s ∷ ss) asks = (asks_rewound r s asks.0, ask_rewound rs ss asks.1)

-- bytes in front of data leave their number
length-in_front : (bytes payload : List ℕ) → length (in_front bytes payload) ≡ length payload
length-in_front bytes payload =
    simp (length-append, length-take, length-drop) (omega arith)

-- and an item with other outputs asks the same
asks_filled : (r : ItemRecord) (bytes : List ℕ)
    → AsksTheSame r (cond (writes (command_of r.kind)) (record r { payload = in_front bytes r.payload }) r)
asks_filled r bytes =
    let P : Bool → Type 0 = λ b. AsksTheSame r (cond b (record r { payload = in_front bytes r.payload }) r) in
    elim (writes (command_of r.kind)) as P [
      | true ↦ record { kind = refl; address = refl; size = length-in_front bytes r.payload }
      | false ↦ record { kind = refl; address = refl; size = refl }
    ]

ask_numbered : (cycle : ℕ) (rs : List ItemRecord) → AskTheSame rs (map (numbered cycle) rs)
ask_numbered cycle [] = tt
ask_numbered cycle (r ∷ rs) = (asks_filled r (to_le_bytes w64 cycle), ask_numbered cycle rs)

ask_filled : (image : List ℕ) (rs : List ItemRecord) → AskTheSame rs (filled image rs)
unfolding filled
ask_filled image [] = tt
ask_filled image (r ∷ rs) = (asks_filled r image, ask_filled (left_by image r) rs)

ask_outputs : (outputs : Outputs) (cycle : ℕ) (rs : List ItemRecord)
    → AskTheSame rs (outputs_at outputs cycle rs)
ask_outputs Kept cycle rs = asks_itself rs
ask_outputs Count cycle rs = ask_numbered cycle rs
ask_outputs (Images images) cycle rs = ask_filled (image_of images.now cycle) rs

-- what the next cycle sends asks what is asked
pub sent_asks : (outputs : Outputs) (s : Cycles) → AskTheSame s.asked (items_sent outputs s)
sent_asks outputs s =
    let k : ℕ = s.counts.cycles in
    ask_rewound s.asked (outputs_at outputs k s.asked) (ask_outputs outputs k s.asked)

-- ---- they are items

-- an item that is rewound is an item
item_rewound : (r : ItemRecord) → IsItem r → IsItem (rewound r)
item_rewound r item =
    let P : Bool → Type 0 = λ b. IsItem
    (cond b (record r { counter = 0; adp = 0 }) (record r { counter = 0 })) in
    elim (is_broadcast r.kind) as P [
      | true ↦ record { good = item.good; address = item.address; counter = omega arith; adp = omega arith }
      | false ↦ record { good = item.good; address = item.address; counter = omega arith; adp = item.adp }
    ]

items_rewound : (rs : List ItemRecord) → AllByRecursion IsItem rs → AllByRecursion IsItem (map rewound rs)
items_rewound [] each = tt
items_rewound (r ∷ rs) each = (item_rewound r each.0, items_rewound rs each.1)

-- and so is one with other outputs
item_filled : (r : ItemRecord) (bytes : List ℕ) → IsItem r
    → IsItem (cond (writes (command_of r.kind)) (record r { payload = in_front bytes r.payload }) r)
item_filled r bytes item =
    let P : Bool → Type 0 = λ b. IsItem (cond b (record r { payload = in_front bytes r.payload }) r) in
    elim (writes (command_of r.kind)) as P [
      | true ↦ record {
        good = ap (item_fault r.kind r.address) (length-in_front bytes r.payload) ∙ item.good;
        address = item.address;
        counter = item.counter;
        adp = item.adp;
      }
      | false ↦ item
    ]

items_numbered : (cycle : ℕ) (rs : List ItemRecord) → AllByRecursion IsItem rs
    → AllByRecursion IsItem (map (numbered cycle) rs)
items_numbered cycle [] each = tt
items_numbered cycle (r ∷ rs) each =
    (item_filled r (to_le_bytes w64 cycle) each.0, items_numbered cycle rs each.1)

items_filled : (image : List ℕ) (rs : List ItemRecord) → AllByRecursion IsItem rs
    → AllByRecursion IsItem (filled image rs)
unfolding filled
items_filled image [] each = tt
items_filled image (r ∷ rs) each = (item_filled r image each.0, items_filled (left_by image r) rs each.1)

items_outputs : (outputs : Outputs) (cycle : ℕ) (rs : List ItemRecord) → AllByRecursion IsItem rs
    → AllByRecursion IsItem (outputs_at outputs cycle rs)
items_outputs Kept cycle rs each = each
items_outputs Count cycle rs each = items_numbered cycle rs each
items_outputs (Images images) cycle rs each = items_filled (image_of images.now cycle) rs each

pub sent_items : (outputs : Outputs) (s : Cycles) → AllByRecursion IsItem s.asked
    → AllByRecursion IsItem (items_sent outputs s)
sent_items outputs s each =
    let k : ℕ = s.counts.cycles in
    items_rewound (outputs_at outputs k s.asked) (items_outputs outputs k s.asked each)
