-- What addressed items and broadcast reads claim and write is said by the range.
use Rattle.std.proofs.Common.{◌≡◌, ◌⊎◌, ⊎_elim, ℕ, ◌+◌, ◌-◌, ◌*◌, ◌/◌, ◌<◌, ◌≤◌, Bool, true, false, ◌&&◌}
use Rattle.std.proofs.Common.{◌||◌, if◌then◌else◌, cond, not}
use Rattle.std.proofs.Common.{eqb, leb, ltb, List, length, Option, None, Some, sym, ◌∙◌, ap, refl, arith}
use Rattle.std.specs.Option.{option_map, is_some}
use Rattle.std.proofs.lemmas.Bool.{le-leb, leb-true, lt-ltb, and_parts, cases_lt}
use Rattle.ec_regs.specs.Bits.{bit}
use Rattle.ec_regs.specs.declared.registers.TheConstants.{STATION_ADDRESS, PROCESS_MEMORY, MEMORY_SIZE}
use Rattle.ec_regs.proofs.Laws.{bit-with_bits_taken, bit-with_bits_kept, with_bits_none}
use Rattle.ec_wire.specs.Datagram.{adp_of, ado_of}
use Rattle.ec_regs.specs.AddressRange.{within}
use Rattle.ec_areas.specs.Ranges.{takes_writes, is_range, meets_locked, some_address, filled_by}
use Rattle.ec_areas.specs.Records.{sync_managers_of}
use Rattle.ec_areas.proofs.Laws.{reads_registers}
use Rattle.ec_esc.specs.State.{ControllerState, IsController, word_at}
use Rattle.ec_esc.specs.Pass.{Half, where_served, range_sources, range_targets, read_mailbox, written_mailbox}
use Rattle.ec_esc.specs.Pass.{serves_range_read, serves_range_write}
use Rattle.ec_line.specs.After.{written_through, after}
use Rattle.ec_line.specs.Claims.{claim, taken}
use Rattle.ec_line.specs.Request.{Request}
use Rattle.ec_wire.specs.declared.kind.Kind.{Kind}
use Rattle.ec_wire.specs.declared.kind.Kind.TheVariants.{Brd, Fprd, Fpwr}
use Rattle.ec_line.proofs.Laws.{claim_in, claim_out, broadcast_claim}
use Rattle.ec_map.specs.Item.{ItemRecord, IsItem, is_in_range, is_broadcast}
use Rattle.ec_map.specs.Place.{station_named, ado_named}
use Rattle.ec_map.specs.Share.{serves_item_read, serves_item_write, request_of}
use Rattle.ec_map.proofs.Laws.{item_size, item_range}

-- ---- halves

-- nothing stands in either branch
either_none : (b : Bool) → ◌≡◌ {A = Option ℕ} (cond b None None) None
either_none true = refl
either_none false = refl

-- what a half has no place for has none where it is served
by_served : (b : Bool) (h : Half) (p : ℕ) → h.places p ≡ None → (where_served b h).places p ≡ None
by_served true h p none = none
by_served false h p none = refl

-- ---- addressed reads

module _ (a n : ℕ) (c : ControllerState) (i : ℕ) where
  claim_fprd : (eqb (adp_of a) (word_at c.memory STATION_ADDRESS) && serves_range_read c (ado_of a) n) ≡ true
      → i < 8 * n
      → claim (record { kind = Fprd; address = a; count = n }) c i ≡ Some (bit c.memory (8 * ado_of a + i))
  claim_fprd served inside =
      let half : Half =
      record { places = range_sources (ado_of a); gain = 1; mail = read_mailbox c (ado_of a) n } in
      claim_in (record { kind = Fprd; address = a; count = n }) c i inside
      ∙ ap (λ b. option_map (bit c.memory) ((where_served b half).places i)) served

  unclaimed_fprd : (eqb (adp_of a) (word_at c.memory STATION_ADDRESS) && serves_range_read c (ado_of a) n)
      ≡ false
      → claim (record { kind = Fprd; address = a; count = n }) c i ≡ None
  unclaimed_fprd idle =
      let r : Request = record { kind = Fprd; address = a; count = n } in
      let half : Half =
      record { places = range_sources (ado_of a); gain = 1; mail = read_mailbox c (ado_of a) n } in
      ⊎_elim
      (λ (inside : i < 8 * n). claim_in r c i inside
      ∙ ap (λ b. option_map (bit c.memory) ((where_served b half).places i)) idle)
      (λ (past : 8 * n ≤ i). claim_out r c i past)
      (cases_lt i (8 * n))

  -- ---- broadcast reads

  claim_brd : 1 ≤ n → ado_of a + n ≤ PROCESS_MEMORY → i < 8 * n → bit c.memory (8 * ado_of a + i) ≡ 1
      → claim (record { kind = Brd; address = a; count = n }) c i ≡ Some 1
  claim_brd some registers inside one =
      broadcast_claim a n c i inside
      ∙ ap (λ b. cond b
      (cond (eqb (bit c.memory (8 * ado_of a + i)) 1) (Some (bit c.memory (8 * ado_of a + i))) None) None)
      (reads_registers (sync_managers_of c.memory) (ado_of a) n some registers)
      ∙ ap (λ (v : ℕ). cond (eqb v 1) (Some v) None) one

  unclaimed_brd : bit c.memory (8 * ado_of a + i) ≡ 0
      → claim (record { kind = Brd; address = a; count = n }) c i ≡ None
  unclaimed_brd zero_bit =
      let r : Request = record { kind = Brd; address = a; count = n } in
      ⊎_elim
      (λ (inside : i < 8 * n).
      broadcast_claim a n c i inside
      ∙ ap (λ (v : ℕ). cond (serves_range_read c (ado_of a) n) (cond (eqb v 1) (Some v) None) None) zero_bit
      ∙ either_none (serves_range_read c (ado_of a) n))
      (λ (past : 8 * n ≤ i). claim_out r c i past)
      (cases_lt i (8 * n))

-- ---- addressed writes

module _ (a n : ℕ) (c : ControllerState) where
  taken_fpwr : (i : ℕ)
      → (eqb (adp_of a) (word_at c.memory STATION_ADDRESS) && serves_range_write c (ado_of a) n) ≡ true
      → i < 8 * n → takes_writes c.memory (ado_of a + i / 8) ≡ true
      → taken (record { kind = Fpwr; address = a; count = n }) c (8 * ado_of a + i) ≡ Some i
  unfolding taken
  taken_fpwr i served inside takes =
      let from : ℕ = ado_of a in
      let half : Half =
      record { places = range_targets c from n; gain = 1; mail = written_mailbox c from n } in
      let byte : (8 * from + i) / 8 ≡ from + i / 8 = omega arith in
      let here : (8 * from + i) - 8 * from ≡ i = omega arith in
      let starts : leb from (from + i / 8) ≡ true = le-leb _ _ (omega arith) in
      let ends : ltb (from + i / 8) (from + n) ≡ true = lt-ltb _ _ (omega arith) in
      ap (λ b. (where_served b half).places (8 * from + i)) served
      ∙ ap (λ (m : ℕ). if within from n m && takes_writes c.memory m then Some ((8 * from + i) - 8 * from)
      else None) byte
      ∙ rw (starts, ends, takes) (ap Some here)

  untaken_fpwr : (p : ℕ) → (within (ado_of a) n (p / 8) && takes_writes c.memory (p / 8)) ≡ false
      → taken (record { kind = Fpwr; address = a; count = n }) c p ≡ None
  unfolding taken
  untaken_fpwr p other =
      let from : ℕ = ado_of a in
      let half : Half =
      record { places = range_targets c from n; gain = 1; mail = written_mailbox c from n } in
      let none : range_targets c from n p ≡ None = rw other refl in
      by_served (eqb (adp_of a) (word_at c.memory STATION_ADDRESS) && serves_range_write c from n) half p none

  idle_fpwr : (p : ℕ)
      → (eqb (adp_of a) (word_at c.memory STATION_ADDRESS) && serves_range_write c (ado_of a) n) ≡ false
      → taken (record { kind = Fpwr; address = a; count = n }) c p ≡ None
  unfolding taken
  idle_fpwr p idle =
      let half : Half =
      record { places = range_targets c (ado_of a) n; gain = 1; mail = written_mailbox c (ado_of a) n } in
      ap (λ b. (where_served b half).places p) idle

-- ---- what is left

-- the memory after a request has the data's bit where one is taken, and else its own
after_taken : (r : Request) (payload : List ℕ) (c : ControllerState) (p i : ℕ) → p < 8 * length c.memory
    → taken r c p ≡ Some i
    → bit (after r payload c).memory p ≡ bit payload i
unfolding written_through
after_taken r payload c p i inside e = bit-with_bits_taken c.memory payload (taken r c) p i inside e

after_kept : (r : Request) (payload : List ℕ) (c : ControllerState) (p : ℕ) → taken r c p ≡ None
    → bit (after r payload c).memory p ≡ bit c.memory p
unfolding written_through
after_kept r payload c p e = bit-with_bits_kept c.memory payload (taken r c) p e

after_none : (r : Request) (payload : List ℕ) (c : ControllerState) → IsController c
    → ((p : ℕ) → taken r c p ≡ None)
    → (after r payload c).memory ≡ c.memory
unfolding written_through
after_none r payload c controller none =
    with_bits_none c.memory payload (taken r c) controller.memory (λ p inside. none p)

-- ---- items

-- the request of an item, by its kind
asked : Kind → ItemRecord → Request
asked k r = record {
  kind = k;
  address = if is_broadcast k then r.adp + 65536 * r.address else r.address;
  count = length r.payload;
}

request-asked : (k : Kind) (r : ItemRecord) → r.kind ≡ k → request_of r ≡ asked k r
unfolding asked
request-asked k r is = ap (λ (j : Kind). asked j r) is

-- a broadcast read asks registers
broadcast_place : (r : ItemRecord) → IsItem r → r.kind ≡ Brd → r.address + length r.payload ≤ PROCESS_MEMORY
broadcast_place r item is =
    leb-true _ _ (ap (λ (k : Kind). is_in_range k r.address (length r.payload)) (sym is) ∙ item_range r item)

ado_broadcast : (r : ItemRecord) → IsItem r → ado_of (r.adp + 65536 * r.address) ≡ r.address
ado_broadcast r item = let small : r.adp < 65536 = item.adp in omega arith

pub item_fprd : (r : ItemRecord) (c : ControllerState) (i : ℕ) → r.kind ≡ Fprd → serves_item_read c r ≡ true
    → i < 8 * length r.payload → claim (request_of r) c i ≡ Some (bit c.memory (8 * ado_named r + i))
unfolding asked
item_fprd r c i is served inside =
    ap (λ (q : Request). claim q c i) (request-asked Fprd r is)
    ∙ claim_fprd r.address (length r.payload) c i served inside

pub item_not_fprd : (r : ItemRecord) (c : ControllerState) (i : ℕ) → r.kind ≡ Fprd → serves_item_read c r ≡ false
    → claim (request_of r) c i ≡ None
unfolding asked
item_not_fprd r c i is idle =
    ap (λ (q : Request). claim q c i) (request-asked Fprd r is)
    ∙ unclaimed_fprd r.address (length r.payload) c i idle

pub item_brd : (r : ItemRecord) (c : ControllerState) (i : ℕ) → r.kind ≡ Brd → IsItem r
    → i < 8 * length r.payload → bit c.memory (8 * r.address + i) ≡ 1 → claim (request_of r) c i ≡ Some 1
unfolding asked
item_brd r c i is item inside one =
    let here : ado_of (r.adp + 65536 * r.address) ≡ r.address = ado_broadcast r item in
    ap (λ (q : Request). claim q c i) (request-asked Brd r is)
    ∙ claim_brd (r.adp + 65536 * r.address) (length r.payload) c i (item_size r item)
    (omega (arith, here, broadcast_place r item is)) inside
    (ap (λ (m : ℕ). bit c.memory (8 * m + i)) here ∙ one)

pub item_not_brd : (r : ItemRecord) (c : ControllerState) (i : ℕ) → r.kind ≡ Brd → IsItem r
    → bit c.memory (8 * r.address + i) ≡ 0 → claim (request_of r) c i ≡ None
unfolding asked
item_not_brd r c i is item zero_bit =
    ap (λ (q : Request). claim q c i) (request-asked Brd r is)
    ∙ unclaimed_brd (r.adp + 65536 * r.address) (length r.payload) c i
    (ap (λ (m : ℕ). bit c.memory (8 * m + i)) (ado_broadcast r item) ∙ zero_bit)

pub item_writes : (r : ItemRecord) (c : ControllerState) (i : ℕ) → r.kind ≡ Fpwr
    → claim (request_of r) c i ≡ None
unfolding asked
item_writes r c i is =
    ap (λ (q : Request). claim q c i) (request-asked Fpwr r is)
    ∙ ⊎_elim
    (λ (inside : i < 8 * length r.payload). claim_in (asked Fpwr r) c i inside)
    (λ (past : 8 * length r.payload ≤ i). claim_out (asked Fpwr r) c i past)
    (cases_lt i (8 * length r.payload))

pub item_fpwr : (r : ItemRecord) (c : ControllerState) (i : ℕ) → r.kind ≡ Fpwr → IsController c
    → serves_item_write c r ≡ true
    → i < 8 * length r.payload → takes_writes c.memory (ado_named r + i / 8) ≡ true
    → bit (after (request_of r) r.payload c).memory (8 * ado_named r + i) ≡ bit r.payload i
unfolding asked
item_fpwr r c i is controller served inside takes =
    let n : ℕ = length r.payload in
    let from : ℕ = ado_named r in
    let open_ : Bool = not (meets_locked (sync_managers_of c.memory) from n)
    && some_address (takes_writes c.memory) from n in
    let range = (and_parts (eqb (station_named r) (word_at c.memory STATION_ADDRESS))
    (serves_range_write c from n) served).1 in
    let whole = (and_parts (is_range from n) (open_ || is_some (filled_by (sync_managers_of c.memory) from n))
    range).0 in
    let last : from + n ≤ MEMORY_SIZE =
    leb-true (from + n) MEMORY_SIZE (and_parts (leb 1 n) (leb (from + n) MEMORY_SIZE) whole).1 in
    ap (λ (q : Request). bit (after q r.payload c).memory (8 * from + i)) (request-asked Fpwr r is)
    ∙ after_taken (asked Fpwr r) r.payload c (8 * from + i) i (omega (arith, last, controller.memory_size))
    (taken_fpwr r.address n c i served inside takes)

pub item_beside_fpwr : (r : ItemRecord) (c : ControllerState) (p : ℕ) → r.kind ≡ Fpwr
    → (within (ado_named r) (length r.payload) (p / 8) && takes_writes c.memory (p / 8)) ≡ false
    → bit (after (request_of r) r.payload c).memory p ≡ bit c.memory p
unfolding asked
item_beside_fpwr r c p is other =
    ap (λ (q : Request). bit (after q r.payload c).memory p) (request-asked Fpwr r is)
    ∙ after_kept (asked Fpwr r) r.payload c p (untaken_fpwr r.address (length r.payload) c p other)

pub item_not_fpwr : (r : ItemRecord) (c : ControllerState) → r.kind ≡ Fpwr → IsController c
    → serves_item_write c r ≡ false
    → (after (request_of r) r.payload c).memory ≡ c.memory
unfolding asked
item_not_fpwr r c is controller idle =
    ap (λ (q : Request). (after q r.payload c).memory) (request-asked Fpwr r is)
    ∙ after_none (asked Fpwr r) r.payload c controller (λ p. idle_fpwr r.address (length r.payload) c p idle)

pub item_reads : (r : ItemRecord) (c : ControllerState) → (r.kind ≡ Brd) ⊎ (r.kind ≡ Fprd) → IsController c
    → (after (request_of r) r.payload c).memory ≡ c.memory
unfolding asked taken
item_reads r c kind controller =
    ⊎_elim
    (λ (is : r.kind ≡ Brd).
    ap (λ (q : Request). (after q r.payload c).memory) (request-asked Brd r is)
    ∙ after_none (asked Brd r) r.payload c controller (λ p. refl))
    (λ (is : r.kind ≡ Fprd).
    ap (λ (q : Request). (after q r.payload c).memory) (request-asked Fprd r is)
    ∙ after_none (asked Fprd r) r.payload c controller (λ p. refl))
    kind

-- ---- what an addressed write takes

pub taken_by_range : (r : ItemRecord) (c : ControllerState) (i : ℕ) → r.kind ≡ Fpwr → serves_item_write c r ≡ true
    → i < 8 * length r.payload → takes_writes c.memory (ado_named r + i / 8) ≡ true
    → taken (request_of r) c (8 * ado_named r + i) ≡ Some i
unfolding asked
taken_by_range r c i is served inside takes =
    ap (λ (q : Request). taken q c (8 * ado_named r + i)) (request-asked Fpwr r is)
    ∙ taken_fpwr r.address (length r.payload) c i served inside takes

pub untaken_beside : (r : ItemRecord) (c : ControllerState) (p : ℕ) → r.kind ≡ Fpwr
    → (within (ado_named r) (length r.payload) (p / 8) && takes_writes c.memory (p / 8)) ≡ false
    → taken (request_of r) c p ≡ None
unfolding asked
untaken_beside r c p is other =
    ap (λ (q : Request). taken q c p) (request-asked Fpwr r is)
    ∙ untaken_fpwr r.address (length r.payload) c p other

pub untaken_idle : (r : ItemRecord) (c : ControllerState) (p : ℕ) → r.kind ≡ Fpwr → serves_item_write c r ≡ false
    → taken (request_of r) c p ≡ None
unfolding asked
untaken_idle r c p is idle =
    ap (λ (q : Request). taken q c p) (request-asked Fpwr r is)
    ∙ idle_fpwr r.address (length r.payload) c p idle
