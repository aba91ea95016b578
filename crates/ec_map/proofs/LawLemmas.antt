-- What the checker's answers give the promises about cycles.
use Rattle.std.proofs.Common.{◌≡◌, ◌⊎◌, ⊎_elim, inl, inr, ℕ, zero, suc, ◌+◌, ◌*◌, ◌<◌, ◌≤◌, ◌^◌, Bool}
use Rattle.std.proofs.Common.{true, false, cond, ◌&&◌, leb, List, [], ◌∷◌, length}
use Rattle.std.proofs.Common.{get_or, refl, sym, ap, ◌∙◌, arith}
use Rattle.std.specs.List.{AllByRecursion, Any, list_any}
use Rattle.std.proofs.lemmas.Bool.{and_parts, or_cases, or_left, or_right, leb-true}
use Rattle.std.proofs.lemmas.List.Elements.{All-from_get_or, recursion_from_All}
use Rattle.ec_regs.specs.SyncMan.{is_active, is_buffered, master_reads, master_writes}
use Rattle.ec_regs.specs.declared.sync_man.SyncMan.{SyncMan}
use Rattle.ec_regs.specs.declared.registers.TheConstants.{PROCESS_MEMORY}
use Rattle.ec_wire.specs.Datagram.{ado_of}
use Rattle.ec_areas.specs.Records.{sync_managers_of}
use Rattle.ec_esc.specs.State.{ControllerState}
use Rattle.ec_esc.specs.Pass.{effect, gain_of, serves_range_read, serves_reading, serves_writing}
use Rattle.ec_esc.specs.Pass.{serves_read as reads_bits, serves_write as writes_bits}
use Rattle.ec_esc.proofs.Laws.{gain_served}
use Rattle.ec_areas.proofs.Laws.{reads_registers}
use Rattle.ec_wire.specs.Command.{addressing, reads, writes}
use Rattle.ec_wire.specs.Kind.{command_of}
use Rattle.ec_line.specs.Accepted.{Accepts, AcceptsPlace, IsWithinArea, LiesInArea, LiesInRegisters}
use Rattle.ec_line.specs.Claims.{gain}
use Rattle.ec_wire.specs.declared.kind.Kind.{Kind}
use Rattle.ec_wire.specs.declared.kind.Kind.TheVariants.{Lrd, Lwr, Lrw, Brd, Fprd, Fpwr}
use Rattle.ec_check.specs.Fit.{IsFit}
use Rattle.ec_check.specs.Line.{controller_of, station_of}
use Rattle.ec_map.specs.Item.{ItemRecord, IsItem, is_in_range, wire_address}
use Rattle.ec_map.specs.Place.{is_input_run, is_output_run, holds_run, may_read, may_write, IsPlaced}
use Rattle.ec_map.specs.Share.{share, request_of, serves_item_read, serves_item_write}
use Rattle.ec_map.proofs.PlaceLemmas.{may_read-IsPlaced, may_write-IsPlaced}
use Rattle.ec_map.proofs.ItemLemmas.{item_size, item_range}

-- ---- lists, number by number

-- an element that passes a test is one of some
list_any-Any : {X : Type 0} (p : X → Bool) (xs : List X) (k : ℕ) (x : X) → k < length xs → get_or xs k x ≡ x
    → p x ≡ true
    → list_any p xs ≡ true
list_any-Any p [] k x inside is passes = absurd (omega arith)
list_any-Any p (y ∷ ys) zero x inside is passes = or_left (p y) (list_any p ys) (ap p is ∙ passes)
list_any-Any p (y ∷ ys) (suc k) x inside is passes =
    or_right (p y) (list_any p ys) (list_any-Any p ys k x (omega arith) is passes)

Any-list_any : {X : Type 0} (p : X → Bool) (xs : List X) → list_any p xs ≡ true → Any (λ x. p x ≡ true) xs
Any-list_any p [] e = absurd (cc)
Any-list_any p (y ∷ ys) e =
    ⊎_elim
    (λ (here : p y ≡ true). (0, y, omega arith, refl, here))
    (λ (behind : list_any p ys ≡ true).
    let found = Any-list_any p ys behind in (suc found.0, found.1, omega (arith, found.2), found.3, found.4))
    (or_cases (p y) (list_any p ys) e)

-- ---- an accepted item

-- a run of inputs lies in an area that the master reads
within_inputs : (s : SyncMan) (from n : ℕ) → is_input_run from n s ≡ true → IsWithinArea master_reads s from n
within_inputs s from n e =
    let run = and_parts (is_active s && is_buffered s && master_reads s) (holds_run s from n) e in
    let direction = and_parts (is_active s && is_buffered s) (master_reads s) run.0 in
    let kind = and_parts (is_active s) (is_buffered s) direction.0 in
    let place = and_parts (leb s.start from) (leb (from + n) (s.start + s.length)) run.1 in
    record {
      active = kind.0;
      buffered = kind.1;
      direction_is = direction.1;
      starts = leb-true s.start from place.0;
      ends = leb-true (from + n) (s.start + s.length) place.1;
    }

-- and a run of outputs in one that the master writes
within_outputs : (s : SyncMan) (from n : ℕ) → is_output_run from n s ≡ true
    → IsWithinArea master_writes s from n
within_outputs s from n e =
    let run = and_parts (is_active s && is_buffered s && master_writes s) (holds_run s from n) e in
    let direction = and_parts (is_active s && is_buffered s) (master_writes s) run.0 in
    let kind = and_parts (is_active s) (is_buffered s) direction.0 in
    let place = and_parts (leb s.start from) (leb (from + n) (s.start + s.length)) run.1 in
    record {
      active = kind.0;
      buffered = kind.1;
      direction_is = direction.1;
      starts = leb-true s.start from place.0;
      ends = leb-true (from + n) (s.start + s.length) place.1;
    }

-- what may be read lies in the registers or in an area of inputs
reads_where : (c : ControllerState) (from n : ℕ) → may_read c from n ≡ true
    → LiesInRegisters from n ⊎ LiesInArea master_reads c from n
reads_where c from n may =
    ⊎_elim
    (λ (registers : leb (from + n) PROCESS_MEMORY ≡ true). inl (leb-true (from + n) PROCESS_MEMORY registers))
    (λ (inputs : list_any (is_input_run from n) (sync_managers_of c.memory) ≡ true).
    let found = Any-list_any (is_input_run from n) (sync_managers_of c.memory) inputs in
    inr (found.0, found.1, found.2, found.3, within_inputs found.1 from n found.4))
    (or_cases (leb (from + n) PROCESS_MEMORY)
    (list_any (is_input_run from n) (sync_managers_of c.memory)) may)

-- what may be written in one of outputs
writes_where : (c : ControllerState) (from n : ℕ) → may_write c from n ≡ true
    → LiesInArea master_writes c from n
writes_where c from n may =
    let found = Any-list_any (is_output_run from n) (sync_managers_of c.memory) may in
    (found.0, found.1, found.2, found.3, within_outputs found.1 from n found.4)

-- each slave accepts where the item goes, by its kind
accepts_place : (line : List ControllerState) (slave : ℕ) (k : Kind) (a n p : ℕ) (xs : List ℕ) → IsFit line
    → slave < length line
    → IsItem (record { kind = k; address = a; payload = xs; counter = n; adp = p })
    → IsPlaced line (record { kind = k; address = a; payload = xs; counter = n; adp = p })
    → AcceptsPlace k (request_of (record { kind = k; address = a; payload = xs; counter = n; adp = p }))
    (controller_of line slave)
unfolding station_of
accepts_place line slave Lrd a n p xs fit there item placed = tt
accepts_place line slave Lwr a n p xs fit there item placed = tt
accepts_place line slave Lrw a n p xs fit there item placed = tt
accepts_place line slave Brd a n p xs fit there item placed =
    let registers : a + length xs ≤ PROCESS_MEMORY =
    leb-true (a + length xs) PROCESS_MEMORY (item_range _ item) in
    let small : p < 2 ^ 16 = item.adp in
    omega arith
accepts_place line slave Fprd a n p xs fit there item placed = λ station.
    reads_where (controller_of line slave) (ado_of a) (length xs)
    (may_read-IsPlaced line
    (record { kind = Fprd; address = a; payload = xs; counter = n; adp = p }) slave fit placed refl there
    (sym station))
accepts_place line slave Fpwr a n p xs fit there item placed = λ station.
    writes_where (controller_of line slave) (ado_of a) (length xs)
    (may_write-IsPlaced line
    (record { kind = Fpwr; address = a; payload = xs; counter = n; adp = p }) slave fit placed refl there
    (sym station))

pub Accepts-IsPlaced : (line : List ControllerState) (r : ItemRecord) → IsFit line → IsItem r
    → IsPlaced line r
    → AllByRecursion (Accepts (request_of r)) line
Accepts-IsPlaced line r fit item placed =
    let P : ControllerState → Type 0 = Accepts (request_of r) in
    recursion_from_All P line (All-from_get_or P line (record { memory = []; shown = []; written = false })
    (λ slave there. record {
      some = item_size r item;
      place = accepts_place line slave r.kind r.address r.counter r.adp r.payload fit there item placed;
    }))

-- ---- what a counter gains

-- the share of an item of a kind: 1 for a read that is served, and for a write 2 beside a read and 1 alone
share_served : (k : Kind) (r : ItemRecord) (c : ControllerState) → r.kind ≡ k
    → share r c
    ≡ cond
    (reads (command_of k)
    && serves_reading (addressing (command_of k)) c (wire_address (record r { kind = k })) (length r.payload))
    1 0
    + cond
    (writes (command_of k)
    && serves_writing (addressing (command_of k)) c (wire_address (record r { kind = k })) (length r.payload))
    (cond (reads (command_of k)) 2 1) 0
unfolding gain
share_served k r c is =
    ap (λ (j : Kind). gain_of (effect (command_of j) c (wire_address (record r { kind = j }))
    (length r.payload))) is
    ∙ gain_served (command_of k) c (wire_address (record r { kind = k })) (length r.payload)

pub share_lrd : (r : ItemRecord) (c : ControllerState) → r.kind ≡ Lrd
    → share r c ≡ cond (reads_bits c r.address (length r.payload)) 1 0
share_lrd r c is = omega (arith, share_served Lrd r c is)

pub share_lwr : (r : ItemRecord) (c : ControllerState) → r.kind ≡ Lwr
    → share r c ≡ cond (writes_bits c r.address (length r.payload)) 1 0
share_lwr r c is = omega (arith, share_served Lwr r c is)

pub share_lrw : (r : ItemRecord) (c : ControllerState) → r.kind ≡ Lrw
    → share r c
    ≡ cond (reads_bits c r.address (length r.payload)) 1 0
    + cond (writes_bits c r.address (length r.payload)) 2 0
share_lrw r c is = share_served Lrw r c is

-- a broadcast read of registers is always served
pub share_brd : (r : ItemRecord) (c : ControllerState) → IsItem r → r.kind ≡ Brd → share r c ≡ 1
share_brd r c item is =
    let n : ℕ = length r.payload in
    let a : ℕ = r.adp + 65536 * r.address in
    let inside : leb (r.address + n) PROCESS_MEMORY ≡ true =
    ap (λ (k : Kind). is_in_range k r.address n) (sym is) ∙ item_range r item in
    let registers : r.address + n ≤ PROCESS_MEMORY = leb-true (r.address + n) PROCESS_MEMORY inside in
    let small : r.adp < 2 ^ 16 = item.adp in
    let served : serves_range_read c (ado_of a) n ≡ true =
    reads_registers (sync_managers_of c.memory) (ado_of a) n (item_size r item) (omega arith) in
    share_served Brd r c is ∙ ap (λ b. cond b 1 0 + 0) served

pub share_fprd : (r : ItemRecord) (c : ControllerState) → r.kind ≡ Fprd
    → share r c ≡ cond (serves_item_read c r) 1 0
share_fprd r c is = omega (arith, share_served Fprd r c is)

pub share_fpwr : (r : ItemRecord) (c : ControllerState) → r.kind ≡ Fpwr
    → share r c ≡ cond (serves_item_write c r) 1 0
share_fpwr r c is = omega (arith, share_served Fpwr r c is)
