-- On an accepted line whose areas of outputs are shown, each mapped output lies in an area that each item
-- which writes its byte completes, and that some item completes.
use Rattle.std.proofs.Common.{◌≡◌, ◌⊎◌, ⊎_elim, inl, inr, ℕ, zero, suc, ◌+◌, ◌-◌, ◌*◌, ◌^◌, ◌/◌, ◌%◌, ◌<◌, ◌≤◌, Bool, true}
use Rattle.std.proofs.Common.{false, ◌&&◌, ◌||◌, eqb, leb, ltb, Option, None, Some, List, [], ◌∷◌, length}
use Rattle.std.proofs.Common.{get_or, refl, sym, ap, subst, ◌∙◌, arith}
use Rattle.std.specs.List.{AllByRecursion, slice_get}
use Rattle.std.specs.Option.{is_some}
use Rattle.std.proofs.lemmas.Bool.{and_parts, cases_Bool, cases_lt, cases_order, both_ways, ne_eqb, eqb-true, le-leb}
use Rattle.std.proofs.lemmas.Bool.{lt-ltb, leb-true}
use Rattle.std.proofs.lemmas.Bool.Decides.{nat_tests}
use Rattle.std.proofs.lemmas.List.Elements.{All-from_get_or, All-get_or, All-from_recursion}
use Rattle.std.proofs.lemmas.List.Elements.{recursion_from_All}
use Rattle.std.proofs.lemmas.List.Folds.{Any-from_list_any}
use Rattle.std.proofs.lemmas.Option.{slice_get-get_or, slice_get_past, get_or_from_slice_get}
use Rattle.ec_regs.specs.declared.fmmu.Fmmu.{Fmmu}
use Rattle.ec_regs.specs.declared.registers.TheConstants.{FMMU_COUNT, SYNC_MANAGER_COUNT, STATION_ADDRESS}
use Rattle.ec_regs.specs.declared.registers.TheConstants.{PROCESS_MEMORY, MEMORY_SIZE, LOGICAL_BITS}
use Rattle.ec_regs.specs.declared.fmmu.TheConstants.{LAST_BIT}
use Rattle.ec_regs.specs.declared.sync_man.SyncMan.{SyncMan}
use Rattle.ec_regs.specs.Pairs.{is_switched_on, can_map, pair_count, reads, writes}
use Rattle.ec_regs.specs.SyncMan.{is_mailbox, master_reads}
use Rattle.ec_regs.specs.SyncMan.{guards_outputs}
use Rattle.ec_regs.specs.AddressRange.{within}
use Rattle.ec_regs.proofs.Laws.{pair_count_unmapped}
use Rattle.ec_areas.specs.Areas.{guards, locks, is_locked, is_writable}
use Rattle.ec_areas.specs.Logical.{names}
use Rattle.ec_areas.specs.Showing.{last_byte}
use Rattle.ec_areas.specs.Records.{fmmus_of, sync_managers_of, sync_manager_at, fmmu_at}
use Rattle.ec_areas.proofs.Laws.{get_or-sync_managers_of, length-sync_managers_of, guards_parts, active_place}
use Rattle.ec_areas.proofs.Laws.{NamesPairs-write_map, names_at, get_or-fmmus_of, length-fmmus_of}
use Rattle.ec_wire.specs.Datagram.{adp_of, ado_of}
use Rattle.ec_wire.specs.declared.kind.Kind.{Kind}
use Rattle.ec_wire.specs.declared.kind.Kind.TheVariants.{Lrd, Lwr, Lrw, Brd, Fprd, Fpwr}
use Rattle.ec_esc.specs.Pass.{Half, where_served, range_targets, written_mailbox, serves_range_write}
use Rattle.ec_esc.specs.Pass.{serves_write, write_sources}
use Rattle.ec_esc.specs.State.{ControllerState, word_at}
use Rattle.ec_app.specs.State.{SlaveState}
use Rattle.ec_line.specs.Claims.{taken}
use Rattle.ec_line.specs.Fit.{IsFitAlone}
use Rattle.ec_line.specs.Fit.{Writes as WritesPair}
use Rattle.ec_line.specs.Request.{Request}
use Rattle.ec_check.specs.declared.fault.MapFault.TheVariants.{AreasMeet}
use Rattle.ec_check.specs.Facts.{IsWellPlaced}
use Rattle.ec_check.specs.Fit.{IsFit}
use Rattle.ec_check.specs.Line.{controllers, controller_of, station_of, fmmu_of, sync_manager_of, HasFmmu}
use Rattle.ec_check.specs.Rules.{IsGuarded, IsMailStatus}
use Rattle.ec_map.specs.Item.{ItemRecord, IsItem, is_bit_of, is_in_range}
use Rattle.ec_map.specs.Covered.{asks, asks_bit}
use Rattle.ec_map.specs.NotShown.{Completes, WritesArea, IsMappedArea, AreShown}
use Rattle.ec_map.specs.declared.not_shown.WhyNotShown.TheVariants.{LeftBy, NeverCompleted}
use Rattle.ec_map.specs.Share.{request_of}
use Rattle.ec_map.specs.Written.{WritesMapped, WritesNamed}
use Rattle.ec_map.proofs.Laws.{item_range, outputs_size}
use Rattle.ec_map.specs.declared.covered.Way.TheVariants.{Writes}
use Rattle.ec_master.specs.Covered.{IsWriteTo, NoWriteTo, writes_at, CompletesWhere, IsCompleted, IsShownWhole}
use Rattle.ec_master.specs.Unordered.{by_station, IsAccepted}
use Rattle.ec_master.proofs.CoveredLemmas.{asked, request-asked, taken_written, outputs_parts, slave_of}
use Rattle.ec_master.proofs.CoveredLineLemmas.{IsPairOf, place_of, written_pair}

-- ---- the area of an output

-- what the mapping checker gives of each active FMMU
abbrev pub ArePlaced : Type 0
ArePlaced =
    (line : List ControllerState) (slave number : ℕ) → IsFit line → HasFmmu line slave number
    → is_switched_on (fmmu_of line slave number) ≡ true → IsWellPlaced line slave (fmmu_of line slave number)

-- an FMMU that has a pair is switched on
switched_on : (f : Fmmu) (j : ℕ) → j < pair_count f → is_switched_on f ≡ true
switched_on f j some =
    ⊎_elim
    (λ (can : can_map f ≡ true).
    let four = and_parts (is_switched_on f && leb 1 f.length && leb f.start LAST_BIT && leb f.stop LAST_BIT)
    (leb f.bit LAST_BIT) can in
    let three = and_parts (is_switched_on f && leb 1 f.length && leb f.start LAST_BIT) (leb f.stop LAST_BIT)
    four.0 in
    let two = and_parts (is_switched_on f && leb 1 f.length) (leb f.start LAST_BIT) three.0 in
    (and_parts (is_switched_on f) (leb 1 f.length) two.0).0)
    (λ (cannot : can_map f ≡ false).
    let none : pair_count f ≡ 0 = pair_count_unmapped f cannot in absurd (omega arith))
    (cases_Bool (can_map f))

-- a good one that is for writing is not for reading
not_reading : (f : Fmmu) → (f.kind ≡ 1) ⊎ (f.kind ≡ 2) → writes f ≡ true → reads f ≡ false
not_reading f kind for_writing =
    ⊎_elim
    (λ (one : f.kind ≡ 1). absurd (let no = rw one at for_writing in cc))
    (λ (two : f.kind ≡ 2). rw two refl)
    kind

-- a mapped output lies in an area of outputs
pub record IsOutputOf (line : List ControllerState) (place p : ℕ) : Type 0 where
  pub number : ℕ
  pub there : number < SYNC_MANAGER_COUNT
  pub outputs : guards_outputs (sync_manager_of line place number) ≡ true
  pub from : (sync_manager_of line place number).start ≤ p / 8
  pub to : p / 8 < (sync_manager_of line place number).start + (sync_manager_of line place number).length

pub output_area : ArePlaced → (line : List ControllerState) (place l p : ℕ) → IsFit line
    → IsPairOf line place Writes l p → IsOutputOf line place p
output_area placed line place l p fit of_pair =
    let f : Fmmu = fmmu_of line place of_pair.fmmu in
    let well = placed line place of_pair.fmmu fit of_pair.there
    (switched_on f of_pair.pair.0 of_pair.pair.1.mapped) in
    let idle : reads f ≡ false = not_reading f well.good.kind of_pair.way_is in
    let held = well.holds p (l, of_pair.pair) in
    let from : well.area.from ≤ p / 8 = held.from in
    let to : p / 8 < well.area.to = held.to in
    ⊎_elim
    (λ (guarded : IsGuarded line place f well.area).
    let s : SyncMan = sync_manager_of line place guarded.number in
    let starts : well.area.from ≡ s.start = guarded.from in
    let ends : well.area.to ≡ s.start + s.length = guarded.to in
    record {
      number = guarded.number;
      there = guarded.there;
      outputs = rw idle at guarded.suitable;
      from = omega arith;
      to = omega arith;
    })
    (λ (mail : IsMailStatus f well.area). absurd (both_ways (reads f) idle mail.for_reading))
    well.suitable

-- ---- a byte of an area of outputs may be written

-- a sync manager of outputs locks nothing
no_lock : (s : SyncMan) → guards_outputs s ≡ true → (is_mailbox s || master_reads s) ≡ false
no_lock s outputs =
    let kind = outputs_parts s outputs in
    let buffered : s.control % 4 ≡ 0 = eqb-true (s.control % 4) 0 kind.1 in
    let for_writing : s.control / 4 % 4 ≡ 1 = eqb-true (s.control / 4 % 4) 1 kind.2 in
    rw (buffered, for_writing) refl

-- and no other one guards its bytes
pub unlocked : (line : List ControllerState) (place number a : ℕ) → IsFit line → place < length line
    → number < SYNC_MANAGER_COUNT → guards_outputs (sync_manager_of line place number) ≡ true
    → (sync_manager_of line place number).start ≤ a
    → a < (sync_manager_of line place number).start + (sync_manager_of line place number).length
    → is_locked (sync_managers_of (controller_of line place).memory) a ≡ false
unfolding sync_manager_of locks
unlocked line place number a fit there below outputs from to =
    let memory : List ℕ = (controller_of line place).memory in
    let kind = outputs_parts (sync_manager_at memory number) outputs in
    ⊎_elim
    (λ (locked : is_locked (sync_managers_of memory) a ≡ true).
    let found = Any-from_list_any (λ s. locks s a) (sync_managers_of memory) locked in
    let k : ℕ = found.0 in
    let inside : k < SYNC_MANAGER_COUNT = omega (arith, found.2, length-sync_managers_of memory) in
    let s : SyncMan = found.1 in
    let is : s ≡ sync_manager_at memory k = sym found.3 ∙ get_or-sync_managers_of memory s k inside in
    let parts = and_parts (guards s a) (is_mailbox s || master_reads s) found.4 in
    let guarded = guards_parts (sync_manager_at memory k) a (ap (λ t. guards t a) (sym is) ∙ parts.0) in
    let locking : (is_mailbox (sync_manager_at memory k) || master_reads (sync_manager_at memory k)) ≡ true =
    ap (λ (t : SyncMan). is_mailbox t || master_reads t) (sym is) ∙ parts.1 in
    ⊎_elim
    (λ (same : number ≡ k).
    absurd (both_ways (is_mailbox (sync_manager_at memory number) || master_reads (sync_manager_at memory number))
    (no_lock (sync_manager_at memory number) outputs)
    (ap (λ (m : ℕ). is_mailbox (sync_manager_at memory m) || master_reads (sync_manager_at memory m)) same
    ∙ locking)))
    (λ (other : (number < k) ⊎ (k < number)).
    ⊎_elim
    (λ (before : number < k).
    absurd (fit (AreasMeet place number k a) (record {
      slave_there = there;
      order = before;
      number_there = inside;
      first = record { active = kind.0; from = from; to = to };
      second = record { active = guarded.0; from = guarded.1; to = guarded.2 };
    })))
    (λ (behind : k < number).
    absurd (fit (AreasMeet place k number a) (record {
      slave_there = there;
      order = behind;
      number_there = below;
      first = record { active = guarded.0; from = guarded.1; to = guarded.2 };
      second = record { active = kind.0; from = from; to = to };
    })))
    other)
    (cases_order number k))
    (λ (free : is_locked (sync_managers_of memory) a ≡ false). free)
    (cases_Bool (is_locked (sync_managers_of memory) a))

pub output_writable : (line : List ControllerState) (place number a : ℕ) → IsFit line → place < length line
    → number < SYNC_MANAGER_COUNT → guards_outputs (sync_manager_of line place number) ≡ true
    → (sync_manager_of line place number).start ≤ a
    → a < (sync_manager_of line place number).start + (sync_manager_of line place number).length
    → is_writable (sync_managers_of (controller_of line place).memory) a ≡ true
unfolding is_writable
output_writable line place number a fit there below outputs from to =
    let s : SyncMan = sync_manager_of line place number in
    let room = active_place s (outputs_parts s outputs).0 in
    let low : leb PROCESS_MEMORY a ≡ true = le-leb PROCESS_MEMORY a (omega (arith, room.0)) in
    let high : ltb a MEMORY_SIZE ≡ true = lt-ltb a MEMORY_SIZE (omega (arith, room.1)) in
    rw (low, high, unlocked line place number a fit there below outputs from to) refl

-- ---- what an item writes

-- one of the first bits of a map that names some has a place
named_bit : (f : ℕ → Option ℕ) (n : ℕ) → names f n ≡ true
    → (i : ℕ) × (i < n) × ((v : ℕ) × (f i ≡ Some v))
unfolding names
named_bit f zero named = absurd (cc)
named_bit f (suc n) named =
    ⊎_elim
    (λ (here : names f n ≡ true). let found = named_bit f n here in (found.0, omega (arith, found.1), found.2))
    (λ (none : names f n ≡ false).
    let last : is_some (f n) ≡ true = rw none at named in
    let P : Option ℕ → Type 0 = λ o. f n ≡ o → is_some o ≡ true
    → (i : ℕ) × (i < suc n) × ((v : ℕ) × (f i ≡ Some v)) in
    elim (f n) as P [
      | None ↦ λ _ never. absurd (cc)
      | Some v ↦ λ is _. (n, omega arith, (v, is))
    ] refl last)
    (cases_Bool (names f n))

-- a half that gives a place is served
served_place : (b : Bool) (h : Half) (q m : ℕ) → (where_served b h).places q ≡ Some m → h.places q ≡ Some m
served_place true h q m is = is
served_place false h q m is = absurd (cc)

-- a bit that takes a data bit of an item that is no write to the station is paired with it for writing
pub record TakesPair (x : ControllerState) (r : ItemRecord) (q m : ℕ) : Type 0 where
  pub asked_for : asks_bit Writes (8 * r.address + m) r ≡ true
  pub pair : WritesPair x (8 * r.address + m) q

takes_logical : (x : ControllerState) (r : ItemRecord) (k : Kind) (q m : ℕ) → r.kind ≡ k → asks Writes k ≡ true
    → write_sources x r.address (length r.payload) q ≡ Some m → TakesPair x r q m
takes_logical x r k q m is for_writing taken_bit =
    let found = (NamesPairs-write_map (sync_managers_of x.memory) (fmmus_of x.memory) (8 * r.address)
    (8 * length r.payload)).is_paired q m taken_bit in
    let inside : m < 8 * length r.payload = found.0 in
    let within_range : is_bit_of r.address (length r.payload) (8 * r.address + m) ≡ true = grind (arith, nat_tests) in
    record { asked_for = rw (is, for_writing) within_range; pair = found.1 }

takes_pair : (x : ControllerState) (r : ItemRecord) (q m n : ℕ) → word_at x.memory STATION_ADDRESS ≡ n
    → ¬ IsWriteTo n r → taken (request_of r) x q ≡ Some m → TakesPair x r q m
unfolding asked taken
takes_pair x r q m n named elsewhere is_taken = by_kind r.kind refl
  where
    none_some : ◌≡◌ {A = Option ℕ} None (Some m) → TakesPair x r q m
    none_some never = absurd (cc)

    as_asked : (k : Kind) → r.kind ≡ k → taken (asked k r) x q ≡ Some m
    as_asked k is = sym (ap (λ (w : Request). taken w x q) (request-asked k r is)) ∙ is_taken

    by_kind : (k : Kind) → r.kind ≡ k → TakesPair x r q m
    by_kind Lwr is =
        takes_logical x r Lwr q m is refl
        (served_place (serves_write x r.address (length r.payload))
        (record { places = write_sources x r.address (length r.payload); gain = 1; mail = None }) q m
        (as_asked Lwr is))
    by_kind Lrw is =
        takes_logical x r Lrw q m is refl
        (served_place (serves_write x r.address (length r.payload))
        (record { places = write_sources x r.address (length r.payload); gain = 2; mail = None }) q m
        (as_asked Lrw is))
    by_kind Lrd is = none_some (as_asked Lrd is)
    by_kind Brd is = none_some (as_asked Brd is)
    by_kind Fprd is = none_some (as_asked Fprd is)
    by_kind Fpwr is =
        let other : eqb (adp_of r.address) (word_at x.memory STATION_ADDRESS) ≡ false =
        ne_eqb (adp_of r.address) (word_at x.memory STATION_ADDRESS)
        (λ same. elsewhere (record { kind = is; named = same ∙ named })) in
        let half : Half =
        record {
          places = range_targets x (ado_of r.address) (length r.payload);
          gain = 1;
          mail = written_mailbox x (ado_of r.address) (length r.payload);
        } in
        none_some
        (sym (ap (λ b. (where_served (b && serves_range_write x (ado_of r.address) (length r.payload)) half).places q)
        other) ∙ as_asked Fpwr is)

-- the bits of an item that exists exist
bit_exists : (r : ItemRecord) (l : ℕ) → IsItem r → asks_bit Writes l r ≡ true → l < LOGICAL_BITS
bit_exists r l item asked_for = by_kind r.kind refl
  where
    parts : (asks Writes r.kind ≡ true) × (is_bit_of r.address (length r.payload) l ≡ true)
    parts = and_parts (asks Writes r.kind) (is_bit_of r.address (length r.payload) l) asked_for

    below : r.address + length r.payload ≤ 2 ^ 32 → l < LOGICAL_BITS
    below room = let inside = parts.1 in
        let bound : l < 8 * r.address + 8 * length r.payload = grind (arith, nat_tests) in omega arith

    range : (k : Kind) → r.kind ≡ k → is_in_range k r.address (length r.payload) ≡ true
    range k is = ap (λ (j : Kind). is_in_range j r.address (length r.payload)) (sym is) ∙ item_range r item

    by_kind : (k : Kind) → r.kind ≡ k → l < LOGICAL_BITS
    by_kind Lwr is = below (leb-true (r.address + length r.payload) (2 ^ 32) (range Lwr is))
    by_kind Lrw is = below (leb-true (r.address + length r.payload) (2 ^ 32) (range Lrw is))
    by_kind Lrd is = absurd (let no : asks Writes Lrd ≡ true = rw is at parts.0 in cc)
    by_kind Brd is = absurd (let no : asks Writes Brd ≡ true = rw is at parts.0 in cc)
    by_kind Fprd is = absurd (let no : asks Writes Fprd ≡ true = rw is at parts.0 in cc)
    by_kind Fpwr is = absurd (let no : asks Writes Fpwr ≡ true = rw is at parts.0 in cc)

-- ---- items that complete an area

module _ (line : List ControllerState) (items : List ItemRecord) (place number n : ℕ) (fit : IsFit line)
    (there : place < length line) (below : number < SYNC_MANAGER_COUNT)
    (outputs : guards_outputs (sync_manager_of line place number) ≡ true)
    (alone : IsFitAlone (controller_of line place))
    (named : word_at (controller_of line place).memory STATION_ADDRESS ≡ n) where
  -- an item that completes the area writes its last byte
  completed_writes : (r : ItemRecord) → IsItem r → ¬ IsWriteTo n r → Completes line place number r
      → writes_at (controller_of line place) (last_byte (sync_manager_of line place number)) r ≡ true
  unfolding writes_at station_of fmmu_of
  completed_writes r item elsewhere completes =
      let x : ControllerState = controller_of line place in
      let s : SyncMan = sync_manager_of line place number in
      let a : ℕ = last_byte s in
      ⊎_elim
      (λ (mapped : WritesMapped line place a r).
      let p : ℕ = mapped.paired.physical in
      let byte : p / 8 ≡ a = mapped.paired.byte in
      let size = outputs_size s outputs in
      let free : is_writable (sync_managers_of x.memory) a ≡ true =
      output_writable line place number a fit there below outputs (omega (arith, size)) (omega (arith, size)) in
      let pair : WritesPair x mapped.bit p = (
        mapped.paired.fmmu,
        fmmu_at x.memory mapped.paired.fmmu,
        let k : mapped.paired.fmmu < FMMU_COUNT = mapped.paired.there.number_there in
            omega (arith, length-fmmus_of x.memory),
        get_or-fmmus_of x.memory (fmmu_at x.memory mapped.paired.fmmu) mapped.paired.fmmu
            mapped.paired.there.number_there,
        record {
          mapped = mapped.paired.pair;
          for_writing = mapped.paired.for_writing;
          exists = bit_exists r mapped.bit item mapped.asked;
          allowed = ap (is_writable (sync_managers_of x.memory)) byte ∙ free;
        },
      ) in
      let bit_place : 8 * a + p % 8 ≡ p = omega arith in
      let is_taken : taken (request_of r) x (8 * a + p % 8) ≡ Some (mapped.bit - 8 * r.address) =
      ap (taken (request_of r) x) bit_place ∙ taken_written x r mapped.bit p alone pair mapped.asked in
      names_at (λ b. taken (request_of r) x (8 * a + b)) 8 (p % 8) (omega arith) (ap is_some is_taken))
      (λ (to_station : WritesNamed line place a r).
      absurd (elsewhere (record { kind = to_station.kind; named = sym to_station.station ∙ named })))
      completes

  -- an item that writes a byte of the area writes the area
  writes_area : (r : ItemRecord) (a : ℕ) → ¬ IsWriteTo n r
      → (sync_manager_of line place number).start ≤ a
      → a < (sync_manager_of line place number).start + (sync_manager_of line place number).length
      → writes_at (controller_of line place) a r ≡ true → WritesArea line place number r
  unfolding writes_at fmmu_of
  writes_area r a elsewhere from to written =
      let x : ControllerState = controller_of line place in
      let s : SyncMan = sync_manager_of line place number in
      let found = named_bit (λ b. taken (request_of r) x (8 * a + b)) 8 written in
      let q : ℕ = 8 * a + found.0 in
      let small : found.0 < 8 = found.1 in
      let takes = takes_pair x r q found.2.0 n named elsewhere found.2.1 in
      let k : ℕ = takes.pair.0 in
      let f : Fmmu = takes.pair.1 in
      let k_below : k < FMMU_COUNT = omega (arith, takes.pair.2, length-fmmus_of x.memory) in
      let is : f ≡ fmmu_at x.memory k = sym takes.pair.3 ∙ get_or-fmmus_of x.memory f k k_below in
      record {
        address = a;
        inside = (let low : leb s.start a ≡ true = le-leb s.start a from in
            let high : ltb a (s.start + s.length) ≡ true = lt-ltb a (s.start + s.length) to in rw (low, high) refl);
        written = inl (record {
          bit = 8 * r.address + found.2.0;
          asked = takes.asked_for;
          paired = record {
            fmmu = k;
            there = record { slave_there = there; number_there = k_below };
            for_writing = ap writes (sym is) ∙ takes.pair.4.for_writing;
            physical = q;
            pair = rw is at takes.pair.4.mapped;
            byte = omega arith;
          };
        });
      }

-- ---- all items

-- what holds of each item under its number holds of each
blank : ItemRecord
blank = record { kind = Lrd; address = 0; payload = []; counter = 0; adp = 0 }

each_item : (P : ItemRecord → Type 0) (items : List ItemRecord)
    → ((k : ℕ) (r : ItemRecord) → slice_get items k ≡ Some r → P r) → AllByRecursion P items
each_item P items at =
    recursion_from_All P items (All-from_get_or P items blank
    (λ k below. at k (get_or items k blank) (slice_get-get_or items k blank below)))

item_under : (P : ItemRecord → Type 0) (items : List ItemRecord) (k : ℕ) (r : ItemRecord)
    → AllByRecursion P items → slice_get items k ≡ Some r → P r
item_under P items k r all is =
    let inside : k < length items =
    ⊎_elim (λ (below : k < length items). below)
    (λ (past : length items ≤ k). absurd (let none = slice_get_past items k past in cc))
    (cases_lt k (length items)) in
    subst P (get_or_from_slice_get items k r blank is)
    (All-get_or P items k blank inside (All-from_recursion P items all))

-- some item completes an area, or none writes its last byte
completed_or : (x : ControllerState) (s : SyncMan) (items : List ItemRecord)
    → IsCompleted x s items ⊎ AllByRecursion (λ r. writes_at x (last_byte s) r ≡ false) items
completed_or x s [] = inr tt
completed_or x s (r ∷ rs) =
    ⊎_elim
    (λ (here : writes_at x (last_byte s) r ≡ true). inl (inl here))
    (λ (none : writes_at x (last_byte s) r ≡ false).
    ⊎_elim (λ (rest : IsCompleted x s rs). inl (inr rest))
    (λ (rest : AllByRecursion (λ t. writes_at x (last_byte s) t ≡ false) rs). inr (none, rest))
    (completed_or x s rs))
    (cases_Bool (writes_at x (last_byte s) r))

pub shown_whole : ArePlaced → (line : List ControllerState) (items : List ItemRecord) (place l p n : ℕ)
    → IsFit line → place < length line → IsFitAlone (controller_of line place)
    → word_at (controller_of line place).memory STATION_ADDRESS ≡ n → AllByRecursion IsItem items
    → NoWriteTo n items → AreShown line items → IsPairOf line place Writes l p
    → IsShownWhole (controller_of line place) items (p / 8)
unfolding sync_manager_of
shown_whole placed line items place l p n fit there alone named are elsewhere shown of_pair =
    let x : ControllerState = controller_of line place in
    let lies = output_area placed line place l p fit of_pair in
    let number : ℕ = lies.number in
    let s : SyncMan = sync_manager_at x.memory number in
    let a : ℕ = p / 8 in
    let low : leb s.start a ≡ true = le-leb s.start a lies.from in
    let high : ltb a (s.start + s.length) ≡ true = lt-ltb a (s.start + s.length) lies.to in
    let inside : within s.start s.length a ≡ true = rw (low, high) refl in
    let area : IsMappedArea line place number = record {
      there = record { slave_there = there; number_there = lies.there };
      outputs = lies.outputs;
      bit = l;
      address = a;
      inside = inside;
      mapped = record {
        fmmu = of_pair.fmmu;
        there = of_pair.there;
        for_writing = of_pair.way_is;
        physical = p;
        pair = of_pair.pair;
        byte = refl;
      };
    } in
    let completing = completed_writes line items place number n fit there lies.there lies.outputs alone named in
    let writing = writes_area line items place number n fit there lies.there lies.outputs alone named in
    let in_list : slice_get (sync_managers_of x.memory) number ≡ Some s =
    slice_get-get_or (sync_managers_of x.memory) number s
    (omega (arith, lies.there, length-sync_managers_of x.memory))
    ∙ ap Some (get_or-sync_managers_of x.memory s number lies.there) in
    record {
      number = number;
      area = s;
      byte = record { is = in_list; outputs = lies.outputs; inside = inside };
      completes = each_item (CompletesWhere x a s) items
          (λ k r is written.
          ⊎_elim (λ (done : writes_at x (last_byte s) r ≡ true). done)
          (λ (left : writes_at x (last_byte s) r ≡ false).
          absurd (shown (record { slave = place; sync_manager = number; why = LeftBy k }) (record {
            area = area;
            why = record {
              item = r;
              is = is;
              writes = writing r a (item_under (λ t. ¬ IsWriteTo n t) items k r elsewhere is) lies.from lies.to
                  written;
              left = λ completes. both_ways (writes_at x (last_byte s) r) left
                  (completing r (item_under IsItem items k r are is)
                  (item_under (λ t. ¬ IsWriteTo n t) items k r elsewhere is) completes);
            };
          })))
          (cases_Bool (writes_at x (last_byte s) r)));
      completed =
          ⊎_elim (λ (done : IsCompleted x s items). done)
          (λ (none : AllByRecursion (λ r. writes_at x (last_byte s) r ≡ false) items).
          absurd (shown (record { slave = place; sync_manager = number; why = NeverCompleted }) (record {
            area = area;
            why = λ k r is completes.
                both_ways (writes_at x (last_byte s) r)
                (item_under (λ t. writes_at x (last_byte s) t ≡ false) items k r none is)
                (completing r (item_under IsItem items k r are is)
                (item_under (λ t. ¬ IsWriteTo n t) items k r elsewhere is) completes);
          })))
          (completed_or x s items);
    }

pub covered_outputs : ArePlaced → (slaves : List SlaveState) (items : List ItemRecord) (n l p : ℕ)
    (s : SlaveState) → IsAccepted slaves items → AllByRecursion IsItem items
    → AreShown (controllers slaves) items → by_station slaves n ≡ Some s → WritesPair s.controller l p
    → NoWriteTo n items → IsShownWhole s.controller items (p / 8)
covered_outputs placed slaves items n l p s accepted are shown found pair elsewhere =
    let is_of = slave_of slaves items n s accepted are found in
    let at = place_of slaves n s found in
    subst (λ (c : ControllerState). IsShownWhole c items (p / 8)) at.is
    (shown_whole placed (controllers slaves) items at.place l p n accepted.fit at.there
    (subst IsFitAlone (sym at.is) is_of.fit)
    (ap (λ (c : ControllerState). word_at c.memory STATION_ADDRESS) at.is ∙ is_of.named) are elsewhere shown
    (written_pair slaves s l p at pair))
