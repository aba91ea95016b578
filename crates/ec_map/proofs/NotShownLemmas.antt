-- Areas of outputs that are not shown, number by number.
use Rattle.std.proofs.Common.{◌≡◌, ⊎_elim, ℕ, ◌+◌, ◌*◌, ◌/◌, ◌<◌, ◌≤◌, Bool, true, false, cond, ◌&&◌, ◌||◌}
use Rattle.std.proofs.Common.{leb, List, [], ◌∷◌, length, get_or, Some, None, refl, sym, ap, ◌∙◌, arith}
use Rattle.std.specs.List.{slice_get}
use Rattle.std.proofs.lemmas.Bool.{and_parts}
use Rattle.std.proofs.lemmas.Bool.Decides.{nat_tests}
use Rattle.std.specs.Option.{option_map}
use Rattle.std.proofs.lemmas.List.{get_or-map, length-map}
use Rattle.std.proofs.lemmas.Option.{slice_get-map, slice_get_read, slice_get_within, get_or_from_slice_get}
use Rattle.ec_regs.specs.declared.address_range.AddressRange.{AddressRange}
use Rattle.ec_regs.specs.declared.fmmu.Fmmu.{Fmmu}
use Rattle.ec_regs.specs.declared.registers.TheConstants.{SYNC_MANAGER_COUNT, MEMORY_SIZE}
use Rattle.ec_regs.specs.declared.sync_man.SyncMan.{SyncMan}
use Rattle.ec_regs.specs.Pairs.{first_logical, first_physical}
use Rattle.ec_regs.specs.SyncMan.{is_active, is_buffered, is_mailbox, is_enabled, master_reads, master_writes}
use Rattle.ec_regs.specs.SyncMan.{has_area_length, is_in_process_memory, guards_outputs}
use Rattle.ec_areas.specs.Showing.{last_byte}
use Rattle.ec_areas.proofs.Laws.{active_place}
use Rattle.ec_esc.specs.State.{ControllerState}
use Rattle.ec_check.specs.Line.{fmmu_of, sync_manager_of, HasSyncManager}
use Rattle.ec_check.specs.Order.{IsBefore, IsLowest}
use Rattle.ec_map.specs.Item.{ItemRecord, items_by}
use Rattle.ec_map.specs.First.{HasNone, IsFirst, IsFirstOf}
use Rattle.ec_map.specs.NotShown.{IsNotShown, not_shown_numbers, why_numbers, IsWhy, IsMappedArea, IsLeftBy}
use Rattle.ec_map.specs.NotShown.{LeavesBytes, WritesBytes}
use Rattle.ec_map.specs.Written.{WritesByte, WritesSome, MapsRun}
use Rattle.ec_map.specs.declared.not_shown.NotShown.{NotShown}
use Rattle.ec_map.specs.declared.not_shown.WhyNotShown.{WhyNotShown}
use Rattle.ec_map.specs.declared.not_shown.WhyNotShown.TheVariants.{LeftBy, NeverCompleted}
use Rattle.ec_map.proofs.FirstLemmas.{GoesOnBelow}
use Rattle.ec_map.proofs.WrittenLemmas.{byte_bounds, byte_within}

-- an area goes on with a slave
pub not_shown_slave : (line : List ControllerState) (items : List ItemRecord) (bound : ℕ) → length line ≤ bound
    → GoesOnBelow not_shown_numbers (IsNotShown line items) [] bound
not_shown_slave line items bound end found is begins =
    (found.slave, let there : found.slave < length line = is.area.there.slave_there in omega arith, (refl, tt))

-- then with a sync manager
pub not_shown_number : (line : List ControllerState) (items : List ItemRecord) (slave bound : ℕ)
    → SYNC_MANAGER_COUNT ≤ bound
    → GoesOnBelow not_shown_numbers (IsNotShown line items) (slave ∷ []) bound
not_shown_number line items slave bound end found is begins = (
  found.sync_manager,
  let there : found.sync_manager < SYNC_MANAGER_COUNT = is.area.there.number_there in omega arith,
  (begins.0, (refl, tt)),
)

-- ---- why

-- the item that is read under a number is the one of the list
pub item_there : {I : Type 0} (item : I → ItemRecord) (items : List I) (k : ℕ) (r : ItemRecord)
    → slice_get (items_by item items) k ≡ Some r → k < length items
item_there item items k r is =
    omega (arith, slice_get_within (items_by item items) k r is, length-map items item)

pub item_same : {I : Type 0} (item : I → ItemRecord) (items : List I) (k : ℕ) (i : I) (other : ItemRecord)
    → i ≡ get_or items k i → slice_get (items_by item items) k ≡ Some other → other ≡ item i
item_same item items k i other is at =
    sym (get_or_from_slice_get (items_by item items) k other other at)
    ∙ get_or-map item items k i other (item_there item items k other at)
    ∙ ap item (sym is)

pub item_at : {I : Type 0} (item : I → ItemRecord) (items : List I) (k : ℕ) (i : I) → k < length items
    → i ≡ get_or items k i → slice_get (items_by item items) k ≡ Some (item i)
item_at item items k i inside is =
    slice_get-map item items k ∙ ap (option_map item) (slice_get_read items (length items) k i refl inside is)

-- an area of outputs has a byte
pub outputs_size : (s : SyncMan) → guards_outputs s ≡ true → 1 ≤ s.length
unfolding is_active
outputs_size s outputs =
    let active = (and_parts (is_active s) (is_buffered s) (and_parts (is_active s && is_buffered s)
    (master_writes s) outputs).0).0 in
    let size = (and_parts (is_enabled s && (is_buffered s || is_mailbox s) && (master_reads s || master_writes s))
    (has_area_length s) (and_parts (is_enabled s && (is_buffered s || is_mailbox s)
    && (master_reads s || master_writes s) && has_area_length s) (is_in_process_memory s) active).0).1 in
    length_of (is_mailbox s) s size
  where
    length_of : (b : Bool) (t : SyncMan)
        → cond b (leb 16 t.length && leb t.length 1486) (leb 1 t.length) ≡ true → 1 ≤ t.length
    length_of true t e = grind (arith, nat_tests)
    length_of false t e = grind (arith, nat_tests)

-- and lies in the memory
pub outputs_end : (s : SyncMan) → guards_outputs s ≡ true → s.start + s.length ≤ MEMORY_SIZE
outputs_end s outputs =
    (active_place s (and_parts (is_active s) (is_buffered s) (and_parts (is_active s && is_buffered s)
    (master_writes s) outputs).0).0).1

-- an item that writes one of the bytes of which there is one writes that
pub one_byte : (line : List ControllerState) (slave a : ℕ) (r : ItemRecord) → WritesSome line slave a 1 r
    → WritesByte line slave a r
one_byte line slave a r some =
    let bounds = byte_bounds a 1 some.address some.inside in
    let same : some.address ≡ a = omega (arith, bounds.0, bounds.1) in
    rw (← same) some.written

pub byte_one : (line : List ControllerState) (slave a : ℕ) (r : ItemRecord) → WritesByte line slave a r
    → WritesSome line slave a 1 r
byte_one line slave a r written =
    record { address = a; inside = byte_within a 1 a (omega arith) (omega arith); written = written }

-- the bytes of an area, and its last one
abbrev pub area_of : SyncMan → AddressRange
area_of s = record { first = s.start; count = s.length }

abbrev pub last_of : SyncMan → AddressRange
last_of s = record { first = last_byte s; count = 1 }

pub left_from : (line : List ControllerState) (items : List ItemRecord) (slave number k : ℕ)
    → LeavesBytes line items slave (area_of (sync_manager_of line slave number))
    (last_of (sync_manager_of line slave number)) k
    → IsLeftBy line items slave number k
left_from line items slave number k leaves = record {
  item = leaves.item;
  is = leaves.is;
  writes = leaves.leaves.writes;
  left = λ completes. leaves.leaves.left
      (byte_one line slave (last_byte (sync_manager_of line slave number)) leaves.item completes);
}

pub left_to : (line : List ControllerState) (items : List ItemRecord) (slave number k : ℕ)
    → IsLeftBy line items slave number k
    → LeavesBytes line items slave (area_of (sync_manager_of line slave number))
    (last_of (sync_manager_of line slave number)) k
left_to line items slave number k left = record {
  item = left.item;
  is = left.is;
  leaves = record {
    writes = left.writes;
    left = λ some. left.left (one_byte line slave (last_byte (sync_manager_of line slave number)) left.item some);
  };
}

-- the first item that leaves it is the first why
pub IsFirst-left : (line : List ControllerState) (items : List ItemRecord) (slave number k : ℕ)
    → IsLowest (LeavesBytes line items slave (area_of (sync_manager_of line slave number))
    (last_of (sync_manager_of line slave number))) (Some k)
    → IsFirst why_numbers (IsWhy line items slave number) (LeftBy k)
IsFirst-left line items slave number k lowest = record {
  is = left_from line items slave number k lowest.0;
  first = before_none;
}
  where
    before_none : (other : WhyNotShown) → IsWhy line items slave number other
        → ¬ IsBefore (why_numbers other) (why_numbers (LeftBy k))
    before_none (LeftBy m) is before =
        let least = lowest.1 m (left_to line items slave number m is) in
        ⊎_elim
        (λ (less : 0 < 0). absurd (omega arith))
        (λ (rest : (0 ≡ 0) × IsBefore (m ∷ []) (k ∷ [])).
        ⊎_elim (λ (less : m < k). absurd (omega (arith, least)))
        (λ (same : (m ≡ k) × IsBefore [] []). same.1) rest.1)
        before
    before_none NeverCompleted is before =
        ⊎_elim
        (λ (less : 1 < 0). absurd (omega arith))
        (λ (rest : (1 ≡ 0) × IsBefore [] (k ∷ [])). absurd (omega (arith, rest.0)))
        before

-- where none leaves it, that none completes it is the only why
pub IsFirst-never : (line : List ControllerState) (items : List ItemRecord) (slave number : ℕ)
    → IsLowest (LeavesBytes line items slave (area_of (sync_manager_of line slave number))
    (last_of (sync_manager_of line slave number))) None
    → ((k : ℕ) → ¬ WritesBytes line items slave (last_of (sync_manager_of line slave number)) k)
    → IsFirst why_numbers (IsWhy line items slave number) NeverCompleted
IsFirst-never line items slave number none never = record {
  is = λ k item is completes. never k (record {
    item = item;
    is = is;
    writes = byte_one line slave (last_byte (sync_manager_of line slave number)) item completes;
  });
  first = before_none;
}
  where
    before_none : (other : WhyNotShown) → IsWhy line items slave number other
        → ¬ IsBefore (why_numbers other) (why_numbers NeverCompleted)
    before_none (LeftBy m) is before = none m (left_to line items slave number m is)
    before_none NeverCompleted is before =
        ⊎_elim
        (λ (less : 1 < 1). absurd (omega arith))
        (λ (rest : (1 ≡ 1) × IsBefore [] []). rest.1)
        before

-- where one completes it and none leaves it there is no why
pub no_why : (line : List ControllerState) (items : List ItemRecord) (slave number : ℕ)
    → IsLowest (LeavesBytes line items slave (area_of (sync_manager_of line slave number))
    (last_of (sync_manager_of line slave number))) None
    → ((k : ℕ) × WritesBytes line items slave (last_of (sync_manager_of line slave number)) k)
    → (why : WhyNotShown) → ¬ IsWhy line items slave number why
no_why line items slave number none (k, writes) (LeftBy m) is = none m (left_to line items slave number m is)
no_why line items slave number none (k, writes) NeverCompleted is =
    is k writes.item writes.is
    (one_byte line slave (last_byte (sync_manager_of line slave number)) writes.item writes.writes)

-- ---- mapped areas

pub mapped_from : (line : List ControllerState) (slave number : ℕ) → HasSyncManager line slave number
    → guards_outputs (sync_manager_of line slave number) ≡ true
    → MapsRun line slave (sync_manager_of line slave number).start (sync_manager_of line slave number).length
    → IsMappedArea line slave number
mapped_from line slave number there outputs maps =
    let s : SyncMan = sync_manager_of line slave number in
    let f : Fmmu = fmmu_of line slave maps.fmmu in
    let j : ℕ = maps.through.1.0 in
    let pair = maps.through.1.1 in
    let from : 8 * s.start ≤ first_physical f + j = pair.from in
    let to : first_physical f + j < 8 * (s.start + s.length) = pair.to in
    record {
      there = there;
      outputs = outputs;
      bit = first_logical f + j;
      address = (first_physical f + j) / 8;
      inside = byte_within s.start s.length ((first_physical f + j) / 8) (omega arith) (omega arith);
      mapped = record {
        fmmu = maps.fmmu;
        there = maps.there;
        for_writing = maps.through.0;
        physical = first_physical f + j;
        pair = (j, record { mapped = pair.mapped; logical = refl; physical = refl });
        byte = refl;
      };
    }

pub mapped_to : (line : List ControllerState) (slave number : ℕ) → IsMappedArea line slave number
    → MapsRun line slave (sync_manager_of line slave number).start (sync_manager_of line slave number).length
mapped_to line slave number area =
    let s : SyncMan = sync_manager_of line slave number in
    let f : Fmmu = fmmu_of line slave area.mapped.fmmu in
    let j : ℕ = area.mapped.pair.0 in
    let at = area.mapped.pair.1 in
    let physical : area.mapped.physical ≡ first_physical f + j = at.physical in
    let byte : area.mapped.physical / 8 ≡ area.address = area.mapped.byte in
    let inside = byte_bounds s.start s.length area.address area.inside in
    record {
      fmmu = area.mapped.fmmu;
      there = area.mapped.there;
      through = (
        area.mapped.for_writing,
        (
          j,
          record {
            mapped = at.mapped;
            from = omega (arith, inside.0);
            to = omega (arith, inside.1);
          },
        ),
      );
    }
