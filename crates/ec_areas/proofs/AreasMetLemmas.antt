-- What ranges meet: registers meet no area, and a range within a buffered area meets no mailbox alone.
use Rattle.std.proofs.Common.{◌≡◌, ◌≢◌, ℕ, ◌+◌, ◌-◌, ◌/◌, ◌%◌, ◌<◌, ◌≤◌, Bool, true, false, ◌&&◌, ◌||◌, eqb}
use Rattle.std.proofs.Common.{leb, ltb, List, [], ◌∷◌}
use Rattle.std.proofs.Common.{length, get_or, Option, None, Some, sym, ◌∙◌, ap, refl, arith, ⊎_elim}
use Rattle.std.specs.Prelude.{not}
use Rattle.std.specs.List.{Any, filter, list_any}
use Rattle.std.proofs.Math.Bool.{or-false}
use Rattle.std.proofs.Math.Path.{fun_ext}
use Rattle.std.proofs.lemmas.Bool.{and_parts, cases_Bool, cases_lt, cases_eq}
use Rattle.std.proofs.lemmas.Bool.Decides.{nat_tests}
use Rattle.std.proofs.lemmas.List.{get_or_default}
use Rattle.std.proofs.lemmas.List.Folds.{list_any_none, list_any_at, Any-from_list_any}
use Rattle.ec_regs.specs.declared.sync_man.SyncMan.{SyncMan}
use Rattle.ec_regs.specs.declared.registers.TheConstants.{PROCESS_MEMORY, MEMORY_SIZE}
use Rattle.ec_regs.specs.SyncMan.{is_enabled, is_active, is_buffered, is_mailbox, master_reads}
use Rattle.ec_regs.specs.SyncMan.{master_writes, has_area_length, is_in_process_memory}
use Rattle.ec_areas.specs.Areas.{holds, guards, locks, is_locked}
use Rattle.ec_areas.specs.Ranges.{meets, meets_hidden, meets_locked, emptied_by, filled_by}
use Rattle.ec_areas.specs.Ranges.{serves_physical_read, LiesBuffered}
use Rattle.ec_areas.specs.Records.{SameRegisters}
use Rattle.ec_areas.specs.Ranges.{is_in_sync_manager, is_writable_field, takes_writes, has_sii, is_in_sii}
use Rattle.ec_areas.specs.Ranges.{device_ranges, is_of_device}
use Rattle.ec_areas.specs.Ranges.{some_address, writable_ranges}
use Rattle.ec_regs.specs.AddressRange.{within}
use Rattle.ec_regs.specs.declared.address_range.AddressRange.{AddressRange}
use Rattle.ec_areas.proofs.RangeLemmas.{some_address_at}
use Rattle.ec_areas.proofs.MailboxLemmas.{no_manager, HasMailbox, emptied_facts, filled_facts, two_kept}
use Rattle.ec_areas.proofs.MailboxLemmas.{area_meets}
use Rattle.ec_areas.proofs.RecordLemmas.{sync_manager_same}

-- ---- an active area

-- it lies in process memory
pub active_place : (s : SyncMan) → is_active s ≡ true
    → (PROCESS_MEMORY ≤ s.start) × (s.start + s.length ≤ MEMORY_SIZE)
unfolding is_active
active_place s active =
    let place = and_parts (is_enabled s && (is_buffered s || is_mailbox s) &&
    (master_reads s || master_writes s) && has_area_length s) (is_in_process_memory s) active in
    let ends = and_parts (leb PROCESS_MEMORY s.start) (leb (s.start + s.length) MEMORY_SIZE) place.1 in
    let low : leb PROCESS_MEMORY s.start ≡ true = ends.0 in
    let high : leb (s.start + s.length) MEMORY_SIZE ≡ true = ends.1 in
    (grind (arith, nat_tests), grind (arith, nat_tests))

-- a byte that it guards lies in it
pub guards_parts : (s : SyncMan) (a : ℕ) → guards s a ≡ true → (is_active s
    ≡ true) × (s.start ≤ a) × (a < s.start + s.length)
unfolding guards
guards_parts s a guarded =
    let parts = and_parts (is_active s) (holds s a) guarded in
    let ends = and_parts (leb s.start a) (ltb a (s.start + s.length)) parts.1 in
    let starts : leb s.start a ≡ true = ends.0 in
    let stops : ltb a (s.start + s.length) ≡ true = ends.1 in
    (parts.0, grind (arith, nat_tests), grind (arith, nat_tests))

pub guards_from : (s : SyncMan) (a : ℕ) → is_active s ≡ true → s.start ≤ a → a < s.start + s.length
    → guards s a ≡ true
unfolding guards
guards_from s a active from till =
    let starts : leb s.start a ≡ true = grind (arith, nat_tests) in
    let ends : ltb a (s.start + s.length) ≡ true = grind (arith, nat_tests) in
    rw (active, starts, ends) refl

-- ---- registers

-- they meet no area
pub meets_registers : (s : SyncMan) (from n : ℕ) → from + n ≤ PROCESS_MEMORY → meets s from n ≡ false
unfolding meets
meets_registers s from n inside =
    ⊎_elim
    (λ (active : is_active s ≡ true).
    let place = (active_place s active).0 in
    let starts : ltb s.start (from + n) ≡ false = grind (arith, nat_tests) in
    rw (active, starts) refl)
    (λ (inactive : is_active s ≡ false). rw inactive refl)
    (cases_Bool (is_active s))

-- so none that is kept from reads
pub hidden_registers : (managers : List SyncMan) (from n : ℕ) → from + n ≤ PROCESS_MEMORY
    → meets_hidden managers from n ≡ false
hidden_registers managers from n inside =
    let test : SyncMan → Bool = λ s. meets s from n && (is_mailbox s || master_writes s) in
    list_any_none test managers (λ k d below. rw (meets_registers (get_or managers k d) from n inside) refl)

-- and none that is kept from writes
pub locked_registers : (managers : List SyncMan) (from n : ℕ) → from + n ≤ PROCESS_MEMORY
    → meets_locked managers from n ≡ false
locked_registers managers from n inside =
    let test : SyncMan → Bool = λ s. meets s from n && (is_mailbox s || master_reads s) in
    list_any_none test managers (λ k d below. rw (meets_registers (get_or managers k d) from n inside) refl)

-- nor one alone
alone_registers : (managers : List SyncMan) (from n : ℕ) → from + n ≤ PROCESS_MEMORY
    → length (filter (λ s. meets s from n) managers) ≡ 0
alone_registers [] from n inside = refl
alone_registers (s ∷ ss) from n inside =
    rw (meets_registers s from n inside) (alone_registers ss from n inside)

-- so a read empties no mailbox there
pub emptied_before : (managers : List SyncMan) (from n : ℕ) → from + n ≤ PROCESS_MEMORY
    → emptied_by managers from n ≡ None
unfolding emptied_by
emptied_before managers from n inside = rw (alone_registers managers from n inside) refl

-- and a write fills none
pub filled_before : (managers : List SyncMan) (from n : ℕ) → from + n ≤ PROCESS_MEMORY
    → filled_by managers from n ≡ None
unfolding filled_by
filled_before managers from n inside = rw (alone_registers managers from n inside) refl

-- nor does one that is served
pub emptied_registers : (managers : List SyncMan) (from n : ℕ) → 1 ≤ n → from + n ≤ PROCESS_MEMORY
    → emptied_by managers from n ≡ None
emptied_registers managers from n some inside = emptied_before managers from n inside

-- and a read is served
pub reads_registers : (managers : List SyncMan) (from n : ℕ) → 1 ≤ n → from + n ≤ PROCESS_MEMORY
    → serves_physical_read managers from n ≡ true
reads_registers managers from n some inside =
    let first : leb 1 n ≡ true = grind (arith, nat_tests) in
    let room : from + n ≤ MEMORY_SIZE = omega arith in
    let last : leb (from + n) MEMORY_SIZE ≡ true = grind (arith, nat_tests) in
    rw (first, last, hidden_registers managers from n inside) refl

-- ---- a range within a buffered area

-- the range meets the area
buffered_meets : (s : SyncMan) (from n : ℕ) → LiesBuffered s from n → meets s from n ≡ true
unfolding meets
buffered_meets s from n lies =
    let some = lies.some in
    let starts = lies.starts in
    let ends = lies.ends in
    let first : ltb s.start (from + n) ≡ true = let h : s.start < from + n =
    omega arith in grind (arith, nat_tests) in
    let last : ltb from (s.start + s.length) ≡ true = let h : from < s.start + s.length =
    omega arith in grind (arith, nat_tests) in
    rw (lies.active, first, last) refl

-- no mode is both
one_mode : (s : SyncMan) → is_buffered s ≡ true → is_mailbox s ≡ true → false ≡ true
one_mode s buffered mailbox = absurd (grind (arith, nat_tests))

-- so no mailbox is met alone
buffered_alone : (managers : List SyncMan) (from n i : ℕ) (r w : Bool)
    → Any (λ s. LiesBuffered s from n) managers → HasMailbox managers from n i r w
    → false ≡ true
buffered_alone managers from n i r w lies mailbox =
    let k = lies.0 in
    let k_inside = lies.2 in
    let area : LiesBuffered lies.1 from n = lies.4 in
    let here : get_or managers k no_manager ≡ lies.1 =
    get_or_default managers k no_manager lies.1 k_inside ∙ lies.3 in
    let test : SyncMan → Bool = λ s. meets s from n in
    let alone : eqb (length (filter test managers)) 1 ≡ true = mailbox.alone in
    let count : length (filter test managers) ≡ 1 = grind (arith, nat_tests) in
    let one : test (get_or managers k no_manager) ≡ true = ap test here ∙ buffered_meets lies.1 from n area in
    let two : test (get_or managers i no_manager)
    ≡ true = area_meets (get_or managers i no_manager) from n area.some mailbox.area in
    let i_inside = mailbox.inside in
    ⊎_elim
    (λ (before : k < i). absurd (omega (arith, two_kept test managers k i before i_inside one two)))
    (λ (from_ : i ≤ k).
    ⊎_elim
    (λ (same : k ≡ i).
    one_mode (get_or managers k no_manager) (ap is_buffered here ∙ area.buffered) (ap (λ j. is_mailbox
    (get_or managers j no_manager)) same ∙ mailbox.mailbox))
    (λ (other : k ≢ i). let later : i < k = omega arith in absurd (omega
    (arith, two_kept test managers i k later k_inside two one)))
    (cases_eq k i))
    (cases_lt k i)

-- none is read out
pub emptied_buffered : (managers : List SyncMan) (from n : ℕ) → Any (λ s. LiesBuffered s from n) managers
    → emptied_by managers from n ≡ None
emptied_buffered managers from n lies =
    let P : Option ℕ → Type 0 = λ o. emptied_by managers from n ≡ o → o ≡ None in
    elim (emptied_by managers from n) as P [
      | None ↦ λ _. refl
      | Some i ↦ λ e.
          absurd (let no : false ≡ true = buffered_alone managers from n i true false lies
          (emptied_facts managers from n i e) in cc)
    ] refl

-- and none is filled
pub filled_buffered : (managers : List SyncMan) (from n : ℕ) → Any (λ s. LiesBuffered s from n) managers
    → filled_by managers from n ≡ None
filled_buffered managers from n lies =
    let P : Option ℕ → Type 0 = λ o. filled_by managers from n ≡ o → o ≡ None in
    elim (filled_by managers from n) as P [
      | None ↦ λ _. refl
      | Some i ↦ λ e.
          absurd (let no : false ≡ true = buffered_alone managers from n i false true lies
          (filled_facts managers from n i e) in cc)
    ] refl

-- ---- locked bytes

-- a range that meets no locked area has no byte that is locked
pub unlocked_in_range : (managers : List SyncMan) (from n a : ℕ) → meets_locked managers from n ≡ false
    → from ≤ a → a < from + n
    → is_locked managers a ≡ false
unfolding locks meets
unlocked_in_range managers from n a open_ starts ends =
    ⊎_elim
    (λ (locked : is_locked managers a ≡ true).
    let found = Any-from_list_any (λ s. locks s a) managers locked in
    let s : SyncMan = found.1 in
    let k = found.0 in
    let parts = and_parts (guards s a) (is_mailbox s || master_reads s) found.4 in
    let place = guards_parts s a parts.0 in
    let s_from = place.1 in
    let s_till = place.2 in
    let first : ltb s.start (from + n) ≡ true = let h : s.start < from + n =
    omega arith in grind (arith, nat_tests) in
    let last : ltb from (s.start + s.length) ≡ true = let h : from < s.start + s.length =
    omega arith in grind (arith, nat_tests) in
    let test : SyncMan → Bool = λ t. meets t from n && (is_mailbox t || master_reads t) in
    let hit : test s ≡ true = rw (place.0, first, last, parts.1) refl in
    let yes : meets_locked managers from n ≡ true =
    list_any_at test managers k s found.2 (ap test found.3 ∙ hit) in
    absurd (let no : true ≡ false = sym yes ∙ open_ in cc))
    (λ (free : is_locked managers a ≡ false). free)
    (cases_Bool (is_locked managers a))

-- ---- the bytes that take writes depend on registers alone

field_same : (before after : List ℕ) (a : ℕ) → SameRegisters before after
    → (is_in_sync_manager a && is_writable_field after a)
    ≡ (is_in_sync_manager a && is_writable_field before a)
field_same before after a same =
    ⊎_elim
    (λ (register : is_in_sync_manager a ≡ true).
    let parts = and_parts (leb 2048 a) (ltb a 2112) register in
    let high : ltb a 2112 ≡ true = parts.1 in
    let below : (a - 2048) / 8 < 8 = grind (arith, nat_tests) in
    let F : SyncMan → Bool = λ s. is_in_sync_manager a && (eqb ((a - 2048) % 8) 6 || (ltb
    ((a - 2048) % 8) 5 && not (is_active s))) in
    ap F (sync_manager_same before after ((a - 2048) / 8) same below))
    (λ (elsewhere : is_in_sync_manager a ≡ false). rw elsewhere refl)
    (cases_Bool (is_in_sync_manager a))

pub takes_writes_same : (before after : List ℕ) → SameRegisters before after → takes_writes after
    ≡ takes_writes before
unfolding takes_writes
takes_writes_same before after same =
    let kind : has_sii after ≡ has_sii before = ap (λ (b : ℕ). not (eqb b 0)) (same.bytes 0 (omega arith)) in
    fun_ext (λ a. rw (field_same before after a same, kind) refl)

-- ---- process memory, and the slave information interface

-- a byte of a range that is always written takes writes
takes_always : (memory : List ℕ) (a : ℕ)
    → list_any (λ (r : AddressRange). within r.first r.count a) writable_ranges ≡ true
    → takes_writes memory a ≡ true
unfolding takes_writes
takes_always memory a always =
    let sii : Bool = is_of_device a && has_sii memory in
    let field : Bool = is_in_sync_manager a && is_writable_field memory a in
    ap (λ (b : Bool). b || sii || field) always

pub takes_process : (memory : List ℕ) (a : ℕ) → PROCESS_MEMORY ≤ a → a < MEMORY_SIZE
    → takes_writes memory a ≡ true
takes_process memory a low high =
    let first : leb 4096 a ≡ true = grind (arith, nat_tests) in
    let last : ltb a 12288 ≡ true = grind (arith, nat_tests) in
    let inside : within 4096 8192 a ≡ true = rw (first, last) refl in
    takes_always memory a
    (list_any_at (λ (r : AddressRange). within r.first r.count a) writable_ranges 3
    (record { first = 0; count = 0 }) (omega arith) inside)

pub some_process : (memory : List ℕ) (from n : ℕ) → 1 ≤ n → PROCESS_MEMORY ≤ from → from + n ≤ MEMORY_SIZE
    → some_address (takes_writes memory) from n ≡ true
some_process memory from n some low high =
    some_address_at (takes_writes memory) from n 0 (omega arith)
    (takes_process memory (from + 0) (omega arith) (omega arith))

-- a register of the interface takes writes exactly where there is one
takes_sii : (memory : List ℕ) (a : ℕ) → is_in_sii a ≡ true → takes_writes memory a ≡ has_sii memory
unfolding takes_writes
takes_sii memory a inside =
    let ends = and_parts (leb 1280 a) (ltb a 1296) inside in
    let low : leb 1280 a ≡ true = ends.0 in
    let high : ltb a 1296 ≡ true = ends.1 in
    let station : ltb a 18 ≡ false = grind (arith, nat_tests) in
    let control : ltb a 290 ≡ false = grind (arith, nat_tests) in
    let past_station : leb 16 a ≡ true = grind (arith, nat_tests) in
    let past_control : leb 288 a ≡ true = grind (arith, nat_tests) in
    let fmmus : leb 1536 a ≡ false = grind (arith, nat_tests) in
    let process : leb 4096 a ≡ false = grind (arith, nat_tests) in
    let managers : leb 2048 a ≡ false = grind (arith, nat_tests) in
    let always : list_any (λ (r : AddressRange). within r.first r.count a) writable_ranges ≡ false =
    rw (station, control, past_station, past_control, fmmus, process) refl in
    let field : is_in_sync_manager a ≡ false = rw managers refl in
    let one : is_of_device a ≡ true =
    list_any_at (λ (r : AddressRange). within r.first r.count a) device_ranges 6
    (record { first = 0; count = 0 }) (omega arith) inside in
    ap (λ (b : Bool). b || (is_of_device a && has_sii memory)
    || (is_in_sync_manager a && is_writable_field memory a)) always
    ∙ ap (λ (b : Bool). (b && has_sii memory) || (is_in_sync_manager a && is_writable_field memory a)) one
    ∙ ap (λ (b : Bool). has_sii memory || (b && is_writable_field memory a)) field
    ∙ or-false (has_sii memory)

pub takes_without_sii : (memory : List ℕ) (a : ℕ) → has_sii memory ≡ false → is_in_sii a ≡ true
    → takes_writes memory a ≡ false
takes_without_sii memory a none inside = takes_sii memory a inside ∙ none

pub takes_with_sii : (memory : List ℕ) (a : ℕ) → has_sii memory ≡ true → is_in_sii a ≡ true
    → takes_writes memory a ≡ true
takes_with_sii memory a one inside = takes_sii memory a inside ∙ one

and-none : (b : Bool) → (b && false) ≡ false
and-none true = refl
and-none false = refl

pub takes_as_before : (memory : List ℕ) (a : ℕ) → has_sii memory ≡ false → takes_writes memory a
    ≡ (list_any (λ (r : AddressRange). within r.first r.count a) writable_ranges
    || (is_in_sync_manager a && is_writable_field memory a))
unfolding takes_writes
takes_as_before memory a none =
    let always : Bool = list_any (λ (r : AddressRange). within r.first r.count a) writable_ranges in
    let field : Bool = is_in_sync_manager a && is_writable_field memory a in
    ap (λ (b : Bool). always || (is_of_device a && b) || field) none
    ∙ ap (λ (b : Bool). always || b || field) (and-none (is_of_device a))
    ∙ ap (λ (b : Bool). b || field) (or-false always)
