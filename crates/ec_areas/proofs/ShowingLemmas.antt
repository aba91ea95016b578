-- Which bytes a write reaches through FMMUs: by the ends of runs, and by the areas that lock them.
use Rattle.std.proofs.Common.{◌≡◌, ◌≢◌, ℕ, ◌+◌, ◌-◌, ◌*◌, ◌/◌, ◌<◌, ◌≤◌, Bool, true, false, cond, leb, ltb}
use Rattle.std.proofs.Common.{◌&&◌, ◌||◌, List, [], ◌∷◌, length, get_or, set, Option, None, Some, sym, ◌∙◌}
use Rattle.std.proofs.Common.{ap, refl, arith, ⊎_elim}
use Rattle.std.specs.List.{list_any, slice_get}
use Rattle.std.proofs.Math.Bool.{and-false, and-true}
use Rattle.std.proofs.lemmas.List.{get_or-set_same, get_or-set_other}
use Rattle.std.proofs.lemmas.List.Folds.{list_any_at}
use Rattle.std.proofs.lemmas.List.{length-set}
use Rattle.std.proofs.lemmas.Option.{get_or_from_slice_get, slice_get-get_or, slice_get_within}
use Rattle.std.proofs.lemmas.Bool.{and_parts, cases_Bool, cases_lt, cases_eq, false≢true}
use Rattle.std.proofs.lemmas.Bool.Decides.{nat_tests}
use Rattle.ec_regs.specs.SyncMan.{is_enabled, is_buffered, is_mailbox, master_reads, master_writes}
use Rattle.ec_regs.specs.SyncMan.{is_active, has_area_length}
use Rattle.ec_regs.specs.SyncMan.{is_in_process_memory, guards_outputs}
use Rattle.ec_regs.specs.Pairs.{writes, logical_of, partner}
use Rattle.ec_regs.specs.declared.fmmu.Fmmu.{Fmmu}
use Rattle.ec_regs.specs.declared.sync_man.SyncMan.{SyncMan}
use Rattle.ec_areas.specs.Areas.{guards, locks, is_locked, is_writable}
use Rattle.ec_regs.specs.declared.registers.TheConstants.{LOGICAL_BITS}
use Rattle.ec_areas.specs.Logical.{place_if, number_within, write_place, write_map, names}
use Rattle.ec_areas.specs.Met.{data_in}
use Rattle.ec_areas.specs.declared.met.Run.{Run}
use Rattle.ec_areas.specs.Showing.{last_byte, written_number}
use Rattle.ec_regs.specs.declared.registers.TheConstants.{PROCESS_MEMORY, MEMORY_SIZE}
use Rattle.ec_regs.proofs.Laws.{partner_inside, partner_before, partner_behind}
use Rattle.ec_areas.proofs.AreasMetLemmas.{guards_from}
use Rattle.ec_areas.proofs.NamesLemmas.{names_same, names_nowhere, names_somewhere, names-later}
use Rattle.ec_areas.proofs.WriteLemmas.{sources}

-- a run has a bit in a byte where it begins before the byte ends and ends behind its first bit
pub names-partner : (to at n byte : ℕ) → 0 < n
    → names (λ b. partner to at n (8 * byte + b)) 8 ≡ (ltb to (8 * byte + 8) && ltb (8 * byte) (to + n))
names-partner to at n byte some =
    ⊎_elim
    (λ (begins : to < 8 * byte + 8).
    let begins_is : ltb to (8 * byte + 8) ≡ true = grind (arith, nat_tests) in
    ⊎_elim
    (λ (ends : 8 * byte < to + n).
    let ends_is : ltb (8 * byte) (to + n) ≡ true = grind (arith, nat_tests) in
    rw (begins_is, ends_is)
    (⊎_elim
    (λ (before : to < 8 * byte).
    names_somewhere (λ b. partner to at n (8 * byte + b)) 8 0 (at + (8 * byte - to)) (omega arith)
    (partner_inside to at n (8 * byte + 0) (8 * byte - to) (omega arith) (omega arith)))
    (λ (inside : 8 * byte ≤ to).
    names_somewhere (λ b. partner to at n (8 * byte + b)) 8 (to - 8 * byte) (at + 0) (omega arith)
    (partner_inside to at n (8 * byte + (to - 8 * byte)) 0 (omega arith) some))
    (cases_lt to (8 * byte))))
    (λ (behind : to + n ≤ 8 * byte).
    let ends_is : ltb (8 * byte) (to + n) ≡ false = grind (arith, nat_tests) in
    rw (begins_is, ends_is) (names_nowhere (λ b. partner to at n (8 * byte + b)) 8
    (λ b _. partner_behind to at n (8 * byte + b) (omega arith))))
    (cases_lt (8 * byte) (to + n)))
    (λ (late : 8 * byte + 8 ≤ to).
    let begins_is : ltb to (8 * byte + 8) ≡ false = grind (arith, nat_tests) in
    rw begins_is (names_nowhere (λ b. partner to at n (8 * byte + b)) 8
    (λ b below. partner_before to at n (8 * byte + b) (omega arith))))
    (cases_lt to (8 * byte + 8))

-- bits are mapped under a condition
names_if : (c : Bool) (f : ℕ → Option ℕ) → names (λ b. cond c (f b) None) 8 ≡ (names f 8 && c)
names_if true f = sym (and-true (names f 8))
names_if false f = names_nowhere (λ b. None) 8 (λ b _. refl) ∙ sym (and-false (names f 8))

-- two conditions, one after the other
chosen : (a b : Bool) (from n : ℕ) (o : Option ℕ)
    → number_within from n (cond (a && b) o None) ≡ cond b (cond a (number_within from n o) None) None
chosen true true from n o = refl
chosen true false from n o = refl
chosen false true from n o = refl
chosen false false from n o = refl

-- a bit of a byte takes what the FMMU has for it, if the byte may be written
sources_of_byte : (managers : List SyncMan) (f : Fmmu) (from n byte b : ℕ) → b < 8
    → sources managers f from n (8 * byte + b)
    ≡ cond (is_writable managers byte) (written_number from n f (8 * byte + b)) None
unfolding write_place
sources_of_byte managers f from n byte b below =
    let place : (8 * byte + b) / 8 ≡ byte = omega arith in
    ap (λ k. number_within from n (cond (writes f && is_writable managers k) (place_if
    (λ l. ltb l LOGICAL_BITS) (logical_of f (8 * byte + b))) None)) place
    ∙ chosen (writes f) (is_writable managers byte) from n (place_if (λ l. ltb l LOGICAL_BITS)
    (logical_of f (8 * byte + b)))

-- does a write reach a byte through one FMMU
names_of_byte : (managers : List SyncMan) (f : Fmmu) (from n byte : ℕ)
    → names (λ b. sources managers f from n (8 * byte + b)) 8
    ≡ (names (λ b. written_number from n f (8 * byte + b)) 8 && is_writable managers byte)
names_of_byte managers f from n byte =
    names_same (λ b. sources managers f from n (8 * byte + b)) (λ b. cond (is_writable managers byte)
    (written_number from n f (8 * byte + b)) None) 8
    (λ b below. sources_of_byte managers f from n byte b below)
    ∙ names_if (is_writable managers byte) (λ b. written_number from n f (8 * byte + b))

-- the byte of a run may be written or not
and_distributes : (a b c : Bool) → ((a && c) || (b && c)) ≡ ((a || b) && c)
and_distributes true b true = refl
and_distributes true true false = refl
and_distributes true false false = refl
and_distributes false b c = refl

-- a write reaches a byte where it would do so through some FMMU, and the byte may be written
pub names-write_map : (managers : List SyncMan) (fmmus : List Fmmu) (from n byte : ℕ)
    → names (λ b. write_map managers fmmus from n (8 * byte + b)) 8
    ≡ (list_any (λ f. names (λ b. written_number from n f
    (8 * byte + b)) 8) fmmus && is_writable managers byte)
unfolding write_map
names-write_map managers [] from n byte = names_nowhere (λ b. None) 8 (λ b _. refl)
names-write_map managers (f ∷ fs) from n byte =
    names-later (λ b. sources managers f from n (8 * byte + b)) (λ b. write_map managers fs from n
    (8 * byte + b)) 8
    ∙ ap (λ rest. names (λ b. sources managers f from n (8 * byte + b)) 8 || rest)
    (names-write_map managers fs from n byte)
    ∙ ap (λ first. first || (list_any (λ g. names (λ b. written_number from n g
    (8 * byte + b)) 8) fs && is_writable managers byte)) (names_of_byte managers f from n byte)
    ∙ and_distributes (names (λ b. written_number from n f (8 * byte + b)) 8) (list_any (λ g. names
    (λ b. written_number from n g (8 * byte + b)) 8) fs) (is_writable managers byte)

-- ---- one FMMU and its run

-- through an FMMU that is not for writing nothing is written
pub written_number_not_for_writing : (from n : ℕ) (f : Fmmu) (p : ℕ) → writes f ≡ false
    → written_number from n f p ≡ None
written_number_not_for_writing from n f p not_writes = rw not_writes refl

-- through any other it is what the run has for the physical bit
pub written_number-run : (run : Option Run) (from n : ℕ) (f : Fmmu) (p : ℕ) → writes f ≡ true
    → data_in run p ≡ number_within from n (place_if (λ l. ltb l LOGICAL_BITS) (logical_of f p))
    → data_in run p ≡ written_number from n f p
written_number-run run from n f p for_writing is = rw for_writing is

-- ---- areas, one after the other

-- one area more has its answer
pub told_more : (tells : SyncMan → Bool → Type 0) (areas : List SyncMan) (told : List Bool) (i : ℕ)
    (answer : Bool) → i < length told
    → ((j : ℕ) (s : SyncMan) → j < i → slice_get areas j ≡ Some s
    → (b : Bool) × (slice_get told j ≡ Some b) × tells s b)
    → ((s : SyncMan) → slice_get areas i ≡ Some s → tells s answer)
    → (j : ℕ) (s : SyncMan) → j < i + 1 → slice_get areas j ≡ Some s
    → (b : Bool) × (slice_get (set told i answer) j ≡ Some b) × tells s b
told_more tells areas told i answer inside before here j s below area =
    let size : length (set told i answer) ≡ length told = length-set told i answer in
    let there : slice_get (set told i answer) j ≡ Some (get_or (set told i answer) j false) =
    slice_get-get_or (set told i answer) j false (omega arith) in
    ⊎_elim
    (λ (last : j ≡ i). (
      answer,
      there ∙ ap (λ k. Some (get_or (set told i answer) k false)) last
          ∙ ap Some (get_or-set_same told i answer false inside),
      here s (ap (slice_get areas) (sym last) ∙ area),
    ))
    (λ (other : j ≢ i).
    let was = before j s (omega arith) area in (
      was.0,
      there ∙ ap Some (get_or-set_other told i j answer false other
          ∙ get_or_from_slice_get told j was.0 false was.1),
      was.2,
    ))
    (cases_eq j i)

-- ---- an area that is not for outputs

-- it is a mailbox, or the master reads it
kept_off : (e b m r w l p : Bool) → (e && (b || m) && (r || w) && l && p) ≡ true
    → ((e && (b || m) && (r || w) && l && p) && b && w) ≡ false → (m || r) ≡ true
kept_off true true true r w l p active outputs = refl
kept_off true true false true w l p active outputs = refl
kept_off true true false false true true true active outputs = sym outputs
kept_off true true false false true true false active outputs = absurd (false≢true active)
kept_off true true false false true false p active outputs = absurd (false≢true active)
kept_off true true false false false l p active outputs = absurd (false≢true active)
kept_off true false true r w l p active outputs = refl
kept_off true false false r w l p active outputs = absurd (false≢true active)
kept_off false b m r w l p active outputs = absurd (false≢true active)

-- it has a byte
area_some : (s : SyncMan) → has_area_length s ≡ true → 1 ≤ s.length
area_some s has =
    ⊎_elim
    (λ (mailbox : is_mailbox s ≡ true).
    let ends = and_parts (leb 16 s.length) (leb s.length 1486) (rw mailbox at has) in
    let low : leb 16 s.length ≡ true = ends.0 in
    grind (arith, nat_tests))
    (λ (other : is_mailbox s ≡ false).
    let low : leb 1 s.length ≡ true = rw other at has in
    grind (arith, nat_tests))
    (cases_Bool (is_mailbox s))

-- so its last byte is locked
locked_last : (managers : List SyncMan) (i : ℕ) (s : SyncMan) → slice_get managers i ≡ Some s
    → is_active s ≡ true
    → guards_outputs s ≡ false → is_writable managers (last_byte s) ≡ false
unfolding is_active is_writable locks
locked_last managers i s here active outputs =
    let parts = and_parts (is_enabled s && (is_buffered s || is_mailbox s) &&
    (master_reads s || master_writes s) && has_area_length s) (is_in_process_memory s) active in
    let some : 1 ≤ s.length = area_some s (and_parts (is_enabled s && (is_buffered s || is_mailbox s) &&
    (master_reads s || master_writes s)) (has_area_length s) parts.0).1 in
    let off : (is_mailbox s || master_reads s)
    ≡ true = kept_off (is_enabled s) (is_buffered s) (is_mailbox s) (master_reads s)
    (master_writes s) (has_area_length s) (is_in_process_memory s) active outputs in
    let guarded : guards s (last_byte s) ≡ true =
    guards_from s (last_byte s) active (omega arith) (omega arith) in
    let locks_it : locks s (last_byte s) ≡ true = rw (guarded, off) refl in
    let locked : is_locked managers (last_byte s) ≡ true =
    list_any_at (λ t. locks t (last_byte s)) managers i s (slice_get_within managers i s here)
    (ap (λ t. locks t (last_byte s)) (get_or_from_slice_get managers i s s here) ∙ locks_it) in
    rw locked (and-false (leb PROCESS_MEMORY (last_byte s) && ltb (last_byte s) MEMORY_SIZE))

-- what is asked of an area that is active is asked of outputs alone
pub written_outputs : (managers : List SyncMan) (i : ℕ) (s : SyncMan) (reached : Bool)
    → slice_get managers i ≡ Some s
    → is_active s ≡ true
    → (guards_outputs s && reached && is_writable managers (last_byte s))
    ≡ (reached && is_writable managers (last_byte s))
written_outputs managers i s reached here active =
    ⊎_elim
    (λ (outputs : guards_outputs s ≡ true). ap (λ b. b && reached && is_writable managers
    (last_byte s)) outputs)
    (λ (other : guards_outputs s ≡ false).
    let locked = locked_last managers i s here active other in
    ap (λ b. b && reached && is_writable managers (last_byte s)) other
    ∙ sym (ap (λ b. reached && b) locked ∙ and-false reached))
    (cases_Bool (guards_outputs s))
