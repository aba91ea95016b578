-- Which mailbox a range empties or fills: that of one sync manager whose area the range is; and a write
-- that is served empties none.
use Rattle.std.proofs.Common.{◌≡◌, ◌≢◌, ℕ, zero, suc, ◌+◌, ◌<◌, ◌≤◌, Bool, true, false, ◌&&◌, ◌||◌, cond}
use Rattle.std.proofs.Common.{eqb, leb, ltb, List, [], ◌∷◌}
use Rattle.std.proofs.Common.{length, get_or, Option, None, Some, ◌∙◌, ap, refl, arith, ⊎_elim}
use Rattle.std.specs.Prelude.{not}
use Rattle.std.specs.List.{position, filter}
use Rattle.std.specs.Option.{is_some}
use Rattle.std.proofs.lemmas.Bool.{and_parts, cases_lt, cases_eq}
use Rattle.std.proofs.lemmas.Bool.Decides.{nat_tests}
use Rattle.std.proofs.lemmas.List.Folds.{list_any_at}
use Rattle.std.proofs.lemmas.List.Quantifiers.{position-Some}
use Rattle.ec_regs.specs.declared.sync_man.SyncMan.{SyncMan}
use Rattle.ec_regs.specs.declared.registers.TheConstants.{MEMORY_SIZE}
use Rattle.ec_regs.specs.SyncMan.{is_active, is_mailbox, is_full, master_reads, master_writes}
use Rattle.ec_areas.specs.Ranges.{is_range, meets, meets_locked, meets_one, is_area, gives_mail, takes_mail}
use Rattle.ec_areas.specs.Ranges.{emptied_by, filled_by, some_address, takes_writes, serves_physical_write}
use Rattle.ec_areas.proofs.LogicalLemmas.{if_some}

-- some sync manager
pub no_manager : SyncMan
no_manager = record { start = 0; length = 0; control = 0; status = 0; activate = 0; pdi = 0 }

-- the sync manager with a number is active, its area is the range, and it is a mailbox
pub record HasMailbox (managers : List SyncMan) (from n i : ℕ) (reads writes : Bool) : Type 0 where
  pub alone : meets_one managers from n ≡ true
  pub inside : i < length managers
  pub area : is_area (get_or managers i no_manager) from n ≡ true
  pub mailbox : is_mailbox (get_or managers i no_manager) ≡ true
  pub direction : (reads && master_reads (get_or managers i no_manager)) ≡ reads
  pub other_direction : (writes && master_writes (get_or managers i no_manager)) ≡ writes

-- the mailbox that a read empties
pub emptied_facts : (managers : List SyncMan) (from n i : ℕ) → emptied_by managers from n ≡ Some i
    → HasMailbox managers from n i true false
unfolding emptied_by gives_mail
emptied_facts managers from n i emptied =
    let found = if_some (meets_one managers from n) (position (gives_mail from n) managers) i emptied in
    let at = position-Some (gives_mail from n) managers i no_manager found.1 in
    let s = get_or managers i no_manager in
    let full = and_parts (is_area s from n && is_mailbox s && master_reads s) (is_full s) at.1 in
    let reads = and_parts (is_area s from n && is_mailbox s) (master_reads s) full.0 in
    let whole = and_parts (is_area s from n) (is_mailbox s) reads.0 in
    record {
      alone = found.0;
      inside = at.0;
      area = whole.0;
      mailbox = whole.1;
      direction = reads.1;
      other_direction = refl;
    }

-- the mailbox that a write fills
pub filled_facts : (managers : List SyncMan) (from n i : ℕ) → filled_by managers from n ≡ Some i
    → HasMailbox managers from n i false true
unfolding filled_by takes_mail
filled_facts managers from n i filled =
    let found = if_some (meets_one managers from n) (position (takes_mail from n) managers) i filled in
    let at = position-Some (takes_mail from n) managers i no_manager found.1 in
    let s = get_or managers i no_manager in
    let empty = and_parts (is_area s from n && is_mailbox s && master_writes s) (not (is_full s)) at.1 in
    let writes = and_parts (is_area s from n && is_mailbox s) (master_writes s) empty.0 in
    let whole = and_parts (is_area s from n) (is_mailbox s) writes.0 in
    record {
      alone = found.0;
      inside = at.0;
      area = whole.0;
      mailbox = whole.1;
      direction = refl;
      other_direction = writes.1;
    }

-- ---- one alone

-- one element that passes is kept
passes_kept : (test : SyncMan → Bool) (xs : List SyncMan) (i : ℕ) → i < length xs
    → test (get_or xs i no_manager) ≡ true
    → 1 ≤ length (filter test xs)
passes_kept test [] i inside passes = absurd (omega arith)
passes_kept test (x ∷ xs) zero inside passes = rw passes (omega arith)
passes_kept test (x ∷ xs) (suc i) inside passes =
    let rest : 1 ≤ length (filter test xs) = passes_kept test xs i (omega arith) passes in
    elim (test x) as (λ b. 1 ≤ length (cond b (x
    ∷ filter test xs) (filter test xs))) [ true ↦ omega arith | false ↦ rest ]

-- and of two both are
pub two_kept : (test : SyncMan → Bool) (xs : List SyncMan) (i j : ℕ) → i < j → j < length xs
    → test (get_or xs i no_manager) ≡ true
    → test (get_or xs j no_manager) ≡ true → 2 ≤ length (filter test xs)
two_kept test [] i j before inside one two = absurd (omega arith)
two_kept test (x ∷ xs) i zero before inside one two = absurd (omega arith)
two_kept test (x ∷ xs) zero (suc j) before inside one two =
    let rest : 1 ≤ length (filter test xs) = passes_kept test xs j (omega arith) two in
    rw one (omega arith)
two_kept test (x ∷ xs) (suc i) (suc j) before inside one two =
    let rest : 2 ≤ length (filter test xs) = two_kept test xs i j (omega arith) (omega arith) one two in
    elim (test x) as (λ b. 2 ≤ length (cond b (x
    ∷ filter test xs) (filter test xs))) [ true ↦ omega arith | false ↦ rest ]

-- the area of a mailbox meets its range
pub area_meets : (s : SyncMan) (from n : ℕ) → 1 ≤ n → is_area s from n ≡ true → meets s from n ≡ true
unfolding meets
area_meets s from n some area =
    let sized = and_parts (is_active s && eqb s.start from) (eqb s.length n) area in
    let placed = and_parts (is_active s) (eqb s.start from) sized.0 in
    let start : eqb s.start from ≡ true = placed.1 in
    let size : eqb s.length n ≡ true = sized.1 in
    let starts : ltb s.start (from + n) ≡ true = grind (arith, nat_tests) in
    let ends : ltb from (s.start + s.length) ≡ true = grind (arith, nat_tests) in
    rw (placed.0, starts, ends) refl

-- a sync manager does not do both
one_direction : (s : SyncMan) → master_reads s ≡ true → master_writes s ≡ true → false ≡ true
one_direction s reads writes = absurd (grind (arith, nat_tests))

-- so no range both empties and fills a mailbox
not_both : (managers : List SyncMan) (from n i j : ℕ) → 1 ≤ n → HasMailbox managers from n i true false
    → HasMailbox managers from n j false true
    → false ≡ true
not_both managers from n i j some reads writes =
    let test : SyncMan → Bool = λ s. meets s from n in
    let alone : eqb (length (filter test managers)) 1 ≡ true = reads.alone in
    let count : length (filter test managers) ≡ 1 = grind (arith, nat_tests) in
    let one : test (get_or managers i no_manager)
    ≡ true = area_meets (get_or managers i no_manager) from n some reads.area in
    let two : test (get_or managers j no_manager)
    ≡ true = area_meets (get_or managers j no_manager) from n some writes.area in
    let i_inside = reads.inside in
    let j_inside = writes.inside in
    ⊎_elim
    (λ (before : i < j). absurd (omega (arith, two_kept test managers i j before j_inside one two)))
    (λ (from_ : j ≤ i).
    ⊎_elim
    (λ (same : i ≡ j).
    one_direction (get_or managers i no_manager) reads.direction
    (ap (λ k. master_writes (get_or managers k no_manager)) same ∙ writes.other_direction))
    (λ (other : i ≢ j). let after : j < i = omega arith in absurd (omega
    (arith, two_kept test managers j i after i_inside two one)))
    (cases_eq i j))
    (cases_lt i j)

-- a write that is served empties no mailbox
pub write_empties_none : (memory : List ℕ) (managers : List SyncMan) (from n : ℕ)
    → serves_physical_write memory managers from n ≡ true
    → emptied_by managers from n ≡ None
write_empties_none memory managers from n served =
    let open_ : Bool = not (meets_locked managers from n) && some_address (takes_writes memory) from n in
    let parts = and_parts (is_range from n) (open_ || is_some (filled_by managers from n)) served in
    let range = and_parts (leb 1 n) (leb (from + n) MEMORY_SIZE) parts.0 in
    let first : leb 1 n ≡ true = range.0 in
    let some : 1 ≤ n = grind (arith, nat_tests) in
    let P : Option ℕ → Type 0 = λ o. emptied_by managers from n ≡ o → o ≡ None in
    let Q : Option ℕ → Type 0 = λ o. (open_ || is_some o) ≡ true → filled_by managers from n ≡ o → false
    ≡ true in
    elim (emptied_by managers from n) as P [
      | None ↦ λ _. refl
      | Some i ↦ λ e.
          let reads = emptied_facts managers from n i e in
          let s = get_or managers i no_manager in
          let test : SyncMan → Bool = λ t. meets t from n && (is_mailbox t || master_reads t) in
          let meets_it : meets s from n ≡ true = area_meets s from n some reads.area in
          let hit : test s ≡ true = rw (meets_it, reads.mailbox) refl in
          let locked : meets_locked managers from n
          ≡ true = list_any_at test managers i no_manager reads.inside hit in
          let shut : open_ ≡ false = rw locked refl in
          let no : false ≡ true =
          elim (filled_by managers from n) as Q [
            | None ↦ λ w _. let z : (false || false) ≡ true = rw shut at w in cc
            | Some j ↦ λ _ f. not_both managers from n i j some reads (filled_facts managers from n j f)
          ] parts.1 refl in
          absurd (cc)
    ] refl
