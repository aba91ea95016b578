-- What a fit line gives a cycle.
use Rattle.std.proofs.Common.{◌≡◌, ◌⊎◌, ⊎_elim, inl, inr, ℕ, zero, suc, ◌+◌, ◌-◌, ◌/◌, ◌<◌, ◌≤◌, Bool, true}
use Rattle.std.proofs.Common.{false, cond, ◌&&◌, List, [], ◌∷◌, length, get_or, refl, sym, ap, ◌∙◌}
use Rattle.std.proofs.Common.{arith}
use Rattle.std.specs.List.{AllByRecursion}
use Rattle.std.proofs.lemmas.Bool.{and_parts, cases_Bool, cases_lt, cases_order, both_ways}
use Rattle.std.proofs.lemmas.Bool.Decides.{nat_tests}
use Rattle.std.proofs.lemmas.List.Folds.{list_any_at}
use Rattle.std.proofs.lemmas.List.Elements.{All-from_get_or, All-get_or, All-from_recursion}
use Rattle.std.proofs.lemmas.List.Elements.{recursion_from_All}
use Rattle.ec_regs.specs.declared.registers.TheConstants.{FMMU_COUNT, SYNC_MANAGER_COUNT}
use Rattle.ec_regs.specs.Pairs.{is_switched_on}
use Rattle.ec_regs.specs.Pairs.{reads, writes, IsPair, first_logical, first_physical, pair_count}
use Rattle.ec_regs.specs.declared.fmmu.Fmmu.{Fmmu}
use Rattle.ec_regs.specs.declared.sync_man.SyncMan.{SyncMan}
use Rattle.ec_regs.specs.SyncMan.{is_active}
use Rattle.ec_regs.specs.SyncMan.{is_buffered, master_reads, master_writes}
use Rattle.ec_areas.specs.Records.{fmmu_at, sync_manager_at, sync_managers_of}
use Rattle.ec_areas.specs.Areas.{guards}
use Rattle.ec_areas.proofs.Laws.{get_or-sync_managers_of, get_or-fmmus_of, length-fmmus_of}
use Rattle.ec_areas.proofs.Laws.{length-sync_managers_of}
use Rattle.ec_esc.specs.State.{ControllerState, IsController}
use Rattle.ec_check.specs.declared.fault.MapFault.TheVariants.{TwinStation, BadFmmu, OutsideArea}
use Rattle.ec_check.specs.declared.fault.MapFault.TheVariants.{TwiceWritten, TwiceRead, ReadAndWritten}
use Rattle.ec_regs.specs.declared.registers.TheConstants.{ANSWER_MAILBOX_STATUS}
use Rattle.ec_line.specs.Steady.{is_steady}
use Rattle.ec_line.specs.Fit.{Reads, Writes, IsFitAlone, AreApart, AllApart, IsFitLine}
use Rattle.ec_line.proofs.Laws.{register_steady, input_steady}
use Rattle.ec_check.specs.Facts.{IsWellPlaced}
use Rattle.ec_check.specs.Fit.{IsFit}
use Rattle.ec_check.specs.Line.{no_controller, controller_of, station_of, fmmu_of, sync_manager_of, HasFmmu}
use Rattle.ec_check.specs.Rules.{ReadsLogical, WritesPhysical, IsGoodFmmu, Area, HoldsAllOf, IsAreaFor}
use Rattle.ec_check.specs.Rules.{IsAreaEnd, IsGuarded, IsMailStatus}
use Rattle.ec_check.specs.Runs.{is_good, holds_first_byte, begins_at_mail_status}
use Rattle.ec_check.proofs.FmmuLemmas.{IsGoodFmmu-is_good, is_good-IsGoodFmmu}
use Rattle.ec_check.proofs.OutsideLemmas.{HoldsAllOf-ends, IsAreaEnd-holds, IsAreaEnd-mail, HasNoArea-none}
use Rattle.ec_check.proofs.OutsideLemmas.{IsFirstOf-no_area, IsFirstOf-behind}
use Rattle.ec_check.proofs.RunLemmas.{IsInRun-MapsLogical, IsInRun-MapsPhysical}

-- ---- FMMUs by themselves, and in areas

-- an active FMMU is good
pub IsGoodFmmu-fit : (line : List ControllerState) (slave number : ℕ) → IsFit line → HasFmmu line slave number
    → is_switched_on (fmmu_of line slave number) ≡ true → IsGoodFmmu (fmmu_of line slave number)
IsGoodFmmu-fit line slave number fit there active =
    let f : Fmmu = fmmu_of line slave number in
    ⊎_elim
    (λ (passes : is_good f ≡ true). IsGoodFmmu-is_good f passes)
    (λ (fails : is_good f ≡ false).
    absurd (fit (BadFmmu slave number) (record {
      there = there;
      active = active;
      bad = λ good. both_ways (is_good f) fails (is_good-IsGoodFmmu f good);
    })))
    (cases_Bool (is_good f))

-- a test passes below a bound or fails everywhere there
found_below : (test : ℕ → Bool) (n : ℕ)
    → ((k : ℕ) × (k < n) × (test k ≡ true)) ⊎ ((k : ℕ) → k < n → test k ≡ false)
found_below test zero = inr (λ k below. absurd (omega arith))
found_below test (suc n) =
    ⊎_elim
    (λ (found : (k : ℕ) × (k < n) × (test k ≡ true)). inl (found.0, omega (arith, found.1), found.2))
    (λ (none : (k : ℕ) → k < n → test k ≡ false).
    ⊎_elim
    (λ (passes : test n ≡ true). inl (n, omega arith, passes))
    (λ (fails : test n ≡ false).
    inr (λ k below.
    ⊎_elim (λ (less : k < n). none k less)
    (λ (past : n ≤ k). let same : k ≡ n = omega arith in ap test same ∙ fails) (cases_lt k n)))
    (cases_Bool (test n)))
    (found_below test n)

-- an area of an FMMU's kind that holds all of its bytes
abbrev LiesInArea : List ControllerState → ℕ → Fmmu → Type 0
LiesInArea line slave f = (area : Area) × IsAreaFor line slave f area × HoldsAllOf area f

-- an FMMU whose first byte lies in an area lies in it whole
lies_in_end : (line : List ControllerState) (slave number end : ℕ) → IsFit line → HasFmmu line slave number
    → 1 ≤ pair_count (fmmu_of line slave number) → IsAreaEnd line slave (fmmu_of line slave number) end
    → LiesInArea line slave (fmmu_of line slave number)
lies_in_end line slave number end fit there some found =
    let f : Fmmu = fmmu_of line slave number in
    let behind : end ≡ found.area.to = found.behind in
    ⊎_elim
    (λ (inside : (first_physical f + pair_count f - 1) / 8 < end).
    (found.area, found.suitable, HoldsAllOf-ends found.area f found.holds (omega arith)))
    (λ (past : end ≤ (first_physical f + pair_count f - 1) / 8).
    absurd (fit (OutsideArea slave number end)
    (IsFirstOf-behind line slave number end
    (record { none = λ fault broken _. fit fault broken }) there some found past).broken))
    (cases_lt ((first_physical f + pair_count f - 1) / 8) end)

-- an FMMU that maps a bit lies in an area of its kind
pub LiesInArea-fit : (line : List ControllerState) (slave number : ℕ) → IsFit line → HasFmmu line slave number
    → 1 ≤ pair_count (fmmu_of line slave number) → LiesInArea line slave (fmmu_of line slave number)
LiesInArea-fit line slave number fit there some =
    let f : Fmmu = fmmu_of line slave number in
    ⊎_elim
    (λ (found : (k : ℕ) × (k < SYNC_MANAGER_COUNT) × (holds_first_byte (sync_manager_of line slave k) f ≡ true)).
    lies_in_end line slave number _ fit there some
    (IsAreaEnd-holds line slave found.0 f some found.1 found.2))
    (λ (none : (k : ℕ) → k < SYNC_MANAGER_COUNT → holds_first_byte (sync_manager_of line slave k) f ≡ false).
    ⊎_elim
    (λ (mail : begins_at_mail_status f ≡ true).
    lies_in_end line slave number _ fit there some (IsAreaEnd-mail line slave f some mail))
    (λ (no_mail : begins_at_mail_status f ≡ false).
    absurd (fit (OutsideArea slave number f.physical)
    (IsFirstOf-no_area line slave number there some (HasNoArea-none line slave f some none no_mail)).broken))
    (cases_Bool (begins_at_mail_status f)))
    (found_below (λ k. holds_first_byte (sync_manager_of line slave k) f) 8)

pub IsWellPlaced-fit : (line : List ControllerState) (slave number : ℕ) → IsFit line
    → HasFmmu line slave number
    → is_switched_on (fmmu_of line slave number) ≡ true → IsWellPlaced line slave (fmmu_of line slave number)
IsWellPlaced-fit line slave number fit there active =
    let f : Fmmu = fmmu_of line slave number in
    let good = IsGoodFmmu-fit line slave number fit there active in
    let l : ℕ = good.some_bit.0 in
    let inside = IsInRun-MapsLogical f l good.some_bit.1 in
    let from : first_logical f ≤ l = inside.from in
    let to : l < first_logical f + pair_count f = inside.to in
    let lies = LiesInArea-fit line slave number fit there (omega arith) in
    record { good = good; area = lies.0; suitable = lies.1; holds = lies.2 }

-- ---- the pairs of one controller

-- a readable pair is of an FMMU of the slave that reads
pub read_pair : (line : List ControllerState) (slave l p : ℕ) → slave < length line
    → Reads (controller_of line slave) l p
    → (k : ℕ) × ReadsLogical line slave k l × IsPair (fmmu_of line slave k) l p
unfolding fmmu_of
read_pair line slave l p there readable =
    let memory : List ℕ = (controller_of line slave).memory in
    let k : ℕ = readable.0 in
    let f : Fmmu = readable.1 in
    let below : k < FMMU_COUNT = omega (arith, readable.2, length-fmmus_of memory) in
    let is : f ≡ fmmu_at memory k = sym readable.3 ∙ get_or-fmmus_of memory f k below in
    let pair : IsPair (fmmu_at memory k) l p = rw is at readable.4.mapped in (
      k,
      record {
        there = record { slave_there = there; number_there = below };
        for_reading = rw is at
            readable.4.for_reading;
        maps = (p, pair);
      },
      pair,
    )

-- a writable pair is of an FMMU of the slave that writes
pub written_pair : (line : List ControllerState) (slave l p : ℕ) → slave < length line
    → Writes (controller_of line slave) l p
    → (k : ℕ) × HasFmmu line slave k × (writes (fmmu_of line slave k) ≡ true) × IsPair
    (fmmu_of line slave k) l p
unfolding fmmu_of
written_pair line slave l p there writable =
    let memory : List ℕ = (controller_of line slave).memory in
    let k : ℕ = writable.0 in
    let f : Fmmu = writable.1 in
    let below : k < FMMU_COUNT = omega (arith, writable.2, length-fmmus_of memory) in
    let is : f ≡ fmmu_at memory k = sym writable.3 ∙ get_or-fmmus_of memory f k below in (
      k,
      record { slave_there = there; number_there = below },
      rw is at writable.4.for_writing,
      rw is at
          writable.4.mapped,
    )

-- the two bits of a pair determine each other
pub same_physical : (f : Fmmu) (l p q : ℕ) → IsPair f l p → IsPair f l q → p ≡ q
same_physical f l p q (i, at) (j, other) =
    let one : l ≡ first_logical f + i = at.logical in
    let two : l ≡ first_logical f + j = other.logical in
    let first : p ≡ first_physical f + i = at.physical in
    let second : q ≡ first_physical f + j = other.physical in
    omega arith

pub same_logical : (f : Fmmu) (l m p : ℕ) → IsPair f l p → IsPair f m p → l ≡ m
same_logical f l m p (i, at) (j, other) =
    let one : p ≡ first_physical f + i = at.physical in
    let two : p ≡ first_physical f + j = other.physical in
    let first : l ≡ first_logical f + i = at.logical in
    let second : m ≡ first_logical f + j = other.logical in
    omega arith

-- a slave reads each logical bit at one place
pub read_once : (line : List ControllerState) (slave l p q : ℕ) → IsFit line → slave < length line
    → Reads (controller_of line slave) l p → Reads (controller_of line slave) l q → p ≡ q
read_once line slave l p q fit there first second =
    let one = read_pair line slave l p there first in
    let two = read_pair line slave l q there second in
    ⊎_elim
    (λ (same : one.0 ≡ two.0). same_physical (fmmu_of line slave two.0) l p q (rw same at one.2) two.2)
    (λ (other : (one.0 < two.0) ⊎ (two.0 < one.0)).
    ⊎_elim
    (λ (before : one.0 < two.0).
    absurd (fit (TwiceRead slave one.0 slave two.0 l)
    (record { order = inr (refl, inl before); first = one.1; second = two.1 })))
    (λ (behind : two.0 < one.0).
    absurd (fit (TwiceRead slave two.0 slave one.0 l)
    (record { order = inr (refl, inl behind); first = two.1; second = one.1 })))
    other)
    (cases_order one.0 two.0)

-- and writes each physical bit from one place
pub written_once : (line : List ControllerState) (slave l m p : ℕ) → IsFit line → slave < length line
    → Writes (controller_of line slave) l p → Writes (controller_of line slave) m p → l ≡ m
written_once line slave l m p fit there first second =
    let one = written_pair line slave l p there first in
    let two = written_pair line slave m p there second in
    let at_one : WritesPhysical line slave one.0 p =
    record { there = one.1; for_writing = one.2; maps = (l, one.3) } in
    let at_two : WritesPhysical line slave two.0 p =
    record { there = two.1; for_writing = two.2; maps = (m, two.3) } in
    ⊎_elim
    (λ (same : one.0 ≡ two.0). same_logical (fmmu_of line slave two.0) l m p (rw same at one.3) two.3)
    (λ (other : (one.0 < two.0) ⊎ (two.0 < one.0)).
    ⊎_elim
    (λ (before : one.0 < two.0).
    absurd (fit (TwiceWritten slave one.0 two.0 p)
    (record { order = before; first = at_one; second = at_two })))
    (λ (behind : two.0 < one.0).
    absurd (fit (TwiceWritten slave two.0 one.0 p)
    (record { order = behind; first = at_two; second = at_one })))
    other)
    (cases_order one.0 two.0)

-- a byte of a buffered area that the master reads is steady
input_at : (line : List ControllerState) (slave number address : ℕ) → number < SYNC_MANAGER_COUNT
    → is_active (sync_manager_of line slave number) ≡ true → is_buffered (sync_manager_of line slave number)
    ≡ true
    → master_reads (sync_manager_of line slave number) ≡ true
    → (sync_manager_of line slave number).start ≤ address
    → address < (sync_manager_of line slave number).start + (sync_manager_of line slave number).length
    → is_steady (sync_managers_of (controller_of line slave).memory) address ≡ true
unfolding sync_manager_of guards
input_at line slave number address below active buffered for_reading from to =
    let memory : List ℕ = (controller_of line slave).memory in
    let s : SyncMan = sync_manager_at memory number in
    let is = get_or-sync_managers_of memory s number below in
    let holds : (guards s address && is_buffered s && master_reads s) ≡ true =
    rw (active, buffered, for_reading) grind (arith, nat_tests) in
    input_steady (sync_managers_of memory) address
    (list_any_at (λ t. guards t address && is_buffered t && master_reads t) (sync_managers_of memory) number s
    (omega (arith, length-sync_managers_of memory))
    (ap (λ t. guards t address && is_buffered t && master_reads t) is ∙ holds))

-- each byte that it reads is steady
pub steady : (line : List ControllerState) (slave l p : ℕ) → IsFit line → slave < length line
    → Reads (controller_of line slave) l p
    → is_steady (sync_managers_of (controller_of line slave).memory) (p / 8) ≡ true
steady line slave l p fit there readable =
    let one = read_pair line slave l p there readable in
    let f : Fmmu = fmmu_of line slave one.0 in
    let inside = IsInRun-MapsPhysical f p (l, one.2) in
    let from : first_physical f ≤ p = inside.from in
    let to : p < first_physical f + pair_count f = inside.to in
    let lies = LiesInArea-fit line slave one.0 fit one.1.there (omega arith) in
    let area : Area = lies.0 in
    let held = lies.2 p (l, one.2) in
    let at_from : area.from ≤ p / 8 = held.from in
    let at_to : p / 8 < area.to = held.to in
    ⊎_elim
    (λ (guarded : IsGuarded line slave f area).
    let s : SyncMan = sync_manager_of line slave guarded.number in
    let begin : area.from ≡ s.start = guarded.from in
    let end : area.to ≡ s.start + s.length = guarded.to in
    let parts =
    and_parts (is_active s && is_buffered s)
    (cond (reads f) (master_reads s) (master_writes s)) guarded.suitable in
    let kind = and_parts (is_active s) (is_buffered s) parts.0 in
    input_at line slave guarded.number (p / 8) guarded.there kind.0 kind.1
    (rw one.1.for_reading at parts.1) (omega arith) (omega arith))
    (λ (mail : IsMailStatus f area).
    let end : area.to ≡ ANSWER_MAILBOX_STATUS + 1 = mail.to in
    register_steady (sync_managers_of (controller_of line slave).memory) (p / 8) (omega arith))
    lies.1

pub IsFitAlone-fit : (line : List ControllerState) (slave : ℕ) → IsFit line → slave < length line
    → IsController (controller_of line slave) → IsFitAlone (controller_of line slave)
IsFitAlone-fit line slave fit there is = record {
  controller = is;
  steady = λ l p readable. steady line slave l p fit there readable;
  read_once = λ l p q first second. read_once line slave l p q fit there first second;
  written_once = λ l m p first second. written_once line slave l m p fit there first second;
}

-- ---- the pairs of two controllers

-- two slaves read no bit both
pub read_apart : (line : List ControllerState) (i j l p q : ℕ) → IsFit line → i < j → j < length line
    → Reads (controller_of line i) l p → Reads (controller_of line j) l q → ⊥
read_apart line i j l p q fit order there first second =
    let one = read_pair line i l p (omega arith) first in
    let two = read_pair line j l q there second in
    fit (TwiceRead i one.0 j two.0 l) (record { order = inl order; first = one.1; second = two.1 })

-- and none reads what another writes
pub crossed_apart : (line : List ControllerState) (i j l p q : ℕ) → IsFit line → (i ≡ j → ⊥)
    → i < length line → j < length line
    → Reads (controller_of line i) l p → Writes (controller_of line j) l q → ⊥
crossed_apart line i j l p q fit apart there_i there_j first second =
    let one = read_pair line i l p there_i first in
    let two = written_pair line j l q there_j second in
    fit (ReadAndWritten i one.0 j two.0 l)
    (record {
      apart = apart;
      read = one.1;
      written = record {
        there = two.1;
        for_writing = two.2;
        maps =
            (q, two.3);
      };
    })

pub AreApart-fit : (line : List ControllerState) (i j : ℕ) → IsFit line → i < j → j < length line
    → AreApart (controller_of line i) (controller_of line j)
unfolding station_of
AreApart-fit line i j fit order there = record {
  stations = λ same. fit (TwinStation i j) (record { order = order; there = there; same = same });
  both_read = λ l p q first second. read_apart line i j l p q fit order there first second;
  read_and_written = λ l p q first second. crossed_apart line i j l p q fit (λ same. omega arith)
      (omega arith) there first second;
  written_and_read = λ l p q first second. crossed_apart line j i l q p fit (λ same. omega arith) there
      (omega arith) second first;
}

-- ---- the whole line

apart_from : (xs : List ControllerState) (d : ControllerState)
    → ((i j : ℕ) → i < j → j < length xs → AreApart (get_or xs i d) (get_or xs j d)) → AllApart xs
apart_from [] d at = tt
apart_from (x ∷ xs) d at = (
  recursion_from_All (AreApart x) xs (All-from_get_or (AreApart x) xs d (λ j below. at 0 (suc j)
      (omega arith) (omega arith))),
  apart_from xs d (λ i j order below. at (suc i) (suc j) (omega arith) (omega arith)),
)

pub IsFitLine-fit : (line : List ControllerState) → AllByRecursion IsController line → IsFit line
    → IsFitLine line
IsFitLine-fit line are fit = record {
  alone = recursion_from_All IsFitAlone line (All-from_get_or IsFitAlone line no_controller
      (λ slave there.
      IsFitAlone-fit line slave fit there
      (All-get_or IsController line slave no_controller there (All-from_recursion IsController line are))));
  apart = apart_from line no_controller (λ i j order there. AreApart-fit line i j fit order there);
}
