-- Data that lie outside of the hull of some FMMUs reach no bit that one of them maps.
use Rattle.std.proofs.Common.{◌≡◌, ℕ, zero, suc, ◌+◌, ◌<◌, ◌≤◌, true, false, eqb, leb}
use Rattle.std.proofs.Common.{List, [], ◌∷◌, length, get_or, fold, Option, None, Some, refl, sym, arith, ⊎_elim}
use Rattle.std.proofs.lemmas.Bool.{cases_Bool}
use Rattle.std.proofs.lemmas.Bool.Decides.{nat_tests}
use Rattle.ec_regs.specs.Pairs.{IsPair, first_logical, pair_count, reads, writes}
use Rattle.ec_regs.specs.declared.fmmu.Fmmu.{Fmmu}
use Rattle.ec_regs.specs.declared.sync_man.SyncMan.{SyncMan}
use Rattle.ec_areas.specs.declared.hull.LogicalHull.{LogicalHull}
use Rattle.ec_areas.specs.Hull.{widened, widened_by_reader, widened_by_writer, read_hull_of, write_hull_of}
use Rattle.ec_areas.specs.Hull.{misses, nowhere}
use Rattle.ec_areas.specs.Logical.{read_map, target_map, reads_some, writes_some}
use Rattle.ec_areas.proofs.LogicalLemmas.{IsReadable-read_map}
use Rattle.ec_areas.proofs.NamesLemmas.{names_nowhere}
use Rattle.ec_areas.proofs.WriteLemmas.{IsWritable-target_map}

-- ---- bits in a hull

-- a logical bit lies in it
record LiesIn (hull : LogicalHull) (l : ℕ) : Type 0 where
  starts : hull.first ≤ l
  ends : l < hull.end

-- a bit of a hull lies in a wider one
stays_in : (hull : LogicalHull) (f : Fmmu) (l : ℕ) → LiesIn hull l → LiesIn (widened hull f) l
stays_in hull f l lies =
    let starts : hull.first ≤ l = lies.starts in
    let ends : l < hull.end = lies.ends in
    ⊎_elim
    (λ (none : eqb (pair_count f) 0 ≡ true). rw none lies)
    (λ (some : eqb (pair_count f) 0 ≡ false). rw some (record { starts = omega arith; ends = omega arith }))
    (cases_Bool (eqb (pair_count f) 0))

-- a bit that an FMMU maps lies in the hull that was widened for it
comes_in : (hull : LogicalHull) (f : Fmmu) (l p : ℕ) → IsPair f l p → LiesIn (widened hull f) l
comes_in hull f l p pair =
    let j = pair.0 in
    let mapped : j < pair_count f = pair.1.mapped in
    let place : l ≡ first_logical f + j = pair.1.logical in
    let some : eqb (pair_count f) 0 ≡ false = grind (arith, nat_tests) in
    rw some (record { starts = omega arith; ends = omega arith })

-- a step that keeps the bits of a hull
record Keeps (step : LogicalHull → Fmmu → LogicalHull) : Type 0 where
  keeps : (hull : LogicalHull) (f : Fmmu) (l : ℕ) → LiesIn hull l → LiesIn (step hull f) l

keeps_reader : Keeps widened_by_reader
keeps_reader = record {
  keeps = λ hull f l lies.
      ⊎_elim
      (λ (yes : reads f ≡ true). rw yes (stays_in hull f l lies))
      (λ (no : reads f ≡ false). rw no lies)
      (cases_Bool (reads f));
}

keeps_writer : Keeps widened_by_writer
keeps_writer = record {
  keeps = λ hull f l lies.
      ⊎_elim
      (λ (yes : writes f ≡ true). rw yes (stays_in hull f l lies))
      (λ (no : writes f ≡ false). rw no lies)
      (cases_Bool (writes f));
}

-- a bit of a hull lies in it once it was widened for more FMMUs
stays_in_all : (step : LogicalHull → Fmmu → LogicalHull) → Keeps step → (hull : LogicalHull)
    → (fmmus : List Fmmu) (l : ℕ) → LiesIn hull l → LiesIn (fold step hull fmmus) l
stays_in_all step keep hull [] l lies = lies
stays_in_all step keep hull (f ∷ fs) l lies =
    stays_in_all step keep (step hull f) fs l (keep.keeps hull f l lies)

-- and so does a bit that comes in with one of them
comes_in_all : (step : LogicalHull → Fmmu → LogicalHull) → Keeps step → (hull : LogicalHull)
    → (fmmus : List Fmmu) (l k : ℕ) (f : Fmmu) → k < length fmmus → get_or fmmus k f ≡ f
    → ((h : LogicalHull) → LiesIn (step h f) l) → LiesIn (fold step hull fmmus) l
comes_in_all step keep hull [] l k f inside is comes = absurd (omega arith)
comes_in_all step keep hull (g ∷ gs) l zero f inside is comes =
    stays_in_all step keep (step hull g) gs l (rw (sym is) at (comes hull))
comes_in_all step keep hull (g ∷ gs) l (suc k) f inside is comes =
    comes_in_all step keep (step hull g) gs l k f (omega arith) is comes

-- ---- bits outside of it

-- no bit lies both outside of a hull and in it
not_in : (hull : LogicalHull) (from n i : ℕ) → misses hull from n ≡ true → i < n → LiesIn hull (from + i)
    → false ≡ true
not_in hull from n i outside inside lies =
    let starts : hull.first ≤ from + i = lies.starts in
    let ends : from + i < hull.end = lies.ends in
    let late : leb hull.end from ≡ false = grind (arith, nat_tests) in
    let early : leb (from + n) hull.first ≡ false = let h : hull.first < from + n = omega arith in
    grind (arith, nat_tests) in
    rw (late, early) at outside

-- a read takes none
unread : (managers : List SyncMan) (fmmus : List Fmmu) (from n i : ℕ)
    → misses (read_hull_of fmmus) from n ≡ true → i < n → read_map managers fmmus (from + i) ≡ None
unfolding read_hull_of
unread managers fmmus from n i outside inside =
    let P : Option ℕ → Type 0 = λ o. read_map managers fmmus (from + i) ≡ o → o ≡ None in
    elim (read_map managers fmmus (from + i)) as P [
      | None ↦ λ _. refl
      | Some p ↦ λ e.
          let found = IsReadable-read_map managers fmmus (from + i) p e in
          let reading : reads found.1 ≡ true = found.4.for_reading in
          let lies = comes_in_all widened_by_reader keeps_reader nowhere fmmus (from + i) found.0 found.1 found.2
          found.3 (λ h. rw reading (comes_in h found.1 (from + i) p found.4.mapped)) in
          absurd (let no : false ≡ true = not_in (read_hull_of fmmus) from n i outside inside lies in cc)
    ] refl

-- and a write takes none anywhere
untaken : (managers : List SyncMan) (fmmus : List Fmmu) (from n i : ℕ)
    → misses (write_hull_of fmmus) from n ≡ true → i < n → target_map managers fmmus (from + i) ≡ None
unfolding write_hull_of
untaken managers fmmus from n i outside inside =
    let P : Option ℕ → Type 0 = λ o. target_map managers fmmus (from + i) ≡ o → o ≡ None in
    elim (target_map managers fmmus (from + i)) as P [
      | None ↦ λ _. refl
      | Some p ↦ λ e.
          let found = IsWritable-target_map managers fmmus (from + i) p e in
          let writing : writes found.1 ≡ true = found.4.for_writing in
          let lies = comes_in_all widened_by_writer keeps_writer nowhere fmmus (from + i) found.0 found.1 found.2
          found.3 (λ h. rw writing (comes_in h found.1 (from + i) p found.4.mapped)) in
          absurd (let no : false ≡ true = not_in (write_hull_of fmmus) from n i outside inside lies in cc)
    ] refl

-- so no read is served
pub reads_none : (managers : List SyncMan) (fmmus : List Fmmu) (from n : ℕ)
    → misses (read_hull_of fmmus) from n ≡ true → reads_some managers fmmus from n ≡ false
reads_none managers fmmus from n outside =
    names_nowhere (λ i. read_map managers fmmus (from + i)) n (λ i inside. unread managers fmmus from n i
    outside inside)

-- and no write
pub writes_none : (managers : List SyncMan) (fmmus : List Fmmu) (from n : ℕ)
    → misses (write_hull_of fmmus) from n ≡ true → writes_some managers fmmus from n ≡ false
writes_none managers fmmus from n outside =
    names_nowhere (λ i. target_map managers fmmus (from + i)) n (λ i inside. untaken managers fmmus from n i
    outside inside)
