-- Where reads through FMMUs go: the partial functions and the sets of pairs, and one FMMU more.
use Rattle.std.proofs.Common.{◌≡◌, ℕ, zero, suc, ◌+◌, ◌/◌, ◌<◌, ◌≤◌, Bool, true, false, cond, ltb, ◌&&◌}
use Rattle.std.proofs.Common.{◌||◌, List, [], ◌∷◌, length, get_or, drop, Option, None, Some, sym, ◌∙◌, ap}
use Rattle.std.proofs.Common.{refl, arith, add-one, drop-cons, ⊎_elim}
use Rattle.std.specs.Option.{IsSome}
use Rattle.std.proofs.lemmas.Bool.{and_parts, cases_Bool}
use Rattle.std.proofs.lemmas.Bool.Decides.{nat_tests}
use Rattle.std.proofs.lemmas.List.{drop_all}
use Rattle.ec_regs.specs.Bits.{AreBytes, with_bits, later}
use Rattle.ec_regs.specs.Pairs.{reads, physical_of}
use Rattle.ec_regs.specs.declared.fmmu.Fmmu.{Fmmu}
use Rattle.ec_regs.specs.declared.sync_man.SyncMan.{SyncMan}
use Rattle.ec_regs.specs.declared.registers.TheConstants.{MEMORY_SIZE}
use Rattle.ec_regs.specs.declared.registers.TheConstants.{LOGICAL_BITS}
use Rattle.ec_regs.proofs.Laws.{with_bits_none, with_bits_same_places, with_bits-with_bits}
use Rattle.ec_regs.proofs.Laws.{physical_of-IsPair, IsPair-physical_of}
use Rattle.ec_areas.specs.Areas.{is_readable}
use Rattle.ec_areas.specs.Logical.{IsReadablePair, IsReadable, place_if, read_place, read_map, read_places}
use Rattle.ec_areas.specs.Logical.{names, NamesPairs}
use Rattle.ec_areas.specs.declared.met.Run.{Run}
use Rattle.ec_areas.specs.Met.{physical_in}
use Rattle.ec_areas.proofs.NamesLemmas.{names_same, names_nowhere, names-later}

-- ---- one FMMU: the set and the partial function

-- a place that was kept is a place that passes
pub place_if-some : (test : ℕ → Bool) (o : Option ℕ) (p : ℕ) → place_if test o ≡ Some p → (o
    ≡ Some p) × (test p ≡ true)
place_if-some test None p e = absurd (cc)
place_if-some test (Some x) p e =
    ⊎_elim
    (λ (passes : test x ≡ true).
    let kept : Some x ≡ Some p = rw passes at e in
    let same : x ≡ p = cc in
    (kept, ap test (sym same) ∙ passes))
    (λ (fails : test x ≡ false). absurd (let gone : cond (test x) (Some x) None ≡ None = rw fails refl in cc))
    (cases_Bool (test x))

-- what is there under a condition shows the condition
pub if_some : (b : Bool) (o : Option ℕ) (p : ℕ) → cond b o None ≡ Some p → (b ≡ true) × (o ≡ Some p)
if_some true o p e = (refl, e)
if_some false o p e = absurd (cc)

-- what a read through an FMMU takes is a readable pair
pub IsReadablePair-read_place : (managers : List SyncMan) (f : Fmmu) (l p : ℕ) → read_place managers f l
    ≡ Some p
    → IsReadablePair managers f l p
unfolding read_place
IsReadablePair-read_place managers f l p e =
    let parts = if_some (reads f && ltb l LOGICAL_BITS) (place_if (λ q. is_readable managers (q / 8))
    (physical_of f l)) p e in
    let conditions = and_parts (reads f) (ltb l LOGICAL_BITS) parts.0 in
    let kept = place_if-some (λ q. is_readable managers (q / 8)) (physical_of f l) p parts.1 in
    let below : ltb l LOGICAL_BITS ≡ true = conditions.1 in
    record {
      mapped = IsPair-physical_of f l p kept.0;
      for_reading = conditions.0;
      exists = grind (arith, nat_tests);
      allowed = kept.1;
    }

-- and a readable pair is what a read takes
pub read_place-IsReadablePair : (managers : List SyncMan) (f : Fmmu) (l p : ℕ) → IsReadablePair managers f l p
    → read_place managers f l ≡ Some p
unfolding read_place
read_place-IsReadablePair managers f l p pair =
    let below : ltb l LOGICAL_BITS ≡ true = let h : l < LOGICAL_BITS =
    pair.exists in grind (arith, nat_tests) in
    let is : physical_of f l ≡ Some p = physical_of-IsPair f l p pair.mapped in
    rw (pair.for_reading, below, is, pair.allowed) refl

-- ---- all FMMUs

-- what a read takes is a readable pair of some FMMU
pub IsReadable-read_map : (managers : List SyncMan) (fmmus : List Fmmu) (l p : ℕ)
    → read_map managers fmmus l ≡ Some p
    → IsReadable managers fmmus l p
unfolding read_map
IsReadable-read_map managers [] l p e = absurd (cc)
IsReadable-read_map managers (f ∷ fs) l p e =
    let P : Option ℕ → Type 0 = λ o. read_map managers fs l ≡ o → later (read_place managers f l) o
    ≡ Some p → IsReadable managers (f ∷ fs) l p in
    elim (read_map managers fs l) as P [
      | None ↦ λ _ here. (0, f, omega arith, refl, IsReadablePair-read_place managers f l p here)
      | Some q ↦ λ behind here.
          let found = IsReadable-read_map managers fs l p (behind ∙ here) in
          (suc found.0, found.1, omega arith, found.3, found.4)
    ] refl e

-- a place is found where the earlier of two is one
pub later_some_left : (p : ℕ) (o : Option ℕ) → IsSome (later (Some p) o)
later_some_left p None = refl
later_some_left p (Some q) = refl

-- or where the later one is
pub later_some_right : (o later_one : Option ℕ) → IsSome later_one → IsSome (later o later_one)
later_some_right o None none = absurd (cc)
later_some_right o (Some q) some = refl

-- where FMMU number k has a readable pair a read takes one
read_map_some_at : (managers : List SyncMan) (fmmus : List Fmmu) (l p k : ℕ) (f : Fmmu)
    → k < length fmmus → get_or fmmus k f ≡ f
    → IsReadablePair managers f l p → IsSome (read_map managers fmmus l)
unfolding read_map
read_map_some_at managers [] l p k f inside is pair = absurd (omega arith)
read_map_some_at managers (g ∷ gs) l p zero f inside is pair =
    let here : read_place managers g l ≡ Some p = ap (λ h. read_place managers h l) is
    ∙ read_place-IsReadablePair managers f l p pair in
    rw here (later_some_left p (read_map managers gs l))
read_map_some_at managers (g ∷ gs) l p (suc k) f inside is pair =
    later_some_right (read_place managers g l) (read_map managers gs l)
    (read_map_some_at managers gs l p k f (omega arith) is pair)

-- and so where some FMMU has one
pub read_map-IsReadable : (managers : List SyncMan) (fmmus : List Fmmu) (l p : ℕ)
    → IsReadable managers fmmus l p
    → IsSome (read_map managers fmmus l)
read_map-IsReadable managers fmmus l p h = read_map_some_at managers fmmus l p h.0 h.1 h.2 h.3 h.4

-- so the map has the readable pairs
pub NamesPairs-read_map : (managers : List SyncMan) (fmmus : List Fmmu)
    → NamesPairs (read_map managers fmmus) (IsReadable managers fmmus)
NamesPairs-read_map managers fmmus = record {
  is_paired = λ l p e. IsReadable-read_map managers fmmus l p e;
  is_found = λ l p paired. read_map-IsReadable managers fmmus l p paired;
}

-- ---- a loop over the FMMUs

-- the FMMUs from one on: that one, and then those behind it
read_map-drop : (managers : List SyncMan) (fmmus : List Fmmu) (k l : ℕ) (f : Fmmu) → k < length fmmus
    → f ≡ get_or fmmus k f
    → read_map managers (drop k fmmus) l ≡ later (read_place managers f l) (read_map managers (drop
    (k + 1) fmmus) l)
unfolding read_map
read_map-drop managers fmmus k l f inside is =
    rw (add-one, drop-cons fmmus k f inside)
    (ap (λ g. later (read_place managers g l) (read_map managers (drop (suc k) fmmus) l)) (sym is))

-- one FMMU more has been read through: those behind it are left to do
pub read_map_more : (managers : List SyncMan) (fmmus : List Fmmu) (k from : ℕ) (f : Fmmu)
    (xs ys zs : List ℕ) → k < length fmmus
    → f ≡ get_or fmmus k f → zs ≡ with_bits xs ys (λ i. read_place managers f (from + i))
    → with_bits zs ys (read_places managers (drop (k + 1) fmmus) from)
    ≡ with_bits xs ys (read_places managers (drop k fmmus) from)
read_map_more managers fmmus k from f xs ys zs inside is read =
    rw read
    (with_bits-with_bits xs ys (λ i. read_place managers f (from + i)) (read_places managers (drop
    (k + 1) fmmus) from)
    ∙ with_bits_same_places xs ys (λ i. later (read_place managers f (from + i)) (read_places managers
    (drop (k + 1) fmmus) from i))
    (read_places managers (drop k fmmus) from)
    (λ i _. sym (read_map-drop managers fmmus k (from + i) f inside is)))

-- behind the last FMMU nothing is left to do
pub read_map_done : (managers : List SyncMan) (fmmus : List Fmmu) (k from : ℕ) (xs ys : List ℕ)
    → length fmmus ≤ k → AreBytes xs
    → with_bits xs ys (read_places managers (drop k fmmus) from) ≡ xs
unfolding read_map
read_map_done managers fmmus k from xs ys past are =
    with_bits_none xs ys (read_places managers (drop k fmmus) from) are (λ i _. rw
    (drop_all k fmmus past) refl)

-- is a bit mapped by the FMMUs from one on: by that one, or by those behind it
pub names_more_fmmu : (managers : List SyncMan) (fmmus : List Fmmu) (k from n : ℕ) (f : Fmmu)
    → k < length fmmus → f ≡ get_or fmmus k f
    → names (read_places managers (drop k fmmus) from) n
    ≡ (names (λ i. read_place managers f (from + i)) n || names (read_places managers (drop
    (k + 1) fmmus) from) n)
names_more_fmmu managers fmmus k from n f inside is =
    names_same (read_places managers (drop k fmmus) from)
    (λ i. later (read_place managers f (from + i)) (read_places managers (drop (k + 1) fmmus) from i)) n
    (λ i _. read_map-drop managers fmmus k (from + i) f inside is)
    ∙ names-later (λ i. read_place managers f (from + i)) (read_places managers (drop (k + 1) fmmus) from) n

-- behind the last FMMU nothing is mapped
pub names_no_fmmu : (managers : List SyncMan) (fmmus : List Fmmu) (k from n : ℕ) → length fmmus ≤ k
    → names (read_places managers (drop k fmmus) from) n ≡ false
unfolding read_map
names_no_fmmu managers fmmus k from n past =
    names_nowhere (read_places managers (drop k fmmus) from) n (λ i _. rw (drop_all k fmmus past) refl)

-- ---- one FMMU and its run

-- through an FMMU that is not for reading nothing is read
pub read_place_not_for_reading : (managers : List SyncMan) (f : Fmmu) (l : ℕ) → reads f ≡ false
    → read_place managers f l ≡ None
unfolding read_place
read_place_not_for_reading managers f l not_reads = rw not_reads refl

-- through any other it is the physical bit, if there is one and its byte may be read
pub read_place_for_reading : (managers : List SyncMan) (f : Fmmu) (l : ℕ) → reads f ≡ true
    → place_if (λ p. is_readable managers (p / 8)) (cond (ltb l LOGICAL_BITS) (physical_of f l) None)
    ≡ read_place managers f l
unfolding read_place
read_place_for_reading managers f l for_reading =
    ⊎_elim
    (λ (exists : ltb l LOGICAL_BITS ≡ true). rw (for_reading, exists) refl)
    (λ (past : ltb l LOGICAL_BITS ≡ false). rw (for_reading, past) refl)
    (cases_Bool (ltb l LOGICAL_BITS))

-- so what a run has for data bit i is what a read takes, where the run is that of the FMMU
pub read_place-run : (managers : List SyncMan) (f : Fmmu) (run : Option Run) (from i : ℕ) → reads f ≡ true
    → physical_in run i ≡ cond (ltb (from + i) LOGICAL_BITS) (physical_of f (from + i)) None
    → place_if (λ p. is_readable managers (p / 8)) (physical_in run i) ≡ read_place managers f (from + i)
read_place-run managers f run from i for_reading is =
    ap (place_if (λ p. is_readable managers (p / 8))) is
    ∙ read_place_for_reading managers f (from + i) for_reading

-- a byte that may be read is in the memory
pub is_readable-lt : (managers : List SyncMan) (address : ℕ) → is_readable managers address ≡ true
    → address < MEMORY_SIZE
unfolding is_readable
is_readable-lt managers address readable =
    let inside : ltb address MEMORY_SIZE ≡ true =
    (and_parts (ltb address MEMORY_SIZE) _ readable).0 in grind (arith, nat_tests)
