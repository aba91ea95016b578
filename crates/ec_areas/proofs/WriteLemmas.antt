-- Where writes through FMMUs go: the partial functions and the sets of pairs, runs, and one FMMU more.
use Rattle.std.proofs.Common.{◌≡◌, ℕ, zero, suc, ◌+◌, ◌-◌, ◌/◌, ◌<◌, ◌≤◌, true, false, cond, ltb, leb, ◌&&◌}
use Rattle.std.proofs.Common.{◌||◌, List, [], ◌∷◌, length, get_or, drop, Option, None, Some, sym, ◌∙◌, ap}
use Rattle.std.proofs.Common.{refl, arith, ⊎_elim}
use Rattle.std.specs.Option.{is_some, IsSome}
use Rattle.std.proofs.lemmas.Bool.{and_parts, cases_Bool}
use Rattle.std.proofs.lemmas.Bool.Decides.{nat_tests}
use Rattle.std.proofs.lemmas.List.{drop_all, drop_more}
use Rattle.ec_regs.specs.Bits.{AreBytes, with_bits, later}
use Rattle.ec_regs.specs.Pairs.{writes, physical_of, logical_of}
use Rattle.ec_regs.specs.declared.fmmu.Fmmu.{Fmmu}
use Rattle.ec_regs.specs.declared.sync_man.SyncMan.{SyncMan}
use Rattle.ec_regs.specs.declared.registers.TheConstants.{MEMORY_SIZE, PROCESS_MEMORY}
use Rattle.ec_regs.specs.declared.registers.TheConstants.{LOGICAL_BITS}
use Rattle.ec_areas.specs.Areas.{is_writable, is_locked}
use Rattle.ec_regs.proofs.Laws.{with_bits_none, with_bits_same_places, with_bits-with_bits}
use Rattle.ec_regs.proofs.Laws.{physical_of-IsPair, IsPair-physical_of, logical_of-IsPair}
use Rattle.ec_regs.proofs.Laws.{IsPair-logical_of}
use Rattle.ec_areas.specs.Logical.{IsWritablePair, IsWritable, NamesPairs, place_if, write_target}
use Rattle.ec_areas.specs.Logical.{write_place, number_within, write_map, target_map, target_places, names}
use Rattle.ec_areas.specs.Met.{physical_in, data_in}
use Rattle.ec_areas.specs.declared.met.Run.{Run}
use Rattle.ec_areas.proofs.NamesLemmas.{names_same, names_nowhere, names_none, names-later}
use Rattle.ec_areas.proofs.LogicalLemmas.{place_if-some, if_some, later_some_left, later_some_right}

-- ---- one FMMU: the set and the partial functions

-- where a write through an FMMU goes is a writable pair
pub IsWritablePair-write_target : (managers : List SyncMan) (f : Fmmu) (l p : ℕ)
    → write_target managers f l ≡ Some p
    → IsWritablePair managers f l p
unfolding write_target
IsWritablePair-write_target managers f l p e =
    let parts = if_some (writes f && ltb l LOGICAL_BITS) (place_if (λ q. is_writable managers (q / 8))
    (physical_of f l)) p e in
    let conditions = and_parts (writes f) (ltb l LOGICAL_BITS) parts.0 in
    let kept = place_if-some (λ q. is_writable managers (q / 8)) (physical_of f l) p parts.1 in
    let below : ltb l LOGICAL_BITS ≡ true = conditions.1 in
    record {
      mapped = IsPair-physical_of f l p kept.0;
      for_writing = conditions.0;
      exists = grind (arith, nat_tests);
      allowed = kept.1;
    }

-- and a write of a writable pair's logical bit goes to its physical bit
pub write_target-IsWritablePair : (managers : List SyncMan) (f : Fmmu) (l p : ℕ)
    → IsWritablePair managers f l p
    → write_target managers f l ≡ Some p
unfolding write_target
write_target-IsWritablePair managers f l p pair =
    let below : ltb l LOGICAL_BITS ≡ true = let h : l < LOGICAL_BITS =
    pair.exists in grind (arith, nat_tests) in
    let is : physical_of f l ≡ Some p = physical_of-IsPair f l p pair.mapped in
    rw (pair.for_writing, below, is, pair.allowed) refl

-- what a physical bit takes is a writable pair
pub IsWritablePair-write_place : (managers : List SyncMan) (f : Fmmu) (l p : ℕ)
    → write_place managers f p ≡ Some l
    → IsWritablePair managers f l p
unfolding write_place
IsWritablePair-write_place managers f l p e =
    let parts = if_some (writes f && is_writable managers (p / 8)) (place_if (λ m. ltb m LOGICAL_BITS)
    (logical_of f p)) l e in
    let conditions = and_parts (writes f) (is_writable managers (p / 8)) parts.0 in
    let kept = place_if-some (λ m. ltb m LOGICAL_BITS) (logical_of f p) l parts.1 in
    let below : ltb l LOGICAL_BITS ≡ true = kept.1 in
    record {
      mapped = IsPair-logical_of f l p kept.0;
      for_writing = conditions.0;
      exists = grind (arith, nat_tests);
      allowed = conditions.1;
    }

-- and the physical bit of a writable pair takes its logical bit
pub write_place-IsWritablePair : (managers : List SyncMan) (f : Fmmu) (l p : ℕ)
    → IsWritablePair managers f l p
    → write_place managers f p ≡ Some l
unfolding write_place
write_place-IsWritablePair managers f l p pair =
    let below : ltb l LOGICAL_BITS ≡ true = let h : l < LOGICAL_BITS =
    pair.exists in grind (arith, nat_tests) in
    let is : logical_of f p ≡ Some l = logical_of-IsPair f l p pair.mapped in
    rw (pair.for_writing, pair.allowed, is, below) refl

-- a byte that may be written is in the memory
pub is_writable-lt : (managers : List SyncMan) (address : ℕ) → is_writable managers address ≡ true
    → address < MEMORY_SIZE
unfolding is_writable
is_writable-lt managers address writable =
    let bounds = and_parts (leb PROCESS_MEMORY address && ltb address MEMORY_SIZE) _ writable in
    let inside : ltb address MEMORY_SIZE ≡ true =
    (and_parts (leb PROCESS_MEMORY address) (ltb address MEMORY_SIZE) bounds.0).1 in
    grind (arith, nat_tests)

-- ---- one FMMU and its run

-- where the data bits go through an FMMU, by their number from logical bit `from` on
abbrev pub targets : List SyncMan → Fmmu → ℕ → ℕ → Option ℕ
targets managers f from i = write_target managers f (from + i)

-- the number of the data bit that physical bit p takes through the FMMU, of the n bits from logical bit
-- `from` on
abbrev pub sources : List SyncMan → Fmmu → ℕ → ℕ → ℕ → Option ℕ
sources managers f from n p = number_within from n (write_place managers f p)

-- through an FMMU that is not for writing nothing is written
pub targets_not_for_writing : (managers : List SyncMan) (f : Fmmu) (from i : ℕ) → writes f ≡ false
    → targets managers f from i ≡ None
unfolding write_target
targets_not_for_writing managers f from i not_writes = rw not_writes refl

pub sources_not_for_writing : (managers : List SyncMan) (f : Fmmu) (from n p : ℕ) → writes f ≡ false
    → sources managers f from n p ≡ None
unfolding write_place
sources_not_for_writing managers f from n p not_writes = rw not_writes refl

-- through any other a data bit goes where the run has it, if that byte may be written
pub targets-run : (managers : List SyncMan) (f : Fmmu) (run : Option Run) (from i : ℕ) → writes f ≡ true
    → physical_in run i ≡ cond (ltb (from + i) LOGICAL_BITS) (physical_of f (from + i)) None
    → place_if (λ p. is_writable managers (p / 8)) (physical_in run i) ≡ targets managers f from i
unfolding write_target
targets-run managers f run from i for_writing is =
    ap (place_if (λ p. is_writable managers (p / 8))) is
    ∙ ⊎_elim
    (λ (exists : ltb (from + i) LOGICAL_BITS ≡ true). rw (for_writing, exists) refl)
    (λ (past : ltb (from + i) LOGICAL_BITS ≡ false). rw (for_writing, past) refl)
    (cases_Bool (ltb (from + i) LOGICAL_BITS))

-- and a physical bit takes the data bit that the run has for it
pub sources-run : (managers : List SyncMan) (f : Fmmu) (run : Option Run) (from n p : ℕ) → writes f ≡ true
    → data_in run p ≡ number_within from n (place_if (λ l. ltb l LOGICAL_BITS) (logical_of f p))
    → cond (is_writable managers (p / 8)) (data_in run p) None ≡ sources managers f from n p
unfolding write_place
sources-run managers f run from n p for_writing is =
    ⊎_elim
    (λ (may : is_writable managers (p / 8) ≡ true). rw (for_writing, may) is)
    (λ (may_not : is_writable managers (p / 8) ≡ false). rw (for_writing, may_not) refl)
    (cases_Bool (is_writable managers (p / 8)))

-- ---- all FMMUs

-- the FMMUs from one on: that one, and then those behind it
write_map-drop : (managers : List SyncMan) (fmmus : List Fmmu) (k from n p : ℕ) (f : Fmmu)
    → k < length fmmus → f ≡ get_or fmmus k f
    → write_map managers (drop k fmmus) from n p
    ≡ later (sources managers f from n p) (write_map managers (drop (k + 1) fmmus) from n p)
unfolding write_map
write_map-drop managers fmmus k from n p f inside is =
    rw (drop_more fmmus k f inside) (ap (λ g. later (sources managers g from n p) (write_map managers
    (drop (k + 1) fmmus) from n p)) (sym is))

-- one FMMU more has been written: those behind it are left to do
pub write_map_more : (managers : List SyncMan) (fmmus : List Fmmu) (k from n : ℕ) (f : Fmmu)
    (xs ys zs : List ℕ) → k < length fmmus
    → f ≡ get_or fmmus k f → zs ≡ with_bits xs ys (sources managers f from n)
    → with_bits zs ys (write_map managers (drop (k + 1) fmmus) from n)
    ≡ with_bits xs ys (write_map managers (drop k fmmus) from n)
write_map_more managers fmmus k from n f xs ys zs inside is written =
    rw written
    (with_bits-with_bits xs ys (sources managers f from n) (write_map managers (drop (k + 1) fmmus) from n)
    ∙ with_bits_same_places xs ys (λ p. later (sources managers f from n p) (write_map managers (drop
    (k + 1) fmmus) from n p))
    (write_map managers (drop k fmmus) from n) (λ p _. sym
    (write_map-drop managers fmmus k from n p f inside is)))

-- behind the last FMMU nothing is left to do
pub write_map_done : (managers : List SyncMan) (fmmus : List Fmmu) (k from n : ℕ) (xs ys : List ℕ)
    → length fmmus ≤ k → AreBytes xs
    → with_bits xs ys (write_map managers (drop k fmmus) from n) ≡ xs
unfolding write_map
write_map_done managers fmmus k from n xs ys past are =
    with_bits_none xs ys (write_map managers (drop k fmmus) from n) are (λ p _. rw
    (drop_all k fmmus past) refl)

-- is a bit mapped by the FMMUs from one on: by that one, or by those behind it
pub names_more_target : (managers : List SyncMan) (fmmus : List Fmmu) (k from n : ℕ) (f : Fmmu)
    → k < length fmmus → f ≡ get_or fmmus k f
    → names (target_places managers (drop k fmmus) from) n
    ≡ (names (targets managers f from) n || names (target_places managers (drop (k + 1) fmmus) from) n)
unfolding target_map
names_more_target managers fmmus k from n f inside is =
    names_same (target_places managers (drop k fmmus) from)
    (λ i. later (targets managers f from i) (target_places managers (drop (k + 1) fmmus) from i)) n
    (λ i _.
    rw (drop_more fmmus k f inside) (ap (λ g. later (targets managers g from i) (target_places managers
    (drop (k + 1) fmmus) from i)) (sym is)))
    ∙ names-later (targets managers f from) (target_places managers (drop (k + 1) fmmus) from) n

-- behind the last FMMU nothing is mapped
pub names_no_target : (managers : List SyncMan) (fmmus : List Fmmu) (k from n : ℕ) → length fmmus ≤ k
    → names (target_places managers (drop k fmmus) from) n ≡ false
unfolding target_map
names_no_target managers fmmus k from n past =
    names_nowhere (target_places managers (drop k fmmus) from) n (λ i _. rw (drop_all k fmmus past) refl)

-- ---- all FMMUs: the sets and the maps

-- where a bit goes is a writable pair of some FMMU
pub IsWritable-target_map : (managers : List SyncMan) (fmmus : List Fmmu) (l p : ℕ)
    → target_map managers fmmus l ≡ Some p
    → IsWritable managers fmmus l p
unfolding target_map
IsWritable-target_map managers [] l p e = absurd (cc)
IsWritable-target_map managers (f ∷ fs) l p e =
    let P : Option ℕ → Type 0 = λ o. target_map managers fs l ≡ o → later (write_target managers f l) o
    ≡ Some p → IsWritable managers (f ∷ fs) l p in
    elim (target_map managers fs l) as P [
      | None ↦ λ _ here. (0, f, omega arith, refl, IsWritablePair-write_target managers f l p here)
      | Some q ↦ λ behind here.
          let found = IsWritable-target_map managers fs l p (behind
          ∙ here) in (suc found.0, found.1, omega arith, found.3, found.4)
    ] refl e

-- and where FMMU number k has a writable pair the bit goes somewhere
target_map_some_at : (managers : List SyncMan) (fmmus : List Fmmu) (l p k : ℕ) (f : Fmmu)
    → k < length fmmus → get_or fmmus k f ≡ f
    → IsWritablePair managers f l p → IsSome (target_map managers fmmus l)
unfolding target_map
target_map_some_at managers [] l p k f inside is pair = absurd (omega arith)
target_map_some_at managers (g ∷ gs) l p zero f inside is pair =
    let here : write_target managers g l ≡ Some p = ap (λ h. write_target managers h l) is
    ∙ write_target-IsWritablePair managers f l p pair in
    rw here (later_some_left p (target_map managers gs l))
target_map_some_at managers (g ∷ gs) l p (suc k) f inside is pair =
    later_some_right (write_target managers g l) (target_map managers gs l)
    (target_map_some_at managers gs l p k f (omega arith) is pair)

-- so the map of targets has the writable pairs
pub NamesPairs-target_map : (managers : List SyncMan) (fmmus : List Fmmu)
    → NamesPairs (target_map managers fmmus) (IsWritable managers fmmus)
NamesPairs-target_map managers fmmus = record {
  is_paired = λ l p e. IsWritable-target_map managers fmmus l p e;
  is_found = λ l p paired. target_map_some_at managers fmmus l p paired.0 paired.1 paired.2 paired.3 paired.4;
}

-- a number within stands for the bit that lies so far behind the first one
number_within_is : (from n : ℕ) (o : Option ℕ) (i : ℕ) → number_within from n o ≡ Some i → (o
    ≡ Some (from + i)) × (i < n)
number_within_is from n None i e = absurd (cc)
number_within_is from n (Some l) i e =
    let parts = if_some (leb from l && ltb (l - from) n) (Some (l - from)) i e in
    let tests = and_parts (leb from l) (ltb (l - from) n) parts.0 in
    let starts : leb from l ≡ true = tests.0 in
    let ends : ltb (l - from) n ≡ true = tests.1 in
    let number : l - from ≡ i = let same : Some (l - from) ≡ Some i = parts.1 in cc in
    let starts_is : from ≤ l = grind (arith, nat_tests) in
    let ends_is : l - from < n = grind (arith, nat_tests) in
    (ap Some (let place : l ≡ from + i = omega arith in place), omega arith)

-- and a bit that lies among the data has one
number_within_has : (from n i : ℕ) → i < n → number_within from n (Some (from + i)) ≡ Some i
number_within_has from n i inside =
    let number : from + i - from ≡ i = omega arith in
    let starts : leb from (from + i) ≡ true = grind (arith, nat_tests) in
    let ends : ltb (from + i - from) n ≡ true = grind (arith, nat_tests) in
    rw (starts, ends, number) refl

-- the data bit of a physical bit is paired with it by some FMMU, and is one of those that there are
abbrev IsSource : List SyncMan → List Fmmu → ℕ → ℕ → ℕ → ℕ → Type 0
IsSource managers fmmus from n p i = (i < n) × IsWritable managers fmmus (from + i) p

IsSource-write_map : (managers : List SyncMan) (fmmus : List Fmmu) (from n p i : ℕ)
    → write_map managers fmmus from n p ≡ Some i
    → IsSource managers fmmus from n p i
unfolding write_map
IsSource-write_map managers [] from n p i e = absurd (cc)
IsSource-write_map managers (f ∷ fs) from n p i e =
    let P : Option ℕ → Type 0 = λ o. write_map managers fs from n p ≡ o
    → later (sources managers f from n p) o ≡ Some i → IsSource managers (f ∷ fs) from n p i in
    elim (write_map managers fs from n p) as P [
      | None ↦ λ _ here.
          let number = number_within_is from n (write_place managers f p) i here in
          (number.1, (0, f, omega arith, refl, IsWritablePair-write_place managers f (from + i) p number.0))
      | Some q ↦ λ behind here.
          let found = IsSource-write_map managers fs from n p i (behind ∙ here) in
          (found.0, (suc found.1.0, found.1.1, omega arith, found.1.3, found.1.4))
    ] refl e

-- and where FMMU number k pairs a data bit with a physical bit that bit takes one
write_map_some_at : (managers : List SyncMan) (fmmus : List Fmmu) (from n p i k : ℕ) (f : Fmmu) → i < n
    → k < length fmmus → get_or fmmus k f ≡ f
    → IsWritablePair managers f (from + i) p → IsSome (write_map managers fmmus from n p)
unfolding write_map
write_map_some_at managers [] from n p i k f inside within is pair = absurd (omega arith)
write_map_some_at managers (g ∷ gs) from n p i zero f inside within is pair =
    let place : write_place managers g p ≡ Some (from + i) =
    ap (λ h. write_place managers h p) is ∙ write_place-IsWritablePair managers f (from + i) p pair in
    let here : sources managers g from n p ≡ Some i = ap (number_within from n) place
    ∙ number_within_has from n i inside in
    rw here (later_some_left i (write_map managers gs from n p))
write_map_some_at managers (g ∷ gs) from n p i (suc k) f inside within is pair =
    later_some_right (sources managers g from n p) (write_map managers gs from n p)
    (write_map_some_at managers gs from n p i k f inside (omega arith) is pair)

-- so the map of sources has the writable pairs of the data
pub NamesPairs-write_map : (managers : List SyncMan) (fmmus : List Fmmu) (from n : ℕ)
    → NamesPairs (write_map managers fmmus from n) (λ p i. (i < n) × IsWritable managers fmmus (from + i) p)
NamesPairs-write_map managers fmmus from n = record {
  is_paired = λ p i e. IsSource-write_map managers fmmus from n p i e;
  is_found = λ p i source.
      write_map_some_at managers fmmus from n p i source.1.0 source.1.1 source.0 source.1.2 source.1.3
      source.1.4;
}

-- where no bit of a write goes anywhere no bit takes one
pub write_map_none : (managers : List SyncMan) (fmmus : List Fmmu) (from n p : ℕ)
    → names (λ i. target_map managers fmmus (from + i)) n ≡ false → write_map managers fmmus from n p ≡ None
write_map_none managers fmmus from n p none =
    let P : Option ℕ → Type 0 = λ o. write_map managers fmmus from n p ≡ o → o ≡ None in
    elim (write_map managers fmmus from n p) as P [
      | None ↦ λ _. refl
      | Some i ↦ λ e.
          let found = IsSource-write_map managers fmmus from n p i e in
          let gone : target_map managers fmmus (from + i)
          ≡ None = names_none (λ j. target_map managers fmmus (from + j)) n i none found.0 in
          let some : is_some (target_map managers fmmus (from + i))
          ≡ true = (NamesPairs-target_map managers fmmus).is_found (from + i) p found.1 in
          absurd (let no : false ≡ true = sym (ap is_some gone) ∙ some in cc)
    ] refl

-- ---- registers

-- a byte that may be written lies in process memory, and no area locks it
pub writable_parts : (managers : List SyncMan) (address : ℕ) → is_writable managers address ≡ true
    → (PROCESS_MEMORY ≤ address) × (address < MEMORY_SIZE) × (is_locked managers address ≡ false)
unfolding is_writable
writable_parts managers address writable =
    let parts = and_parts (leb PROCESS_MEMORY address && ltb address MEMORY_SIZE) _ writable in
    let ends = and_parts (leb PROCESS_MEMORY address) (ltb address MEMORY_SIZE) parts.0 in
    let low : leb PROCESS_MEMORY address ≡ true = ends.0 in
    let high : ltb address MEMORY_SIZE ≡ true = ends.1 in
    let free : is_locked managers address ≡ false =
    ⊎_elim
    (λ (locked : is_locked managers address ≡ true). absurd (let no : false
    ≡ true = rw locked at parts.1 in cc))
    (λ (open_ : is_locked managers address ≡ false). open_)
    (cases_Bool (is_locked managers address)) in
    (grind (arith, nat_tests), grind (arith, nat_tests), free)

-- so a bit of a register takes nothing
pub write_map_register : (managers : List SyncMan) (fmmus : List Fmmu) (from n p : ℕ) → p / 8 < PROCESS_MEMORY
    → write_map managers fmmus from n p ≡ None
write_map_register managers fmmus from n p register =
    let P : Option ℕ → Type 0 = λ o. write_map managers fmmus from n p ≡ o → o ≡ None in
    elim (write_map managers fmmus from n p) as P [
      | None ↦ λ _. refl
      | Some i ↦ λ e.
          let found = IsSource-write_map managers fmmus from n p i e in
          let pair = found.1 in
          let parts = writable_parts managers (p / 8) pair.4.allowed in
          absurd (omega (arith, parts.0))
    ] refl
