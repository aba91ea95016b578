-- Whether a bit of a range is named: by the bytes of a run, FMMU by FMMU, and by the pairs.
use Rattle.std.proofs.Common.{◌≡◌, ◌↔◌, ℕ, ◌+◌, ◌-◌, ◌*◌, ◌/◌, ◌<◌, ◌≤◌, Bool, true, false, ◌||◌, max, List, []}
use Rattle.std.proofs.Common.{◌∷◌, Option, None, Some, sym, ◌∙◌, ap, refl, arith, ⊎_elim}
use Rattle.std.specs.List.{list_any, range_with_len}
use Rattle.std.proofs.lemmas.Bool.{cases_Bool}
use Rattle.std.proofs.lemmas.List.Folds.{Any-from_list_any}
use Rattle.std.proofs.lemmas.List.FromFn.{length-range_with_len, get_or-range_with_len}
use Rattle.ec_areas.specs.Ranges.{some_address}
use Rattle.ec_areas.proofs.RangeLemmas.{some_address_at}
use Rattle.std.specs.Option.{is_some, IsSome}
use Rattle.ec_regs.specs.declared.fmmu.Fmmu.{Fmmu}
use Rattle.ec_regs.specs.declared.sync_man.SyncMan.{SyncMan}
use Rattle.ec_regs.proofs.Laws.{partner_inside}
use Rattle.ec_areas.specs.Logical.{place_if, names, read_place, read_map, read_places, write_target, target_map}
use Rattle.ec_areas.specs.Logical.{target_places, reads_some, writes_some, IsReadable, IsWritable, NamesPairs}
use Rattle.ec_areas.specs.Logical.{IsPairWithin}
use Rattle.ec_areas.proofs.NamesLemmas.{names_somewhere, names_nowhere, names_at, names_some, names-later}
use Rattle.ec_areas.proofs.ReachLemmas.{kept, kept_none}
use Rattle.ec_areas.proofs.LogicalLemmas.{NamesPairs-read_map}
use Rattle.ec_areas.proofs.WriteLemmas.{NamesPairs-target_map}

-- ---- a run, byte by byte

-- a run has a bit where one of its bytes passes the test: the first bit of the byte, or the first of all
pub names_byte : (test : ℕ → Bool) (at to n bits byte : ℕ) → 0 < n → at + n ≤ bits → to / 8 ≤ byte
    → byte ≤ (to + n - 1) / 8
    → test byte ≡ true → names (kept test at to n) bits ≡ true
names_byte test at to n bits byte some within starts ends passes =
    let j : ℕ = max to (8 * byte) - to in
    let inside : j < n = omega arith in
    let place : (to + j) / 8 ≡ byte = omega arith in
    let hit : test ((to + j) / 8) ≡ true = ap test place ∙ passes in
    names_somewhere (kept test at to n) bits (at + j) (to + j) (omega arith)
    (ap (place_if (λ p. test (p / 8))) (partner_inside at to n (at + j) j refl inside) ∙ rw hit refl)

-- and none where no byte does
pub names_no_byte : (test : ℕ → Bool) (at to n bits : ℕ)
    → ((byte : ℕ) → to / 8 ≤ byte → byte ≤ (to + n - 1) / 8 → test byte ≡ false)
    → names (kept test at to n) bits ≡ false
names_no_byte test at to n bits none =
    names_nowhere (kept test at to n) bits
    (λ i _. kept_none test at to n i (λ p starts ends. none (p / 8) (omega arith) (omega arith)))

-- so a run has a bit where one of the bytes from its first to its last passes
pub names-bytes : (test : ℕ → Bool) (at to n bits : ℕ) → 0 < n → at + n ≤ bits
    → some_address test (to / 8) ((to + n - 1) / 8 + 1 - to / 8) ≡ names (kept test at to n) bits
unfolding some_address
names-bytes test at to n bits some within =
    let first : ℕ = to / 8 in
    let m : ℕ = (to + n - 1) / 8 + 1 - to / 8 in
    ⊎_elim
    (λ (passes : some_address test first m ≡ true).
    let found = Any-from_list_any test (range_with_len first m) passes in
    let k : ℕ = found.0 in
    let below : k < m = omega (arith, found.2, length-range_with_len first m) in
    let byte : found.1 ≡ first + k = sym found.3 ∙ get_or-range_with_len first m k found.1 below in
    passes
    ∙ sym (names_byte test at to n bits (first + k) some within (omega arith) (omega arith)
    (ap test (sym byte) ∙ found.4)))
    (λ (fails : some_address test first m ≡ false).
    fails
    ∙ sym (names_no_byte test at to n bits (λ byte starts ends.
    ⊎_elim
    (λ (yes : test byte ≡ true).
    let same : first + (byte - first) ≡ byte = omega arith in
    let hit : some_address test first m ≡ true =
    some_address_at test first m (byte - first) (omega arith) (ap test same ∙ yes) in
    absurd (let no : true ≡ false = sym hit ∙ fails in cc))
    (λ (no : test byte ≡ false). no)
    (cases_Bool (test byte)))))
    (cases_Bool (some_address test first m))

-- ---- all FMMUs

-- FMMUs read a bit where one of them does
pub names-read_map : (managers : List SyncMan) (fmmus : List Fmmu) (from n : ℕ)
    → list_any (λ f. names (λ i. read_place managers f (from + i)) n) fmmus ≡ reads_some managers fmmus from n
unfolding read_map
names-read_map managers [] from n = sym (names_nowhere (λ i. None) n (λ i _. refl))
names-read_map managers (f ∷ fs) from n =
    ap (λ rest. names (λ i. read_place managers f (from + i)) n || rest) (names-read_map managers fs from n)
    ∙ sym (names-later (λ i. read_place managers f (from + i)) (read_places managers fs from) n)

-- and write one where one of them does
pub names-target_map : (managers : List SyncMan) (fmmus : List Fmmu) (from n : ℕ)
    → list_any (λ f. names (λ i. write_target managers f (from + i)) n) fmmus
    ≡ writes_some managers fmmus from n
unfolding target_map
names-target_map managers [] from n = sym (names_nowhere (λ i. None) n (λ i _. refl))
names-target_map managers (f ∷ fs) from n =
    ap (λ rest. names (λ i. write_target managers f (from + i)) n || rest)
    (names-target_map managers fs from n)
    ∙ sym (names-later (λ i. write_target managers f (from + i)) (target_places managers fs from) n)

-- ---- pairs

-- what is there, by its number
some_is : (o : Option ℕ) → IsSome o → (p : ℕ) × (o ≡ Some p)
some_is None none = absurd (cc)
some_is (Some p) some = (p, refl)

-- where a map names pairs, one of the n bits from one on has a place exactly where it is paired
names_pairs : (map : ℕ → Option ℕ) (paired : ℕ → ℕ → Type 0) (from n : ℕ) → NamesPairs map paired
    → (names (λ i. map (from + i)) n ≡ true) ↔ ((l p : ℕ) × IsPairWithin paired from n l p)
names_pairs map paired from n pairs = (
  λ named.
      let found = names_some (λ i. map (from + i)) n named in
      let i : ℕ = found.0 in
      let below : i < n = found.1 in
      let place = some_is (map (from + i)) found.2 in (
        from + i,
        place.0,
        record {
          pair = pairs.is_paired (from + i) place.0 place.1;
          starts = omega arith;
          ends = omega arith;
        },
      ),
  λ found.
      let l : ℕ = found.0 in
      let starts : from ≤ l = found.2.starts in
      let ends : l < from + n = found.2.ends in
      let number : from + (l - from) ≡ l = omega arith in
      names_at (λ i. map (from + i)) n (l - from) (omega arith)
      (ap (λ m. is_some (map m)) number ∙ pairs.is_found l found.1 found.2.pair),
)

pub reads_some_pair : (managers : List SyncMan) (fmmus : List Fmmu) (from n : ℕ)
    → (reads_some managers fmmus from n ≡ true)
    ↔ ((l p : ℕ) × IsPairWithin (IsReadable managers fmmus) from n l p)
reads_some_pair managers fmmus from n =
    names_pairs (read_map managers fmmus) (IsReadable managers fmmus) from n
    (NamesPairs-read_map managers fmmus)

pub writes_some_pair : (managers : List SyncMan) (fmmus : List Fmmu) (from n : ℕ)
    → (writes_some managers fmmus from n ≡ true)
    ↔ ((l p : ℕ) × IsPairWithin (IsWritable managers fmmus) from n l p)
writes_some_pair managers fmmus from n =
    names_pairs (target_map managers fmmus) (IsWritable managers fmmus) from n
    (NamesPairs-target_map managers fmmus)
