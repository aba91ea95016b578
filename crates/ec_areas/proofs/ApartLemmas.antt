-- What the master writes through FMMUs that are apart from those for reading is no bit that it reads.
use Rattle.std.proofs.Common.{◌≡◌, ℕ, ◌+◌, ◌<◌, Bool, true, false, ◌||◌, leb, List, length, get_or, Option}
use Rattle.std.proofs.Common.{None, Some, sym, ◌∙◌, ap, refl, arith, ⊎_elim}
use Rattle.std.specs.Prelude.{not}
use Rattle.std.specs.List.{list_all}
use Rattle.std.proofs.lemmas.Bool.{cases_Bool, false≢true}
use Rattle.std.proofs.lemmas.Bool.Decides.{nat_tests}
use Rattle.std.proofs.lemmas.List.Folds.{list_all_at}
use Rattle.ec_regs.specs.Pairs.{reads, writes, first_physical, pair_count, IsPair}
use Rattle.ec_regs.specs.declared.fmmu.Fmmu.{Fmmu}
use Rattle.ec_regs.specs.declared.sync_man.SyncMan.{SyncMan}
use Rattle.ec_areas.specs.Apart.{share_none, is_apart_from_writers, are_apart}
use Rattle.ec_areas.specs.Logical.{read_map, write_map}
use Rattle.ec_areas.proofs.LogicalLemmas.{NamesPairs-read_map}
use Rattle.ec_areas.proofs.WriteLemmas.{NamesPairs-write_map}

-- what all pass is passed by the one with a number
passed_at : (p : Fmmu → Bool) (fmmus : List Fmmu) (k : ℕ) (f : Fmmu) → k < length fmmus → get_or fmmus k f ≡ f
    → list_all p fmmus ≡ true → p f ≡ true
passed_at p fmmus k f inside is all =
    ⊎_elim
    (λ (passes : p f ≡ true). passes)
    (λ (fails : p f ≡ false).
    absurd (false≢true (sym (list_all_at p fmmus k f inside (ap p is ∙ fails)) ∙ all)))
    (cases_Bool (p f))

-- a truth that is implied
implied : (a b : Bool) → a ≡ true → (not a || b) ≡ true → b ≡ true
implied true b holds either = either
implied false b holds either = absurd (false≢true holds)

-- FMMUs that share no bit are not paired with one
shared_by_none : (f g : Fmmu) (l m p : ℕ) → share_none f g ≡ true → IsPair f l p → IsPair g m p → false ≡ true
shared_by_none f g l m p apart first second =
    let one = first.1 in
    let two = second.1 in
    let at_one : p ≡ first_physical f + first.0 = one.physical in
    let at_two : p ≡ first_physical g + second.0 = two.physical in
    let in_one : first.0 < pair_count f = one.mapped in
    let in_two : second.0 < pair_count g = two.mapped in
    ⊎_elim
    (λ (before : leb (first_physical f + pair_count f) (first_physical g)
    ≡ true). absurd (grind (arith, nat_tests)))
    (λ (other : leb (first_physical f + pair_count f) (first_physical g) ≡ false).
    let behind : leb (first_physical g + pair_count g) (first_physical f) ≡ true =
    sym (ap (λ b. b || leb (first_physical g + pair_count g) (first_physical f)) other) ∙ apart in
    absurd (grind (arith, nat_tests)))
    (cases_Bool (leb (first_physical f + pair_count f) (first_physical g)))

-- a bit that is read is not written
pub unwritten : (managers : List SyncMan) (fmmus : List Fmmu) (l p from n : ℕ) → are_apart fmmus ≡ true
    → read_map managers fmmus l ≡ Some p → write_map managers fmmus from n p ≡ None
unfolding are_apart
unwritten managers fmmus l p from n apart is_read =
    let P : Option ℕ → Type 0 = λ o. write_map managers fmmus from n p ≡ o → o ≡ None in
    elim (write_map managers fmmus from n p) as P [
      | None ↦ λ _. refl
      | Some i ↦ λ is_written.
          let reader = (NamesPairs-read_map managers fmmus).is_paired l p is_read in
          let writer = ((NamesPairs-write_map managers fmmus from n).is_paired p i is_written).1 in
          let f = reader.1 in
          let g = writer.1 in
          let from_writers : is_apart_from_writers f fmmus ≡ true =
          implied (reads f) (is_apart_from_writers f fmmus) reader.4.for_reading
          (passed_at (λ h. not (reads h) || is_apart_from_writers h fmmus) fmmus reader.0 f reader.2
          reader.3 apart) in
          let none : share_none f g ≡ true =
          implied (writes g) (share_none f g) writer.4.for_writing
          (passed_at (λ h. not (writes h) || share_none f h) fmmus writer.0 g writer.2 writer.3
          from_writers) in
          absurd (false≢true (shared_by_none f g l (from + i) p none reader.4.mapped writer.4.mapped))
    ] refl
