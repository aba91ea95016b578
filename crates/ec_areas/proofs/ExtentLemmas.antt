-- FMMUs behind the last that maps a bit add nothing to where reads and writes go.
use Rattle.std.proofs.Common.{◌≡◌, ℕ, ◌*◌, suc, ◌+◌, ◌<◌, ◌≤◌, Bool, true, false, eqb, cond}
use Rattle.std.proofs.Common.{List, [], ◌∷◌, ◌++◌, length, take, get_or, Option, None, refl, sym, ◌∙◌, ap, arith}
use Rattle.std.proofs.Common.{⊎_elim}
use Rattle.std.specs.Prelude.{not}
use Rattle.std.proofs.lemmas.Bool.{cases_Bool}
use Rattle.std.proofs.lemmas.List.{take_more, take_all, length-take-le}
use Rattle.std.proofs.lemmas.Bool.Decides.{nat_tests}
use Rattle.ec_regs.specs.Bits.{later}
use Rattle.ec_regs.specs.Pairs.{pair_count, first_logical, first_physical}
use Rattle.ec_regs.proofs.Laws.{partner_none}
use Rattle.ec_regs.specs.declared.fmmu.Fmmu.{Fmmu}
use Rattle.ec_regs.specs.declared.sync_man.SyncMan.{SyncMan}
use Rattle.ec_areas.specs.Extent.{count_to_last, maps_some, mapped_count}
use Rattle.ec_areas.specs.Logical.{read_place, write_target, write_place, number_within}
use Rattle.ec_areas.specs.Logical.{read_map, target_map, write_map, names, reads_some, writes_some}
use Rattle.ec_areas.proofs.NamesLemmas.{names_same}

-- ---- elements up to the last that passes a test

-- a number behind another is not 0
not_zero : (n : ℕ) → eqb (suc n) 0 ≡ false
not_zero n = grind (arith, nat_tests)

-- with one element more there are all, if it passes, and else as many as before
pub count_to_last-append : {T : Type 0} (test : T → Bool) (xs : List T) (x : T)
    → count_to_last test (xs ++ x ∷ []) ≡ (cond (test x) (suc (length xs)) (count_to_last test xs))
unfolding count_to_last
count_to_last-append test [] x = refl
count_to_last-append test (y ∷ ys) x =
    ⊎_elim
    (λ (yes : test x ≡ true). rw (count_to_last-append test ys x, yes, not_zero (length ys)) refl)
    (λ (no : test x ≡ false). rw (count_to_last-append test ys x, no) refl)
    (cases_Bool (test x))

-- there are no more than there are elements
pub count_to_last-le : {T : Type 0} (test : T → Bool) (xs : List T) → count_to_last test xs ≤ length xs
unfolding count_to_last
count_to_last-le test [] = omega arith
count_to_last-le test (x ∷ xs) =
    let rest : count_to_last test xs ≤ length xs = count_to_last-le test xs in
    ⊎_elim
    (λ (none : eqb (count_to_last test xs) 0 ≡ true).
    ⊎_elim
    (λ (passes : test x ≡ true). rw (none, passes) (omega arith))
    (λ (fails : test x ≡ false). rw (none, fails) (omega arith))
    (cases_Bool (test x)))
    (λ (some : eqb (count_to_last test xs) 0 ≡ false). rw some (omega (arith, rest)))
    (cases_Bool (eqb (count_to_last test xs) 0))

-- what a function of a list makes of the elements up to the last that passes a test it makes of all, where
-- the others change nothing in front of nothing
pub same_to_last : {T R : Type 0} (test : T → Bool) (h : List T → R)
    → ((x : T) (xs ys : List T) → h xs ≡ h ys → h (x ∷ xs) ≡ h (x ∷ ys))
    → ((x : T) → test x ≡ false → h (x ∷ []) ≡ h []) → (xs : List T)
    → h (take (count_to_last test xs) xs) ≡ h xs
unfolding count_to_last
same_to_last test h more idle [] = refl
same_to_last test h more idle (x ∷ xs) =
    let rest = same_to_last test h more idle xs in
    ⊎_elim
    (λ (none : eqb (count_to_last test xs) 0 ≡ true).
    let no : count_to_last test xs ≡ 0 = grind (arith, nat_tests) in
    let nothing : h [] ≡ h xs = rw no at rest in
    ⊎_elim
    (λ (yes : test x ≡ true). rw (none, yes) (more x [] xs nothing))
    (λ (passed : test x ≡ false). rw (none, passed) (sym (idle x passed) ∙ more x [] xs nothing))
    (cases_Bool (test x)))
    (λ (some : eqb (count_to_last test xs) 0 ≡ false).
    rw some (more x (take (count_to_last test xs) xs) xs rest))
    (cases_Bool (eqb (count_to_last test xs) 0))

-- ---- counted one after the other

-- an element that passes makes the count that of all up to it
pub counted : {T : Type 0} (test : T → Bool) (xs : List T) (k : ℕ) (d : T) → k < length xs
    → test (get_or xs k d) ≡ true → count_to_last test (take (k + 1) xs) ≡ k + 1
counted test xs k d inside passes =
    ap (count_to_last test) (take_more xs k d inside)
    ∙ count_to_last-append test (take k xs) (get_or xs k d)
    ∙ ap (λ (b : Bool). cond b (suc (length (take k xs))) (count_to_last test (take k xs))) passes
    ∙ omega (arith, length-take-le k xs (omega arith))

-- and one that does not leaves it
pub passed_over : {T : Type 0} (test : T → Bool) (xs : List T) (k : ℕ) (d : T) → k < length xs
    → test (get_or xs k d) ≡ false → count_to_last test (take (k + 1) xs) ≡ count_to_last test (take k xs)
passed_over test xs k d inside fails =
    ap (count_to_last test) (take_more xs k d inside)
    ∙ count_to_last-append test (take k xs) (get_or xs k d)
    ∙ ap (λ (b : Bool). cond b (suc (length (take k xs))) (count_to_last test (take k xs))) fails

-- all of them are counted
pub all_counted : {T : Type 0} (test : T → Bool) (xs : List T) (k : ℕ) → length xs ≤ k
    → count_to_last test (take k xs) ≡ count_to_last test xs
all_counted test xs k all = ap (count_to_last test) (take_all k xs all)

-- ---- FMMUs

-- of two equal answers it does not matter which is taken
cond_same : {T : Type 0} (b : Bool) (x : T) → cond b x x ≡ x
cond_same true x = refl
cond_same false x = refl

-- an FMMU that maps nothing pairs no bit
idle_pairs : (f : Fmmu) → maps_some f ≡ false → pair_count f ≡ 0
idle_pairs f idle =
    ⊎_elim
    (λ (none : eqb (pair_count f) 0 ≡ true). grind (arith, nat_tests))
    (λ (some : eqb (pair_count f) 0 ≡ false). absurd (let no : true ≡ false = sym (ap not some) ∙ idle in cc))
    (cases_Bool (eqb (pair_count f) 0))

-- it has no place for a bit that is read
read_place_none : (managers : List SyncMan) (f : Fmmu) (l : ℕ) → maps_some f ≡ false
    → read_place managers f l ≡ None
unfolding read_place
read_place_none managers f l idle =
    rw (idle_pairs f idle, partner_none (first_logical f) (first_physical f) l) (cond_same _ None)

-- none for one that is written
write_target_none : (managers : List SyncMan) (f : Fmmu) (l : ℕ) → maps_some f ≡ false
    → write_target managers f l ≡ None
unfolding write_target
write_target_none managers f l idle =
    rw (idle_pairs f idle, partner_none (first_logical f) (first_physical f) l) (cond_same _ None)

-- and takes no bit
write_place_none : (managers : List SyncMan) (f : Fmmu) (p : ℕ) → maps_some f ≡ false
    → write_place managers f p ≡ None
unfolding write_place
write_place_none managers f p idle =
    rw (idle_pairs f idle, partner_none (first_physical f) (first_logical f) p) (cond_same _ None)

-- reads find in the FMMUs up to the last that maps a bit what they find in all
pub read_map_mapped : (managers : List SyncMan) (fmmus : List Fmmu) (l : ℕ)
    → read_map managers (take (mapped_count fmmus) fmmus) l ≡ read_map managers fmmus l
unfolding read_map
read_map_mapped managers fmmus l =
    same_to_last maps_some (λ fs. read_map managers fs l)
    (λ f xs ys same. ap (λ (o : Option ℕ). later (read_place managers f l) o) same)
    (λ f idle. ap (λ (o : Option ℕ). later o None) (read_place_none managers f l idle)) fmmus

-- so do writes
target_map_mapped : (managers : List SyncMan) (fmmus : List Fmmu) (l : ℕ)
    → target_map managers (take (mapped_count fmmus) fmmus) l ≡ target_map managers fmmus l
unfolding target_map
target_map_mapped managers fmmus l =
    same_to_last maps_some (λ fs. target_map managers fs l)
    (λ f xs ys same. ap (λ (o : Option ℕ). later (write_target managers f l) o) same)
    (λ f idle. ap (λ (o : Option ℕ). later o None) (write_target_none managers f l idle)) fmmus

-- and a physical bit takes from them what it takes from all
pub write_map_mapped : (managers : List SyncMan) (fmmus : List Fmmu) (from n p : ℕ)
    → write_map managers (take (mapped_count fmmus) fmmus) from n p ≡ write_map managers fmmus from n p
unfolding write_map
write_map_mapped managers fmmus from n p =
    same_to_last maps_some (λ fs. write_map managers fs from n p)
    (λ f xs ys same. ap (λ (o : Option ℕ). later (number_within from n (write_place managers f p)) o) same)
    (λ f idle. ap (λ (o : Option ℕ). later (number_within from n o) None) (write_place_none managers f p idle))
    fmmus

-- so a read is served alike
pub reads_some_mapped : (managers : List SyncMan) (fmmus : List Fmmu) (from n : ℕ)
    → reads_some managers (take (mapped_count fmmus) fmmus) from n
    ≡ reads_some managers fmmus from n
reads_some_mapped managers fmmus from n =
    names_same
    (λ i. read_map managers (take (mapped_count fmmus) fmmus) (from + i))
    (λ i. read_map managers fmmus (from + i)) n (λ i inside. read_map_mapped managers fmmus (from + i))

-- and a write
pub writes_some_mapped : (managers : List SyncMan) (fmmus : List Fmmu) (from n : ℕ)
    → writes_some managers (take (mapped_count fmmus) fmmus) from n
    ≡ writes_some managers fmmus from n
writes_some_mapped managers fmmus from n =
    names_same
    (λ i. target_map managers (take (mapped_count fmmus) fmmus) (from + i))
    (λ i. target_map managers fmmus (from + i)) n (λ i inside. target_map_mapped managers fmmus (from + i))

-- and a byte is written alike
pub written_byte_mapped : (managers : List SyncMan) (fmmus : List Fmmu) (from n byte : ℕ)
    → names (λ b. write_map managers (take (mapped_count fmmus) fmmus) from n
    (8 * byte + b)) 8
    ≡ names (λ b. write_map managers fmmus from n (8 * byte + b)) 8
written_byte_mapped managers fmmus from n byte =
    names_same
    (λ b. write_map managers (take (mapped_count fmmus) fmmus) from n
    (8 * byte + b))
    (λ b. write_map managers fmmus from n (8 * byte + b)) 8
    (λ b inside. write_map_mapped managers fmmus from n (8 * byte + b))
