-- What is told by one name alone is all that fits.
use Rattle.std.proofs.Common.{◌≡◌, ◌⊎◌, ⊎_elim, ℕ, zero, suc, ◌+◌, ◌-◌, ◌<◌, ◌≤◌, ◌&&◌, min}
use Rattle.std.proofs.Common.{Bool, true, false, not, List, [], ◌∷◌, ◌++◌, length, get_or, filter, refl}
use Rattle.std.proofs.Common.{sym, ap, ◌∙◌, arith, inl, inr, subst}
use Rattle.std.specs.Prelude.{nat_lt}
use Rattle.std.specs.List.{count_by}
use Rattle.std.proofs.lemmas.Bool.{cases_Bool, cases_lt}
use Rattle.std.proofs.lemmas.List.Sums.{length-filter}
use Rattle.ec_esc.specs.State.{ControllerState}
use Rattle.ec_map.specs.Item.{ItemRecord}
use Rattle.ecat_judge.specs.declared.share.Missing.{Missing}
use Rattle.ecat_judge.specs.declared.share.Missing.TheVariants.{Slaves, Inputs, Outputs, Two}
use Rattle.ecat_judge.specs.declared.evidence.Evidence.{Evidence}
use Rattle.ecat_judge.specs.declared.candidates.Candidates.{Candidates}
use Rattle.ecat_judge.specs.Candidates.{AreCandidates, each_half, each_slave, neighbours, one_if, runs_from}
use Rattle.ecat_judge.specs.Evidence.{fits}
use Rattle.ecat_judge.specs.Answer.{IsTried, any_two_fit, fits_with, is_told, named, one_slave}
use Rattle.ecat_judge.specs.Answer.{whole_of}
use Rattle.ecat_judge.specs.Without.{WentWithout}
use Rattle.ecat_judge.proofs.CandidateLemmas.{half_none, half_suc, neighbour_none, neighbour_suc, run_none}
use Rattle.ecat_judge.proofs.CandidateLemmas.{run_suc, slave_none, slave_suc}
use Rattle.ecat_judge.proofs.SumLemmas.{any_at}
use Rattle.ecat_judge.proofs.WithoutLemmas.{fits_without}

-- ---- what is in a list

abbrev IsIn : Missing → List Missing → Type 0
IsIn m [] = ⊥
IsIn m (x ∷ xs) = (x ≡ m) ⊎ IsIn m xs

in_left : (m : Missing) (xs ys : List Missing) → IsIn m xs → IsIn m (xs ++ ys)
in_left m [] ys is = absurd is
in_left m (x ∷ xs) ys (inl here) = inl here
in_left m (x ∷ xs) ys (inr behind) = inr (in_left m xs ys behind)

in_right : (m : Missing) (xs ys : List Missing) → IsIn m ys → IsIn m (xs ++ ys)
in_right m [] ys is = is
in_right m (x ∷ xs) ys is = inr (in_right m xs ys is)

in_parts : (m : Missing) (xs ys : List Missing) → IsIn m (xs ++ ys) → IsIn m xs ⊎ IsIn m ys
in_parts m [] ys is = inr is
in_parts m (x ∷ xs) ys (inl here) = inl (inl here)
in_parts m (x ∷ xs) ys (inr behind) =
    ⊎_elim (λ (front : IsIn m xs). inl (inr front)) (λ (back : IsIn m ys). inr back) (in_parts m xs ys behind)

in_contained : (m : Missing) (xs : List Missing) (k : ℕ) → k < length xs → get_or xs k m ≡ m → IsIn m xs
in_contained m [] k low is = absurd (omega (arith, low))
in_contained m (x ∷ xs) zero low is = inl is
in_contained m (x ∷ xs) (suc k) low is = inr (in_contained m xs k (omega (arith, low)) is)

in_filter : (test : Missing → Bool) (m : Missing) (xs : List Missing) → IsIn m xs → test m ≡ true
    → IsIn m (filter test xs)
in_filter test m [] is passes = absurd is
in_filter test m (x ∷ xs) (inl here) passes = rw (ap test here ∙ passes) (inl here)
in_filter test m (x ∷ xs) (inr behind) passes =
    ⊎_elim
    (λ (yes : test x ≡ true). rw yes (inr (in_filter test m xs behind passes)))
    (λ (no : test x ≡ false). rw no (in_filter test m xs behind passes))
    (cases_Bool (test x))

in_one : (m name : Missing) → IsIn m (name ∷ []) → m ≡ name
in_one m name (inl here) = sym here
in_one m name (inr none) = absurd none

-- what passes, where one passes alone
one_passes : (test : Missing → Bool) (m name : Missing) (xs : List Missing) → IsIn m xs → test m ≡ true
    → filter test xs ≡ name ∷ [] → m ≡ name
one_passes test m name xs is passes one =
    in_one m name (subst (λ ys. IsIn m ys) one (in_filter test m xs is passes))

-- as many are counted as are left
pub one_counted : (test : Missing → Bool) (name : Missing) (xs : List Missing)
    → filter test xs ≡ name ∷ [] → count_by test xs ≡ 1
one_counted test name xs one = sym (length-filter test xs) ∙ ap length one

-- ---- what is tried

-- a half is one of a slave below n
abbrev IsBelow : ℕ → Missing → Type 0
IsBelow n (Slaves from to) = Unit {0}
IsBelow n (Inputs slave) = slave < n
IsBelow n (Outputs slave) = slave < n
IsBelow n (Two one other) = Unit {0}

below_one_if : (n : ℕ) (m : Missing) (from to : ℕ) (may : Bool) → IsIn m (one_if may (Slaves from to))
    → IsBelow n m
below_one_if n m from to true (inl here) = subst (λ x. IsBelow n x) here tt
below_one_if n m from to true (inr none) = absurd none
below_one_if n m from to false is = absurd is

below_slaves : (n count : ℕ) (m : Missing) → IsIn m (each_slave count) → IsBelow n m
below_slaves n zero m is = absurd (subst (λ xs. IsIn m xs) slave_none is)
below_slaves n (suc count) m is =
    ⊎_elim (below_slaves n count m) (below_one_if n m count (count + 1) true)
    (in_parts m (each_slave count) (one_if true (Slaves count (count + 1)))
    (subst (λ xs. IsIn m xs) (slave_suc count) is))

below_runs : (n from to : ℕ) (any : Bool) (m : Missing) → IsIn m (runs_from any from to) → IsBelow n m
below_runs n from zero any m is = absurd (subst (λ xs. IsIn m xs) (run_none any from) is)
below_runs n from (suc to) any m is =
    ⊎_elim (below_runs n from to any m) (below_one_if n m from to (any && nat_lt (from + 1) to))
    (in_parts m (runs_from any from to) (one_if (any && nat_lt (from + 1) to) (Slaves from to))
    (subst (λ xs. IsIn m xs) (run_suc any from to) is))

below_neighbours : (n count from : ℕ) (any : Bool) (m : Missing) → IsIn m (neighbours any count from)
    → IsBelow n m
below_neighbours n count zero any m is = absurd (subst (λ xs. IsIn m xs) (neighbour_none any count) is)
below_neighbours n count (suc from) any m is =
    ⊎_elim
    (λ (front : IsIn m (neighbours any count from ++ runs_from any from count)).
    ⊎_elim (below_neighbours n count from any m) (below_runs n from count any m)
    (in_parts m (neighbours any count from) (runs_from any from count) front))
    (below_one_if n m from count (nat_lt (from + 1) count))
    (in_parts m (neighbours any count from ++ runs_from any from count)
    (one_if (nat_lt (from + 1) count) (Slaves from count))
    (subst (λ xs. IsIn m xs) (neighbour_suc any count from) is))

wider : (n : ℕ) (m : Missing) → IsBelow n m → IsBelow (suc n) m
wider n (Slaves from to) is = tt
wider n (Inputs slave) is = omega (arith, is)
wider n (Outputs slave) is = omega (arith, is)
wider n (Two one other) is = tt

last_inputs : (n : ℕ) (m : Missing) → IsIn m (one_if true (Inputs n)) → IsBelow (suc n) m
last_inputs n m (inl here) = subst (λ x. IsBelow (suc n) x) here (omega arith)
last_inputs n m (inr none) = absurd none

last_outputs : (n : ℕ) (m : Missing) → IsIn m (one_if true (Outputs n)) → IsBelow (suc n) m
last_outputs n m (inl here) = subst (λ x. IsBelow (suc n) x) here (omega arith)
last_outputs n m (inr none) = absurd none

below_halves : (n : ℕ) (m : Missing) → IsIn m (each_half n) → IsBelow n m
below_halves zero m is = absurd (subst (λ xs. IsIn m xs) half_none is)
below_halves (suc n) m is =
    ⊎_elim
    (λ (front : IsIn m (each_half n ++ one_if true (Inputs n))).
    ⊎_elim (λ (before : IsIn m (each_half n)). wider n m (below_halves n m before)) (last_inputs n m)
    (in_parts m (each_half n) (one_if true (Inputs n)) front))
    (last_outputs n m)
    (in_parts m (each_half n ++ one_if true (Inputs n)) (one_if true (Outputs n))
    (subst (λ xs. IsIn m xs) (half_suc n) is))

-- each slave below n is tried
slave_in : (n k : ℕ) → k < n → IsIn (Slaves k (k + 1)) (each_slave n)
slave_in zero k low = absurd (omega (arith, low))
slave_in (suc n) k low =
    subst (λ xs. IsIn (Slaves k (k + 1)) xs) (sym (slave_suc n))
    (⊎_elim
    (λ (less : k < n). in_left (Slaves k (k + 1)) (each_slave n) (one_if true (Slaves n (n + 1)))
    (slave_in n k less))
    (λ (more : n ≤ k).
    let e : n ≡ k = omega (arith, low, more) in
    in_right (Slaves k (k + 1)) (each_slave n) (one_if true (Slaves n (n + 1)))
    (inl (ap (λ x. Slaves x (x + 1)) e)))
    (cases_lt k n))

module _ (c : Candidates) (count : ℕ) (two : Bool) (are : AreCandidates c count two)
    (few : count < 65536) where
  slave_named : (k : ℕ) → k < count → IsIn (one_slave k) (named c)
  slave_named k low =
      let small : min (k + 1) 18446744073709551615 ≡ k + 1 = omega (arith, low, few) in
      in_left (one_slave k) (c.slaves.items ++ c.neighbours.items) c.halves.items
      (in_left (one_slave k) c.slaves.items c.neighbours.items
      (subst (λ xs. IsIn (one_slave k) xs) (sym are.slaves)
      (subst (λ x. IsIn (Slaves k x) (each_slave count)) (sym small) (slave_in count k low))))

  named_below : (m : Missing) → IsIn m (named c) → IsBelow count m
  named_below m is =
      ⊎_elim
      (λ (whole : IsIn m (c.slaves.items ++ c.neighbours.items)).
      ⊎_elim
      (λ (one : IsIn m c.slaves.items).
      below_slaves count count m (subst (λ xs. IsIn m xs) are.slaves one))
      (λ (run : IsIn m c.neighbours.items).
      below_neighbours count count count two m (subst (λ xs. IsIn m xs) are.neighbours run))
      (in_parts m c.slaves.items c.neighbours.items whole))
      (λ (half : IsIn m c.halves.items).
      below_halves count m (subst (λ xs. IsIn m xs) are.halves half))
      (in_parts m (c.slaves.items ++ c.neighbours.items) c.halves.items is)

  -- a half that fits is told, or its slave is
  half_told : (e : Evidence) (name half : Missing) (k : ℕ) → k < count → IsIn half (named c)
      → fits half e ≡ true → is_told e half ≡ (fits half e && not (fits (one_slave k) e))
      → filter (is_told e) (named c) ≡ name ∷ [] → (half ≡ name) ⊎ (one_slave k ≡ name)
  half_told e name half k low is fit rule one =
      ⊎_elim
      (λ (both : fits (one_slave k) e ≡ true).
      inr (one_passes (is_told e) (one_slave k) name (named c) (slave_named k low) both one))
      (λ (alone : fits (one_slave k) e ≡ false).
      inl (one_passes (is_told e) half name (named c) is
      (rule ∙ ap (λ b. b && not (fits (one_slave k) e)) fit ∙ ap not alone) one))
      (cases_Bool (fits (one_slave k) e))

  named_told : (e : Evidence) (name m : Missing) → IsIn m (named c) → fits m e ≡ true
      → filter (is_told e) (named c) ≡ name ∷ [] → (m ≡ name) ⊎ (whole_of m ≡ name)
  named_told e name (Slaves from to) is fit one =
      inl (one_passes (is_told e) (Slaves from to) name (named c) is fit one)
  named_told e name (Inputs slave) is fit one =
      half_told e name (Inputs slave) slave (named_below (Inputs slave) is) is fit refl one
  named_told e name (Outputs slave) is fit one =
      half_told e name (Outputs slave) slave (named_below (Outputs slave) is) is fit refl one
  named_told e name (Two here there) is fit one =
      inl (one_passes (is_told e) (Two here there) name (named c) is fit one)

-- two slaves that fit are found
two_found : (e : Evidence) (count one other : ℕ) → one + 1 < other → other < count
    → fits (Two one other) e ≡ true → any_two_fit e count ≡ true
two_found e count one other apart low fit =
    any_at (fits_with e) other count low
    (any_at (λ x. fits (Two x other) e) one (other - 1) (omega (arith, apart)) fit)

-- where one name is told alone, and no more may be missing, what fits is it or a half of it
pub one_alone : (e : Evidence) (c : Candidates) (count : ℕ) (two : Bool) (name m : Missing)
    → AreCandidates c count two → count < 65536 → filter (is_told e) (named c) ≡ name ∷ []
    → any_two_fit e count ≡ false → IsTried c count m → fits m e ≡ true → (m ≡ name) ⊎ (whole_of m ≡ name)
one_alone e c count two name m are few one none (inl (k, low, is)) fit =
    named_told c count two are few e name m (in_contained m (named c) k low is) fit one
one_alone e c count two name m are few one none (inr apart) fit =
    let found : any_two_fit e count ≡ true =
    two_found e count apart.one apart.other apart.apart apart.inside
    (ap (λ x. fits x e) (sym apart.are) ∙ fit) in
    let both : true ≡ false = sym found ∙ none in
    absurd (cc)

-- so it is what trips lacked that passed the line without it
pub alone_without : (line : List ControllerState) (items : ℕ → ItemRecord) (missing name : Missing)
    (e : Evidence) (c : Candidates) (two : Bool)
    → WentWithout line items missing e → AreCandidates c (length line) two → IsTried c (length line) missing
    → filter (is_told e) (named c) ≡ name ∷ [] → any_two_fit e (length line) ≡ false
    → (missing ≡ name) ⊎ (whole_of missing ≡ name)
alone_without line items missing name e c two went are tried one none =
    let size = went.size in
    one_alone e c (length line) two name missing are (omega (arith, size)) one none tried
    (fits_without line items missing e went)
