-- A tally of some datagrams becomes that of one more once this is counted.
use Rattle.std.proofs.Common.{◌≡◌, ℕ, ◌+◌, ◌<◌, min, Bool, true, false, cond, not, ◌||◌, eqb}
use Rattle.std.proofs.Common.{◌≤◌, List, [], ◌∷◌, ◌++◌, map, length, take, drop, set, get_or, count_by, find}
use Rattle.std.proofs.Common.{Option, Some, None, refl, sym, ap, subst, ◌∙◌, arith}
use Rattle.std.specs.List.{AllByRecursion, list_any, refill}
use Rattle.std.specs.Option.{option_map, option_or}
use Rattle.std.specs.Io.Iter.{u64_saturate}
use Rattle.std.proofs.lemmas.Bool.Decides.{nat_tests}
use Rattle.std.proofs.lemmas.List.Sums.{sum_by-append, sum_by-cons}
use Rattle.std.proofs.lemmas.List.{take_at, length-map, length-take, length-take-le, append_assoc, drop_more}
use Rattle.std.proofs.lemmas.List.{get_or_at, set_at, map_more, map-append, length_push, take-append-drop}
use Rattle.std.proofs.lemmas.List.{take-append-le, take_all}
use Rattle.std.proofs.lemmas.List.Folds.{find-append, list_any-append}
use Rattle.ecat_list.specs.Counts.{TallyRecord}
use Rattle.ecat_list.specs.Tally.{IsCounted, IsTally, came_with, counters_behind, counters_of, counts_again}
use Rattle.ecat_list.specs.Tally.{has_counter, is_other, with_counter}
use Rattle.ecat_list.specs.declared.counters.Came.{Came}
use Rattle.ecat_list.specs.declared.counters.Place.{Place}
use Rattle.ecat_list.specs.declared.counters.Count.{Count}
use Rattle.ecat_list.specs.declared.counters.TheConstants.{MAX_COUNTERS}

-- ---- going through a list

-- one element more of a list whose first elements are mapped: its own image is written at its place
pub set_mapped : {X : Type 0} (f : X → X) (es ms : List X) (i : ℕ) (d : X) → i < length es
    → ms ≡ map f (take i es) ++ drop i es
    → set ms i (f (get_or ms i d)) ≡ map f (take (i + 1) es) ++ drop (i + 1) es
set_mapped {X} f es ms i d inside so_far =
    let e : X = get_or es i d in
    let front : length (map f (take i es)) ≡ i =
    length-map (take i es) f ∙ length-take-le i es (omega arith) in
    let split : ms ≡ map f (take i es) ++ e ∷ drop (i + 1) es =
    so_far ∙ ap (λ xs. map f (take i es) ++ xs) (drop_more es i d inside) in
    let here : get_or ms i d ≡ e =
    ap (λ xs. get_or xs i d) split ∙ get_or_at (map f (take i es)) e (drop (i + 1) es) d i front in
    let written : set ms i (f e) ≡ map f (take i es) ++ f e ∷ drop (i + 1) es =
    ap (λ xs. set xs i (f e)) split ∙ set_at (map f (take i es)) e (drop (i + 1) es) (f e) i front in
    let one_more : map f (take (i + 1) es) ≡ map f (take i es) ++ f e ∷ [] = map_more f es i d inside in
    let joined : map f (take (i + 1) es) ++ drop (i + 1) es ≡ map f (take i es) ++ f e ∷ drop (i + 1) es =
    ap (λ xs. xs ++ drop (i + 1) es) one_more
    ∙ append_assoc (map f (take i es)) (f e ∷ []) (drop (i + 1) es) in
    ap (λ x. set ms i (f x)) here ∙ written ∙ sym joined

-- a list that is refilled by mapped elements of its own is the mapped list
pub refill-map : {X : Type 0} (f : X → X) (es : List X) → refill (length es) es (map f es) ≡ map f es
refill-map f es = take_at (map f es) (drop (length (map f es)) es) (length es) (length-map es f)

-- ---- counting one more

-- a count of one more is one more where the test holds of it
pub count_push : {X : Type 0} (p : X → Bool) (xs : List X) (x : X)
    → count_by p (xs ++ x ∷ []) ≡ count_by p xs + cond (p x) 1 0
count_push p xs x = sum_by-append (λ y. cond (p y) 1 0) xs (x ∷ []) ∙ omega arith

-- of a list that is not empty
pub count_cons : {X : Type 0} (p : X → Bool) (x : X) (xs : List X)
    → count_by p (x ∷ xs) ≡ cond (p x) 1 0 + count_by p xs
count_cons p x xs = sum_by-cons (λ y. cond (p y) 1 0) x xs

-- tests that agree count alike
pub count_alike : {X : Type 0} (p q : X → Bool) → ((x : X) → p x ≡ q x) → (xs : List X)
    → count_by p xs ≡ count_by q xs
count_alike p q same [] = refl
count_alike p q same (x ∷ xs) =
    count_cons p x xs ∙ ap (λ b. cond b 1 0 + count_by p xs) (same x)
    ∙ ap (λ n. cond (q x) 1 0 + n) (count_alike p q same xs) ∙ sym (count_cons q x xs)

-- equality of numbers by test is symmetric
eqb_comm : (x y : ℕ) → eqb x y ≡ eqb y x
eqb_comm x y = grind (arith, nat_tests)

-- what stops at the greatest number stops there too when it counts on
pub saturated_more : (n : ℕ) → u64_saturate (u64_saturate n + 1) ≡ u64_saturate (n + 1)
saturated_more n = grind arith

-- ---- one counter

-- the first datagram that came with a counter stays the first
first_stays : (found more : Option Came) (n : Place) → option_map (λ (x : Came). x.at) found ≡ Some n
    → option_map (λ (x : Came). x.at) (option_or found more) ≡ Some n
first_stays None more n h = absurd (cc)
first_stays (Some x) more n h = h

-- a counter that comes again is counted once more
comes_again : (all : List Came) (p : Came) (c : Count) → IsCounted all c → eqb c.counter p.counter ≡ true
    → IsCounted (all ++ p ∷ []) (record c { times = u64_saturate (c.times + 1) })
comes_again all p c h same =
    record {
      times =
          ap (λ n. u64_saturate (n + 1)) h.times ∙ saturated_more _
          ∙ sym (ap u64_saturate (count_push (came_with c.counter) all p
          ∙ ap (λ b. count_by (came_with c.counter) all + cond b 1 0) (eqb_comm p.counter c.counter ∙ same)));
      first = ap (option_map (λ (x : Came). x.at)) (find-append (came_with c.counter) all (p ∷ []))
          ∙ first_stays (find (came_with c.counter) all) _ c.first h.first;
    }

-- another one stays as it is
comes_not : (all : List Came) (p : Came) (c : Count) → IsCounted all c → eqb c.counter p.counter ≡ false
    → IsCounted (all ++ p ∷ []) c
comes_not all p c h other =
    record {
      times =
          h.times
          ∙ sym (ap u64_saturate (count_push (came_with c.counter) all p
          ∙ ap (λ b. count_by (came_with c.counter) all + cond b 1 0) (eqb_comm p.counter c.counter ∙ other)
          ∙ omega arith));
      first = ap (option_map (λ (x : Came). x.at)) (find-append (came_with c.counter) all (p ∷ []))
          ∙ first_stays (find (came_with c.counter) all) _ c.first h.first;
    }

-- ---- all counters

-- each is counted of one more, once those that it came with are counted again
pub counted_again : (all : List Came) (p : Came) (told : List Count) → AllByRecursion (IsCounted all) told
    → AllByRecursion (IsCounted (all ++ p ∷ [])) (map (counts_again p.counter) told)
counted_again all p [] h = h
counted_again all p (c ∷ cs) h = (by (eqb c.counter p.counter) refl, counted_again all p cs h.1)
  where
    by : (b : Bool) → eqb c.counter p.counter ≡ b
        → IsCounted (all ++ p ∷ []) (cond b (record c { times = u64_saturate (c.times + 1) }) c)
    by true e = comes_again all p c h.0 e
    by false e = comes_not all p c h.0 e

-- each is counted of one more whose counter is none of them
pub counted_without : (all : List Came) (p : Came) (told : List Count) → AllByRecursion (IsCounted all) told
    → list_any (has_counter p.counter) told ≡ false → AllByRecursion (IsCounted (all ++ p ∷ [])) told
counted_without all p [] h none = h
counted_without all p (c ∷ cs) h none =
    let parts = neither (eqb c.counter p.counter) (list_any (has_counter p.counter) cs) none in
    (comes_not all p c h.0 parts.0, counted_without all p cs h.1 parts.1)
  where
    neither : (x y : Bool) → (x || y) ≡ false → (x ≡ false) × (y ≡ false)
    neither true y e = absurd (cc)
    neither false y e = (refl, e)

-- counting again leaves which counters are told apart
pub told_again : (k n : ℕ) (told : List Count)
    → list_any (has_counter n) (map (counts_again k) told) ≡ list_any (has_counter n) told
told_again k n [] = refl
told_again k n (c ∷ cs) =
    ap (λ b. b || list_any (has_counter n) (map (counts_again k) cs)) (by (eqb c.counter k))
    ∙ ap (λ b. eqb c.counter n || b) (told_again k n cs)
  where
    by : (b : Bool) → eqb (cond b (record c { times = u64_saturate (c.times + 1) }) c).counter n ≡ eqb c.counter n
    by true = refl
    by false = refl

-- so as many datagrams are of other counters
pub others_again : (k : ℕ) (told : List Count) (all : List Came)
    → count_by (is_other (map (counts_again k) told)) all ≡ count_by (is_other told) all
others_again k told all =
    count_alike (is_other (map (counts_again k) told)) (is_other told)
    (λ x. ap not (told_again k x.counter told)) all

-- ---- a counter that is new

-- where no datagram is of another counter, none came with a counter that is not told apart
pub nobody : (told : List Count) (k : ℕ) (all : List Came) → count_by (is_other told) all ≡ 0
    → list_any (has_counter k) told ≡ false
    → (count_by (came_with k) all ≡ 0) × (find (came_with k) all ≡ None)
nobody told k [] none free = (refl, refl)
nobody told k (x ∷ xs) none free =
    by (eqb x.counter k) refl (nobody told k xs (omega (arith, split)) free)
  where
    split : cond (is_other told x) 1 0 + count_by (is_other told) xs ≡ 0
    split = sym (count_cons (is_other told) x xs) ∙ none

    other : x.counter ≡ k → is_other told x ≡ true
    other e = ap (λ n. not (list_any (has_counter n) told)) e ∙ ap not free

    by : (b : Bool) → eqb x.counter k ≡ b
        → (count_by (came_with k) xs ≡ 0) × (find (came_with k) xs ≡ None)
        → (count_by (came_with k) (x ∷ xs) ≡ 0) × (find (came_with k) (x ∷ xs) ≡ None)
    by true e more =
        let same : x.counter ≡ k = grind (arith, nat_tests, e) in
        absurd (omega (arith, split, ap {B = ℕ} (λ b. cond b 1 0) (other same)))
    by false e more = (
      count_cons (came_with k) x xs ∙ ap (λ b. cond b 1 0 + count_by (came_with k) xs) e
          ∙ omega (arith, more.0),
      ap (λ b. cond b (Some x) (find (came_with k) xs)) e ∙ more.1,
    )

-- nor is any of another counter than those and one more
pub others_fewer : (told : List Count) (c : Count) (all : List Came) → count_by (is_other told) all ≡ 0
    → count_by (is_other (told ++ c ∷ [])) all ≡ 0
others_fewer told c [] none = refl
others_fewer told c (x ∷ xs) none =
    count_cons (is_other (told ++ c ∷ [])) x xs
    ∙ omega (arith, fewer, others_fewer told c xs (omega (arith, split)), split)
  where
    split : cond (is_other told x) 1 0 + count_by (is_other told) xs ≡ 0
    split = sym (count_cons (is_other told) x xs) ∙ none

    less : (a b : Bool) → cond (not (a || b)) 1 0 ≤ cond (not a) 1 0
    less true b = omega arith
    less false true = omega arith
    less false false = omega arith

    fewer : cond (is_other (told ++ c ∷ []) x) 1 0 ≤ cond (is_other told x) 1 0
    fewer = subst (λ b. cond (not b) 1 0 ≤ cond (is_other told x) 1 0)
        (sym (list_any-append (has_counter x.counter) told (c ∷ []))) (less _ _)

-- each of those and a new one is counted of one more that came with it
pub counted_new : (all : List Came) (p : Came) (told : List Count) → AllByRecursion (IsCounted all) told
    → list_any (has_counter p.counter) told ≡ false → count_by (is_other told) all ≡ 0
    → AllByRecursion (IsCounted (all ++ p ∷ []))
    (told ++ record { counter = p.counter; times = 1; first = p.at } ∷ [])
counted_new all p told h free none =
    pushed told (counted_without all p told h free)
  where
    absent : (count_by (came_with p.counter) all ≡ 0) × (find (came_with p.counter) all ≡ None)
    absent = nobody told p.counter all none free

    itself : eqb p.counter p.counter ≡ true
    itself = grind (arith, nat_tests)

    new : IsCounted (all ++ p ∷ []) (record { counter = p.counter; times = 1; first = p.at })
    new = record {
      times = sym (ap u64_saturate (count_push (came_with p.counter) all p
          ∙ ap (λ n. n + cond (eqb p.counter p.counter) 1 0) absent.0
          ∙ ap (λ b. 0 + cond b 1 0) itself));
      first = ap (option_map (λ (x : Came). x.at)) (find-append (came_with p.counter) all (p ∷ [])
          ∙ ap (λ o. option_or o (find (came_with p.counter) (p ∷ []))) absent.1
          ∙ ap (λ b. cond b (Some p) None) itself);
    }

    pushed : (cs : List Count) → AllByRecursion (IsCounted (all ++ p ∷ [])) cs
        → AllByRecursion (IsCounted (all ++ p ∷ []))
        (cs ++ record { counter = p.counter; times = 1; first = p.at } ∷ [])
    pushed [] g = (new, g)
    pushed (c ∷ cs) g = (g.0, pushed cs g.1)

-- ---- the counters in their order

-- the number of what is counted
abbrev number_of : Count → ℕ
number_of c = c.counter

-- counters of one datagram more
counters_push : (known : List ℕ) (xs : List Came) (p : Came)
    → counters_behind known (xs ++ p ∷ []) ≡ with_counter (counters_behind known xs) p.counter
counters_push known [] p = refl
counters_push known (x ∷ xs) p = counters_push (with_counter known x.counter) xs p

-- what is told apart has a counter where its number is among the numbers
told_numbers : (k : ℕ) (told : List Count)
    → list_any (λ c. eqb c k) (map number_of told) ≡ list_any (has_counter k) told
told_numbers k [] = refl
told_numbers k (c ∷ cs) = ap (λ b. eqb c.counter k || b) (told_numbers k cs)

-- what is among the first of some is among them
any_of_first : {X : Type 0} (p : X → Bool) (n : ℕ) (xs : List X) → list_any p (take n xs) ≡ true
    → list_any p xs ≡ true
any_of_first p n xs is =
    ap (list_any p) (sym (take-append-drop n xs)) ∙ list_any-append p (take n xs) (drop n xs)
    ∙ ap (λ b. b || list_any p (drop n xs)) is

-- counting again leaves the numbers
numbers_again : (k : ℕ) (told : List Count) → map number_of (map (counts_again k) told) ≡ map number_of told
numbers_again k [] = refl
numbers_again k (c ∷ cs) =
    ap (λ n. n ∷ map number_of (map (counts_again k) cs)) (by (eqb c.counter k))
    ∙ ap (λ ns. c.counter ∷ ns) (numbers_again k cs)
  where
    by : (b : Bool) → number_of (cond b (record c { times = u64_saturate (c.times + 1) }) c) ≡ c.counter
    by true = refl
    by false = refl

-- ---- the whole tally

module _ (all : List Came) (p : Came) (t : TallyRecord) (h : IsTally all t) where
  -- whether one more datagram is of another counter
  other_push : (told : List Count)
      → count_by (is_other told) (all ++ p ∷ [])
      ≡ count_by (is_other told) all + cond (not (list_any (has_counter p.counter) told)) 1 0
  other_push told = count_push (is_other told) all p

  -- there is one more
  one_more : u64_saturate (t.times + 1) ≡ u64_saturate (length (all ++ p ∷ []))
  one_more = ap (λ n. u64_saturate (n + 1)) h.times ∙ saturated_more (length all)
      ∙ ap u64_saturate (sym (length_push all p))

  -- is a number that of the datagram
  abbrev is_its : ℕ → Bool
  is_its c = eqb c p.counter

  counters_more : counters_of (all ++ p ∷ []) ≡ with_counter (counters_of all) p.counter
  counters_more = counters_push [] all p

  as_many : length t.told ≡ min MAX_COUNTERS (length (counters_of all))
  as_many = sym (length-map t.told number_of) ∙ ap length h.order ∙ length-take MAX_COUNTERS (counters_of all)

  -- a counter that is told apart came again
  pub tally_again : list_any (has_counter p.counter) t.told ≡ true
      → IsTally (all ++ p ∷ []) (record {
        told = map (counts_again p.counter) t.told;
        others = t.others;
        times = u64_saturate (t.times + 1);
      })
  tally_again is =
      record {
        order = numbers_again p.counter t.told ∙ h.order
            ∙ sym (ap (take MAX_COUNTERS) (counters_more
            ∙ ap (λ b. cond b (counters_of all) (counters_of all ++ p.counter ∷ [])) known));
        told = counted_again all p t.told h.told;
        others = h.others ∙ sym (ap u64_saturate (as_before));
        first_eight = λ less. as_before ∙ h.first_eight
            (subst (λ n. n < MAX_COUNTERS) (length-map t.told (counts_again p.counter)) less);
        times = one_more;
      }
    where
      known : list_any is_its (counters_of all) ≡ true
      known = any_of_first is_its MAX_COUNTERS (counters_of all)
          (ap (list_any is_its) (sym h.order) ∙ told_numbers p.counter t.told ∙ is)

      as_before : count_by (is_other (map (counts_again p.counter) t.told)) (all ++ p ∷ [])
          ≡ count_by (is_other t.told) all
      as_before =
          others_again p.counter t.told (all ++ p ∷ []) ∙ other_push t.told
          ∙ ap (λ b. count_by (is_other t.told) all + cond (not b) 1 0) is ∙ omega arith

  -- another one than those told apart came, of which there are eight
  pub tally_others : list_any (has_counter p.counter) t.told ≡ false → MAX_COUNTERS ≤ length t.told
      → IsTally (all ++ p ∷ []) (record {
        told = t.told;
        others = u64_saturate (t.others + 1);
        times = u64_saturate (t.times + 1);
      })
  tally_others isnt full =
      record {
        order = h.order ∙ sym (ap (take MAX_COUNTERS) counters_more
            ∙ first_stay (list_any is_its (counters_of all)));
        told = counted_without all p t.told h.told isnt;
        others = ap (λ n. u64_saturate (n + 1)) h.others ∙ saturated_more _
            ∙ sym (ap u64_saturate (other_push t.told
            ∙ ap (λ b. count_by (is_other t.told) all + cond (not b) 1 0) isnt));
        first_eight = λ less. absurd (omega (arith, full, less));
        times = one_more;
      }
    where
      long : MAX_COUNTERS ≤ length (counters_of all)
      long = omega (arith, full, as_many)

      first_stay : (b : Bool)
          → take MAX_COUNTERS (cond b (counters_of all) (counters_of all ++ p.counter ∷ []))
          ≡ take MAX_COUNTERS (counters_of all)
      first_stay true = refl
      first_stay false = take-append-le MAX_COUNTERS (counters_of all) (p.counter ∷ []) long

  -- a counter came that is told apart from now on
  pub tally_new : list_any (has_counter p.counter) t.told ≡ false → length t.told < MAX_COUNTERS
      → IsTally (all ++ p ∷ []) (record {
        told = t.told ++ record { counter = p.counter; times = 1; first = p.at } ∷ [];
        others = t.others;
        times = u64_saturate (t.times + 1);
      })
  tally_new isnt less =
      record {
        order = map-append number_of t.told (new ∷ [])
            ∙ ap (λ xs. xs ++ p.counter ∷ []) (h.order ∙ whole)
            ∙ sym (ap (take MAX_COUNTERS) (counters_more
            ∙ ap (λ b. cond b (counters_of all) (counters_of all ++ p.counter ∷ [])) unknown) ∙ longer);
        told = counted_new all p t.told h.told isnt none;
        others = h.others ∙ ap u64_saturate (none ∙ sym still);
        first_eight = λ lesser. still;
        times = one_more;
      }
    where
      new : Count
      new = record { counter = p.counter; times = 1; first = p.at }

      short : length (counters_of all) < MAX_COUNTERS
      short = omega (arith, less, as_many)

      whole : take MAX_COUNTERS (counters_of all) ≡ counters_of all
      whole = take_all MAX_COUNTERS (counters_of all) (omega (arith, short))

      longer : take MAX_COUNTERS (counters_of all ++ p.counter ∷ []) ≡ counters_of all ++ p.counter ∷ []
      longer = take_all MAX_COUNTERS (counters_of all ++ p.counter ∷ [])
          (omega (arith, short, length_push (counters_of all) p.counter))

      unknown : list_any is_its (counters_of all) ≡ false
      unknown = ap (list_any is_its) (sym (h.order ∙ whole)) ∙ told_numbers p.counter t.told ∙ isnt

      none : count_by (is_other t.told) all ≡ 0
      none = h.first_eight less

      itself : eqb p.counter p.counter ≡ true
      itself = grind (arith, nat_tests)

      is_told : list_any (has_counter p.counter) (t.told ++ new ∷ []) ≡ true
      is_told = list_any-append (has_counter p.counter) t.told (new ∷ [])
          ∙ ap (λ b. b || (eqb p.counter p.counter || false)) isnt ∙ ap (λ b. b || false) itself

      still : count_by (is_other (t.told ++ new ∷ [])) (all ++ p ∷ []) ≡ 0
      still = other_push (t.told ++ new ∷ [])
          ∙ ap (λ b. count_by (is_other (t.told ++ new ∷ [])) all + cond (not b) 1 0) is_told
          ∙ ap (λ n. n + 0) (others_fewer t.told new all none)
