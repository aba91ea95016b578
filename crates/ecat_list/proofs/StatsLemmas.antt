-- What is told of some datagrams becomes what is told of one more once this is taken.
use Rattle.std.proofs.Common.{◌≡◌, ℕ, ◌+◌, ◌<◌, ◌≤◌, Bool, true, false, cond, ◌&&◌, eqb, filter, is_none}
use Rattle.std.proofs.Common.{List, [], ◌∷◌, ◌++◌, map, count_by, Option, Some, None}
use Rattle.std.proofs.Common.{refl, sym, ap, subst, ◌∙◌, arith}
use Rattle.std.specs.Io.Iter.{u64_saturate}
use Rattle.std.specs.List.{slice_get}
use Rattle.std.specs.Cmp.{IsEquivalence}
use Rattle.std.proofs.lemmas.Bool.{and_parts}
use Rattle.std.proofs.lemmas.Bool.Decides.{nat_tests}
use Rattle.std.proofs.lemmas.List.{append-nil, map-append}
use Rattle.std.proofs.lemmas.List.Elements.{filter-append}
use Rattle.std.proofs.lemmas.Map.Made.{lookup_key_passes}
use Rattle.indexmap.specs.IndexMap.{get_key_by, index_map_len}
use Rattle.ecat_list.specs.Stats.{IsAt, IsGroup, IsStatsOf, counted_at, datagrams_of, group_of, is_left_out}
use Rattle.ecat_list.specs.Stats.{same_key, with_passed}
use Rattle.ecat_list.specs.declared.group.Group.{Group}
use Rattle.ecat_list.specs.declared.passed.Key.{Key}
use Rattle.ecat_list.specs.declared.passed.Passed.{Passed}
use Rattle.ecat_list.specs.declared.passed.What.{What}
use Rattle.ecat_list.specs.declared.stats.TheConstants.{MAX_GROUPS}
use Rattle.ecat_list.specs.declared.stats.Stats.{Stats}
use Rattle.ecat_list.specs.declared.counters.Came.{Came}
use Rattle.ecat_list.proofs.TallyLemmas as tallies

-- ---- keys

-- numbers that are equal by test are equal
same_number : (a b : ℕ) → eqb a b ≡ true → a ≡ b
same_number a b e = grind (arith, nat_tests, e)

-- keys that are the same in each part are one key
key_is : (a b : Key) → same_key a b ≡ true → a ≡ b
key_is a b e =
    let index = eqb a.index b.index in
    let length = eqb a.length b.length in
    let address = eqb a.address b.address in
    let code = and_parts (eqb a.code b.code) (address && (length && index)) e in
    let rest = and_parts address (length && index) code.1 in
    let last = and_parts length index rest.1 in
    λ i. record {
      code = same_number a.code b.code code.0 i;
      address = same_number a.address b.address rest.0 i;
      length = same_number a.length b.length last.0 i;
      index = same_number a.index b.index last.1 i;
    }

-- a key is the same as itself
key_itself : (a : Key) → same_key a a ≡ true
key_itself a =
    rw (itself a.code, itself a.address, itself a.length, itself a.index) refl
  where
    itself : (n : ℕ) → eqb n n ≡ true
    itself n = grind (arith, nat_tests)

-- to be the same key is an equivalence
pub key_laws : IsEquivalence same_key
key_laws = record {
  refl = key_itself;
  symm = turned;
  congr = λ x y z e. ap (λ k. same_key k z) (key_is x y e);
}
  where
    of_equal : (x y : Key) → x ≡ y → same_key x y ≡ same_key y x
    of_equal x y p = ap (λ k. same_key k y) p ∙ ap (λ k. same_key y k) (sym p)

    turned : (x y : Key) → same_key x y ≡ same_key y x
    turned x y = by (same_key x y) refl (same_key y x) refl
      where
        by : (b : Bool) → same_key x y ≡ b → (d : Bool) → same_key y x ≡ d → same_key x y ≡ same_key y x
        by true e d f = of_equal x y (key_is x y e)
        by false e true f = of_equal x y (sym (key_is y x f))
        by false e false f = e ∙ sym f

-- ---- the datagrams of a key

module _ (all : List Passed) (p : Passed) (key : Key) where
  abbrev of_key : (What → Bool) → Passed → Bool
  of_key is x = same_key x.key key && is x.seen.what

  split : (is : What → Bool) → datagrams_of key (all ++ p ∷ []) is
      ≡ datagrams_of key all is ++ map counted_at (filter (of_key is) (p ∷ []))
  split is = ap (map counted_at) (filter-append (of_key is) all (p ∷ []))
      ∙ map-append counted_at (filter (of_key is) all) (filter (of_key is) (p ∷ []))

  -- one more of them
  datagrams_more : same_key p.key key ≡ true
      → datagrams_of key (all ++ p ∷ []) ≡ with_passed p (datagrams_of key all)
  datagrams_more same = λ i is. more is i
    where
      by : (xs : List Came) (b : Bool)
          → xs ++ map counted_at (cond b (p ∷ []) []) ≡ cond b (xs ++ counted_at p ∷ []) xs
      by xs true = refl
      by xs false = append-nil xs

      more : (is : What → Bool)
          → datagrams_of key (all ++ p ∷ []) is ≡ with_passed p (datagrams_of key all) is
      more is = split is
          ∙ ap (λ b. datagrams_of key all is ++ map counted_at (cond (b && is p.seen.what) (p ∷ []) [])) same
          ∙ by (datagrams_of key all is) (is p.seen.what)

  -- one more of another key
  datagrams_same : same_key p.key key ≡ false → datagrams_of key (all ++ p ∷ []) ≡ datagrams_of key all
  datagrams_same other = λ i is. same is i
    where
      same : (is : What → Bool) → datagrams_of key (all ++ p ∷ []) is ≡ datagrams_of key all is
      same is = split is
          ∙ ap (λ b. datagrams_of key all is ++ map counted_at (cond (b && is p.seen.what) (p ∷ []) [])) other
          ∙ append-nil (datagrams_of key all is)

-- ---- what has no group

-- where each datagram has a group, none has a key that has none
nobody_has : (s : Stats) (key : Key) (all : List Passed) → count_by (is_left_out s) all ≡ 0
    → group_of s key ≡ None → (is : What → Bool) → datagrams_of key all is ≡ []
nobody_has s key [] none absent is = refl
nobody_has s key (x ∷ xs) none absent is =
    by (same_key x.key key && is x.seen.what) refl (nobody_has s key xs (omega (arith, parted)) absent is)
  where
    parted : cond (is_left_out s x) 1 0 + count_by (is_left_out s) xs ≡ 0
    parted = sym (tallies.count_cons (is_left_out s) x xs) ∙ none

    by : (b : Bool) → (same_key x.key key && is x.seen.what) ≡ b → datagrams_of key xs is ≡ []
        → map counted_at (cond b (x ∷ filter (λ y. same_key y.key key && is y.seen.what) xs)
        (filter (λ y. same_key y.key key && is y.seen.what) xs)) ≡ []
    by true e more =
        let same = (and_parts (same_key x.key key) (is x.seen.what) e).0 in
        let here : group_of s x.key ≡ None = ap (group_of s) (key_is x.key key same) ∙ absent in
        absurd (omega (arith, parted, ap {B = ℕ} (λ (o : Option Group). cond (is_none o) 1 0) here))
    by false e more = more

-- a group more leaves at most as many without one
fewer_left_out : (s later : Stats) → ((x : Passed) → is_left_out s x ≡ false → is_left_out later x ≡ false)
    → (all : List Passed) → count_by (is_left_out s) all ≡ 0 → count_by (is_left_out later) all ≡ 0
fewer_left_out s later keeps [] none = refl
fewer_left_out s later keeps (x ∷ xs) none =
    tallies.count_cons (is_left_out later) x xs
    ∙ ap (λ b. cond b 1 0 + count_by (is_left_out later) xs) (keeps x (by (is_left_out s x) refl))
    ∙ ap (λ n. 0 + n) (fewer_left_out s later keeps xs (omega (arith, parted)))
  where
    parted : cond (is_left_out s x) 1 0 + count_by (is_left_out s) xs ≡ 0
    parted = sym (tallies.count_cons (is_left_out s) x xs) ∙ none

    by : (b : Bool) → is_left_out s x ≡ b → is_left_out s x ≡ false
    by true e = absurd (omega (arith, parted, ap {B = ℕ} (λ b. cond b 1 0) e))
    by false e = e

-- ---- one more is taken

module _ (all : List Passed) (p : Passed) (s later : Stats) (h : IsStatsOf all s) (w : Group)
    (at : (key : Key) → group_of later key ≡ cond (same_key p.key key) (Some w) (group_of s key)) where
  -- the groups of all, where the datagram's own group has its tally
  groups_told : IsGroup (with_passed p (datagrams_of p.key all)) w → (key : Key) (g : Group)
      → group_of later key ≡ Some g → IsGroup (datagrams_of key (all ++ p ∷ [])) g
  groups_told own key g is = by (same_key p.key key) refl
    where
      some_is : (x y : Group) → Some x ≡ Some y → x ≡ y
      some_is x y e = cc

      by : (b : Bool) → same_key p.key key ≡ b → IsGroup (datagrams_of key (all ++ p ∷ [])) g
      by true e =
          let same : Some w ≡ Some g = sym (at key ∙ ap (λ b. cond b (Some w) (group_of s key)) e) ∙ is in
          let group : w ≡ g = some_is w g same in
          subst (λ (x : Group). IsGroup (datagrams_of key (all ++ p ∷ [])) x) group
          (subst (λ xs. IsGroup xs w) (sym (datagrams_more all p key e))
          (subst (λ k. IsGroup (with_passed p (datagrams_of k all)) w) (key_is p.key key e) own))
      by false e =
          let still : group_of s key ≡ Some g =
          sym (at key ∙ ap (λ b. cond b (Some w) (group_of s key)) e) ∙ is in
          subst (λ xs. IsGroup xs g) (sym (datagrams_same all p key e)) (h.groups key g still)

  -- the datagram has a group now
  has_one : is_left_out later p ≡ false
  has_one = ap is_none (at p.key ∙ ap (λ b. cond b (Some w) (group_of s p.key)) (key_itself p.key))

  -- what had one has one
  keeps_one : (x : Passed) → is_left_out s x ≡ false → is_left_out later x ≡ false
  keeps_one x e = ap is_none (at x.key) ∙ by (same_key p.key x.key)
    where
      by : (b : Bool) → is_none (cond b (Some w) (group_of s x.key)) ≡ false
      by true = refl
      by false = e

  left_out_push : count_by (is_left_out later) (all ++ p ∷ []) ≡ count_by (is_left_out later) all
  left_out_push = tallies.count_push (is_left_out later) all p
      ∙ ap (λ b. count_by (is_left_out later) all + cond b 1 0) has_one ∙ omega arith

  -- one more of a group that there is
  pub told_again : (g : Group) → group_of s p.key ≡ Some g → later.left_out ≡ s.left_out
      → index_map_len later.groups ≡ index_map_len s.groups
      → ((xs : (What → Bool) → List Came) → IsGroup xs g → IsGroup (with_passed p xs) w)
      → IsStatsOf (all ++ p ∷ []) later
  told_again g is left len counted =
      record {
        groups = groups_told (counted (datagrams_of p.key all) (h.groups p.key g is));
        left_out = left ∙ h.left_out ∙ sym (ap u64_saturate as_many);
        all_told = λ less. as_many ∙ h.all_told (subst (λ n. n < MAX_GROUPS) len less);
      }
    where
      alike : (x : Passed) → is_left_out later x ≡ is_left_out s x
      alike x = by (same_key p.key x.key) refl
        where
          by : (b : Bool) → same_key p.key x.key ≡ b → is_left_out later x ≡ is_left_out s x
          by true e =
              ap is_none (at x.key ∙ ap (λ b. cond b (Some w) (group_of s x.key)) e)
              ∙ sym (ap is_none (sym (ap (group_of s) (key_is p.key x.key e)) ∙ is))
          by false e = ap is_none (at x.key ∙ ap (λ b. cond b (Some w) (group_of s x.key)) e)

      as_many : count_by (is_left_out later) (all ++ p ∷ []) ≡ count_by (is_left_out s) all
      as_many = left_out_push ∙ tallies.count_alike (is_left_out later) (is_left_out s) alike all

  -- the first of a group
  pub told_first : group_of s p.key ≡ None → later.left_out ≡ s.left_out → index_map_len s.groups < MAX_GROUPS
      → IsGroup (with_passed p (λ (is : What → Bool). [])) w → IsStatsOf (all ++ p ∷ []) later
  told_first absent left room first =
      record {
        groups = groups_told (subst (λ xs. IsGroup (with_passed p xs) w) nobody first);
        left_out = left ∙ h.left_out ∙ ap u64_saturate (none ∙ sym still);
        all_told = λ less. still;
      }
    where
      none : count_by (is_left_out s) all ≡ 0
      none = h.all_told room

      nobody : (λ (is : What → Bool). []) ≡ datagrams_of p.key all
      nobody = λ i is. sym (nobody_has s p.key all none absent is) i

      still : count_by (is_left_out later) (all ++ p ∷ []) ≡ 0
      still = left_out_push ∙ fewer_left_out s later keeps_one all none

-- one more that has no group, and there is no room for one
pub told_left_out : (all : List Passed) (p : Passed) (s : Stats) → IsStatsOf all s → group_of s p.key ≡ None
    → MAX_GROUPS ≤ index_map_len s.groups
    → IsStatsOf (all ++ p ∷ []) (record s { left_out = u64_saturate (s.left_out + 1) })
told_left_out all p s h absent full =
    record {
      groups = λ key g is. by key g is (same_key p.key key) refl;
      left_out = ap (λ n. u64_saturate (n + 1)) h.left_out ∙ tallies.saturated_more _
          ∙ sym (ap u64_saturate (tallies.count_push (is_left_out s) all p
          ∙ ap (λ o. count_by (is_left_out s) all + cond (is_none o) 1 0) absent));
      all_told = λ less. absurd (omega (arith, full, less));
    }
  where
    by : (key : Key) (g : Group) → group_of s key ≡ Some g → (b : Bool) → same_key p.key key ≡ b
        → IsGroup (datagrams_of key (all ++ p ∷ [])) g
    by key g is true e =
        let wrong : None ≡ Some g = sym absent ∙ ap (group_of s) (key_is p.key key e) ∙ is in
        absurd (cc)
    by key g is false e = subst (λ xs. IsGroup xs g) (sym (datagrams_same all p key e)) (h.groups key g is)

-- ---- a place

abbrev group_or : Group → Option (Key × Group) → Group
group_or d None = d
group_or d (Some entry) = entry.1

-- entries that are one have one group
pub same_group : (k q : Key) (g h : Group)
    → ◌≡◌ {A = Option (Key × Group)} (Some (k, g)) (Some (q, h)) → g ≡ h
same_group k q g h e = ap (group_or g) e

-- what stands at a place has this key, where its own key is the same
pub is_at : (s : Stats) (place : ℕ) (k key : Key) (g : Group) → slice_get s.groups.entries place ≡ Some (k, g)
    → group_of s k ≡ Some g → same_key k key ≡ true → IsAt s place key
is_at s place k key g stands has same =
    let e : k ≡ key = key_is k key same in
    record {
      group = g;
      stands = stands ∙ ap {B = Option (Key × Group)} (λ (x : Key). Some (x, g)) e;
      has = ap (group_of s) (sym e) ∙ has;
    }

-- so does what is found by its key
pub found_at : (s : Stats) (place : ℕ) (k key : Key) (g : Group)
    → slice_get s.groups.entries place ≡ Some (k, g) → group_of s key ≡ Some g
    → get_key_by (same_key key) s.groups ≡ Some k → IsAt s place key
found_at s place k key g stands has own =
    let e : key ≡ k = key_is key k (lookup_key_passes (same_key key) s.groups.entries k own) in
    is_at s place k key g stands (ap (group_of s) (sym e) ∙ has)
    (ap (λ x. same_key x key) (sym e) ∙ key_itself key)
