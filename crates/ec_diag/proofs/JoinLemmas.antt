-- What is known by one copy more is what was known and what it told, and no less; and what both copies of a
-- frame tell that travelled under the same links.
use Rattle.std.specs.Prelude.{◌↔◌, ◌==◌, if◌then◌else◌}
use Rattle.std.proofs.Common.{◌≡◌, ℕ, ◌<◌, ◌≤◌, inl, inr}
use Rattle.std.proofs.Common.{true, false, Option, None, Some}
use Rattle.std.proofs.Common.{arith, refl, sym, ap, subst, ◌∙◌, eqb, ltb}
use Rattle.std.proofs.lemmas.Bool.{cases_eq, cases_lt, eq-eqb, ne_eqb, lt-ltb, le-ltb}
use Rattle.ec_ring.specs.Links.{is_up, AreUp, IsOnlyDown}
use Rattle.ec_ring.specs.declared.links.Links.{Links}
use Rattle.ec_diag.specs.Heard.{heard_a, heard_b}
use Rattle.ec_diag.specs.Told.{IsFirstDown, IsLastDown, Knows, told_of}
use Rattle.ec_diag.specs.Located.{Tells, first_of, last_of, between, with_whole, with_first}
use Rattle.ec_diag.specs.Located.{with_last, seen_of, seen}
use Rattle.ec_diag.specs.Join.{with_told, with_heard, CanCome}
use Rattle.ec_diag.specs.declared.heard.Heard.{Heard}
use Rattle.ec_diag.specs.declared.located.Located.{Located}
use Rattle.ec_diag.specs.declared.located.Located.TheVariants.{Unknown, Whole, One, Between, First, Last}
use Rattle.ec_diag.specs.declared.located.Located.TheVariants.{Changed}
use Rattle.ec_diag.specs.declared.told.Told as told
use Rattle.ec_diag.specs.declared.told.Told.{Told}
use Rattle.ec_diag.proofs.CableLemmas as cables
use Rattle.ec_diag.proofs.CableLemmas.{Cable, IsWhole, IsBroken, cable}
use Rattle.ec_diag.proofs.ToldLemmas as tolds

-- a line is not whole and broken at once
first_not_whole : (links : Links) (n k : ℕ) → IsFirstDown links n k → AreUp links 0 n → ⊥
first_not_whole links n k first up = cables.not_whole links n k first.inside first.down up

last_not_whole : (links : Links) (n k : ℕ) → IsLastDown links n k → AreUp links 0 n → ⊥
last_not_whole links n k last up = cables.not_whole links n k last.inside last.down up

-- ---- the parts of the table

first_of_same : (n k : ℕ) → k ≡ n → first_of n k ≡ One k
first_of_same n k same = let test : eqb k n ≡ true = eq-eqb k n same in rw test refl

first_of_other : (n k : ℕ) → (k ≡ n → ⊥) → first_of n k ≡ First k
first_of_other n k other = let test : eqb k n ≡ false = ne_eqb k n other in rw test refl

last_of_zero : (k : ℕ) → k ≡ 0 → last_of k ≡ One k
last_of_zero k same = let test : eqb k 0 ≡ true = eq-eqb k 0 same in rw test refl

last_of_other : (k : ℕ) → (k ≡ 0 → ⊥) → last_of k ≡ Last k
last_of_other k other = let test : eqb k 0 ≡ false = ne_eqb k 0 other in rw test refl

between_same : (p q : ℕ) → p ≡ q → between p q ≡ One p
between_same p q same = let test : eqb p q ≡ true = eq-eqb p q same in rw test refl

between_less : (p q : ℕ) → p < q → between p q ≡ Between p q
between_less p q less =
    let test : eqb p q ≡ false = ne_eqb p q (λ e. omega (arith, e)) in
    let order : ltb p q ≡ true = lt-ltb p q less in
    rw (test, order) refl

between_more : (p q : ℕ) → q < p → between p q ≡ Changed
between_more p q more =
    let test : eqb p q ≡ false = ne_eqb p q (λ e. omega (arith, e)) in
    let order : ltb p q ≡ false = le-ltb p q (omega arith) in
    rw (test, order) refl

-- ---- what they say

module _ (links : Links) (n : ℕ) where
  first_of_exact : (k : ℕ) → IsFirstDown links n k ↔ Tells (first_of n k) links n
  first_of_exact k =
      elim (cases_eq k n) [
        | inl same ↦ rw (first_of_same n k same) (
          λ first. record {
            first = first;
            last = record {
              inside = first.inside;
              down = first.down;
              behind = λ j after to. absurd (omega (arith, same, after, to));
            };
          },
          λ one. one.first,
        )
        | inr other ↦ rw (first_of_other n k other) (λ first. first, λ first. first)
      ]

  last_of_exact : (k : ℕ) → IsLastDown links n k ↔ Tells (last_of k) links n
  last_of_exact k =
      elim (cases_eq k 0) [
        | inl same ↦ rw (last_of_zero k same) (
          λ last. record {
            last = last;
            first = record {
              inside = last.inside;
              down = last.down;
              before = λ j before. absurd (omega (arith, same, before));
            };
          },
          λ one. one.last,
        )
        | inr other ↦ rw (last_of_other k other) (λ last. last, λ last. last)
      ]

  between_exact : (p q : ℕ) → (IsFirstDown links n p × IsLastDown links n q) ↔ Tells (between p q) links n
  between_exact p q =
      elim (cases_eq p q) [
        | inl same ↦ rw (between_same p q same) (
          λ h. record { first = h.0; last = subst (λ (x : ℕ). IsLastDown links n x) (sym same) h.1 },
          λ one. (one.first, subst (λ (x : ℕ). IsLastDown links n x) same one.last),
        )
        | inr other ↦ elim (cases_lt p q) [
          | inl less ↦ rw (between_less p q less) (
            λ h. record { order = less; first = h.0; last = h.1 },
            λ b. (b.first, b.last),
          )
          | inr more ↦
              let past : q < p = omega (arith, other) in
              rw (between_more p q past) (
                λ h. (let order : p ≤ q = cables.first-le-last links n p q h.0 h.1 in omega arith),
                λ never. absurd never,
              )
        ]
      ]

  whole_exact : (x : Located) → (Tells x links n × AreUp links 0 n) ↔ Tells (with_whole x) links n
  whole_exact Unknown = (λ h. h.1, λ up. (tt, up))
  whole_exact Whole = (λ h. h.1, λ up. (up, up))
  whole_exact (One k) = (λ h. first_not_whole links n k h.0.first h.1, λ never. absurd never)
  whole_exact (Between p q) = (λ h. first_not_whole links n p h.0.first h.1, λ never. absurd never)
  whole_exact (First k) = (λ h. first_not_whole links n k h.0 h.1, λ never. absurd never)
  whole_exact (Last k) = (λ h. last_not_whole links n k h.0 h.1, λ never. absurd never)
  whole_exact Changed = (λ h. h.0, λ never. absurd never)

  -- what stays where a number is the one that was known, else nothing does
  stays : (x : Located) (j k : ℕ) (P : Type 0) → (Tells x links n → P → j ≡ k)
      → (Tells x links n → j ≡ k → P)
      → (Tells x links n × P) ↔ Tells (if j == k then x else Changed) links n
  stays x j k P meet back =
      elim (cases_eq j k) [
        | inl same ↦
            let test : eqb j k ≡ true = eq-eqb j k same in
            rw test (λ h. h.0, λ h. (h, back h same))
        | inr other ↦
            let test : eqb j k ≡ false = ne_eqb j k other in
            rw test (λ h. other (meet h.0 h.1), λ never. absurd never)
      ]

  first_exact : (k : ℕ) (x : Located)
      → (Tells x links n × IsFirstDown links n k) ↔ Tells (with_first n k x) links n
  first_exact k Unknown =
      let same = first_of_exact k in (λ h. same.0 h.1, λ h. (tt, same.1 h))
  first_exact k Whole = (λ h. first_not_whole links n k h.1 h.0, λ never. absurd never)
  first_exact k (One j) =
      stays (One j) j k (IsFirstDown links n k) (λ h first. cables.one_first links n j k h.first first)
      (λ h same. subst (λ (x : ℕ). IsFirstDown links n x) same h.first)
  first_exact k (Between p q) =
      stays (Between p q) p k (IsFirstDown links n k)
      (λ h first. cables.one_first links n p k h.first first)
      (λ h same. subst (λ (x : ℕ). IsFirstDown links n x) same h.first)
  first_exact k (First j) =
      stays (First j) j k (IsFirstDown links n k) (λ h first. cables.one_first links n j k h first)
      (λ h same. subst (λ (x : ℕ). IsFirstDown links n x) same h)
  first_exact k (Last q) =
      let same = between_exact k q in
      (λ h. same.0 (h.1, h.0), λ h. (let both = same.1 h in (both.1, both.0)))
  first_exact k Changed = (λ h. h.0, λ never. absurd never)

  last_exact : (k : ℕ) (x : Located)
      → (Tells x links n × IsLastDown links n k) ↔ Tells (with_last k x) links n
  last_exact k Unknown =
      let same = last_of_exact k in (λ h. same.0 h.1, λ h. (tt, same.1 h))
  last_exact k Whole = (λ h. last_not_whole links n k h.1 h.0, λ never. absurd never)
  last_exact k (One j) =
      stays (One j) j k (IsLastDown links n k) (λ h last. cables.one_last links n j k h.last last)
      (λ h same. subst (λ (x : ℕ). IsLastDown links n x) same h.last)
  last_exact k (Between p q) =
      stays (Between p q) q k (IsLastDown links n k)
      (λ h last. cables.one_last links n q k h.last last)
      (λ h same. subst (λ (x : ℕ). IsLastDown links n x) same h.last)
  last_exact k (First p) = between_exact p k
  last_exact k (Last j) =
      stays (Last j) j k (IsLastDown links n k) (λ h last. cables.one_last links n j k h last)
      (λ h same. subst (λ (x : ℕ). IsLastDown links n x) same h)
  last_exact k Changed = (λ h. h.0, λ never. absurd never)

-- ---- by what a copy told, and by what was heard of it

pub told_exact : (links : Links) (n : ℕ) (x : Located) (t : Told)
    → (Tells x links n × Knows t links n) ↔ Tells (with_told n x t) links n
told_exact links n x told.TheVariants.Whole = whole_exact links n x
told_exact links n x (told.TheVariants.First k) = first_exact links n k x
told_exact links n x (told.TheVariants.Last k) = last_exact links n k x
told_exact links n x told.TheVariants.Never = (λ h. h.1, λ never. absurd never)

pub heard_exact : (links : Links) (n : ℕ) (x : Located) (o : Option Heard)
    → (Tells x links n × CanCome links n o) ↔ Tells (with_heard n x o) links n
heard_exact links n x None = (λ h. h.0, λ h. (h, tt))
heard_exact links n x (Some h) =
    let told = tolds.told_exact links n h in
    let joined = told_exact links n x (told_of n h) in (
      λ known. joined.0 (known.0, told.0 known.1),
      λ known. (let both = joined.1 known in (both.0, told.1 both.1)),
    )

-- by both copies of a frame
pub arrivals_exact : (links : Links) (n : ℕ) (x : Located) (a b : Option Heard)
    → (Tells x links n × CanCome links n a × CanCome links n b)
    ↔ Tells (with_heard n (with_heard n x a) b) links n
arrivals_exact links n x a b =
    let one = heard_exact links n x a in
    let two = heard_exact links n (with_heard n x a) b in (
      λ h. two.0 (one.0 (h.0, h.1), h.2),
      λ known. (let last = two.1 known in let first = one.1 last.0 in (first.0, first.1, last.1)),
    )

-- ---- both copies under the same links

seen_whole_of : (links : Links) (n : ℕ) → IsWhole links n → seen links n ≡ Whole
seen_whole_of links n whole = rw whole.first_is refl

both_whole : (links : Links) (n : ℕ) → IsWhole links n
    → with_heard n (with_heard n Unknown (heard_a links n)) (heard_b links n) ≡ seen links n
both_whole links n whole =
    rw (cables.whole_a links n whole, cables.whole_b links n whole)
    (rw (tolds.b_whole n) (sym (seen_whole_of links n whole)))

seen_broken : (links : Links) (n p q : ℕ) → IsBroken links n p q
    → seen links n ≡ seen_of n (Some p) (Some q)
seen_broken links n p q broken = rw (broken.first_is, broken.last_is) refl

-- the table of both copies
neither : (n p q : ℕ) → p ≡ 0 → q ≡ n → seen_of n (Some p) (Some q) ≡ Unknown
neither n p q first last =
    let one : eqb p 0 ≡ true = eq-eqb p 0 first in
    let two : eqb q n ≡ true = eq-eqb q n last in
    rw (one, two) refl

only_b : (n p q : ℕ) → p ≡ 0 → (q ≡ n → ⊥) → seen_of n (Some p) (Some q) ≡ last_of q
only_b n p q first last =
    let one : eqb p 0 ≡ true = eq-eqb p 0 first in
    let two : eqb q n ≡ false = ne_eqb q n last in
    rw (one, two) refl

only_a : (n p q : ℕ) → (p ≡ 0 → ⊥) → q ≡ n → seen_of n (Some p) (Some q) ≡ first_of n p
only_a n p q first last =
    let one : eqb p 0 ≡ false = ne_eqb p 0 first in
    let two : eqb q n ≡ true = eq-eqb q n last in
    rw (one, two) refl

both_come : (n p q : ℕ) → (p ≡ 0 → ⊥) → (q ≡ n → ⊥) → seen_of n (Some p) (Some q) ≡ between p q
both_come n p q first last =
    let one : eqb p 0 ≡ false = ne_eqb p 0 first in
    let two : eqb q n ≡ false = ne_eqb q n last in
    rw (one, two) refl

both_broken : (links : Links) (n p q : ℕ) → IsBroken links n p q
    → with_heard n (with_heard n Unknown (heard_a links n)) (heard_b links n) ≡ seen_of n (Some p) (Some q)
both_broken links n p q broken =
    let inside : q ≤ n = broken.last.inside in
    let order : p ≤ q = broken.order in
    elim (cases_eq p 0) [
      | inl none ↦ elim (cases_eq q n) [
        | inl end ↦
            rw (cables.lost_a links n p q broken none, cables.lost_b links n p q broken end)
            (sym (neither n p q none end))
        | inr more ↦
            let starts : q < n = omega (arith, more) in
            rw (cables.lost_a links n p q broken none, cables.broken_b links n p q broken starts)
            (rw (tolds.turned_last n q starts) (sym (only_b n p q none more)))
      ]
      | inr some ↦
          let begins : 0 < p = omega (arith, some) in
          elim (cases_eq q n) [
            | inl end ↦
                rw (cables.broken_a links n p q broken begins, cables.lost_b links n p q broken end)
                (rw (tolds.a_first n p begins (omega arith)) (sym (only_a n p q some end)))
            | inr more ↦
                let starts : q < n = omega (arith, more) in
                let early : first_of n p ≡ First p = first_of_other n p (λ e. omega (arith, e)) in
                let told : with_heard n (with_heard n Unknown (heard_a links n)) (heard_b links n)
                ≡ with_last q (first_of n p) =
                rw (cables.broken_a links n p q broken begins, cables.broken_b links n p q broken starts)
                (rw (tolds.a_first n p begins (omega arith), tolds.turned_last n q starts) refl) in
                told ∙ ap (with_last q) early ∙ sym (both_come n p q some more)
          ]
    ]

-- what both copies tell under the same links is what is seen of these
pub both_seen : (links : Links) (n : ℕ)
    → with_heard n (with_heard n Unknown (heard_a links n)) (heard_b links n) ≡ seen links n
both_seen links n =
    elim (cable links n) [
      | inl whole ↦ both_whole links n whole
      | inr (p, q, broken) ↦
          both_broken links n p q broken ∙ sym (seen_broken links n p q broken)
    ]

-- what can be heard of copy A, and of copy B
pub come_a : (links : Links) (n : ℕ) (o : Option Heard) → heard_a links n ≡ o → CanCome links n o
come_a links n None is = tt
come_a links n (Some h) is = inl is

pub come_b : (links : Links) (n : ℕ) (o : Option Heard) → heard_b links n ≡ o → CanCome links n o
come_b links n None is = tt
come_b links n (Some h) is = inr is

-- and it is so
pub seen_tells : (links : Links) (n : ℕ) → Tells (seen links n) links n
seen_tells links n =
    let joined = arrivals_exact links n Unknown (heard_a links n) (heard_b links n) in
    let known : Tells (with_heard n (with_heard n Unknown (heard_a links n)) (heard_b links n)) links n =
    joined.0 (tt, come_a links n (heard_a links n) refl, come_b links n (heard_b links n) refl) in
    rw (both_seen links n) at known

-- a whole line is seen as one
pub seen_whole : (links : Links) (n : ℕ) → AreUp links 0 n → seen links n ≡ Whole
seen_whole links n up =
    elim (cable links n) [
      | inl whole ↦ seen_whole_of links n whole
      | inr (p, q, broken) ↦ absurd (first_not_whole links n p broken.first up)
    ]

-- of a line of some slaves one link that is down is seen as that one
only_first : (links : Links) (n k : ℕ) → k ≤ n → is_up links k ≡ false → IsOnlyDown links n k
    → IsFirstDown links n k
only_first links n k inside down only = record {
  inside = inside;
  down = down;
  before = λ j before. only j (omega arith) (λ same. omega (arith, same));
}

only_last : (links : Links) (n k : ℕ) → k ≤ n → is_up links k ≡ false → IsOnlyDown links n k
    → IsLastDown links n k
only_last links n k inside down only = record {
  inside = inside;
  down = down;
  behind = λ j after to. only j to (λ same. omega (arith, same));
}

one_seen : (n k : ℕ) → 1 ≤ n → seen_of n (Some k) (Some k) ≡ One k
one_seen n k some =
    elim (cases_eq k 0) [
      | inl none ↦ only_b n k k none (λ end. omega (arith, end, none)) ∙ last_of_zero k none
      | inr begins ↦ elim (cases_eq k n) [
        | inl end ↦ only_a n k k begins end ∙ first_of_same n k end
        | inr more ↦ both_come n k k begins more ∙ between_same k k refl
      ]
    ]

pub seen_one : (links : Links) (n k : ℕ) → 1 ≤ n → k ≤ n → is_up links k ≡ false → IsOnlyDown links n k
    → seen links n ≡ One k
seen_one links n k some inside down only =
    let first : IsFirstDown links n k = only_first links n k inside down only in
    let last : IsLastDown links n k = only_last links n k inside down only in
    elim (cable links n) [
      | inl whole ↦ absurd (first_not_whole links n k first whole.up)
      | inr (p, q, broken) ↦
          let one : p ≡ k = cables.one_first links n p k broken.first first in
          let other : q ≡ k = cables.one_last links n q k broken.last last in
          seen_broken links n p q broken
          ∙ ap (λ (x : ℕ). seen_of n (Some x) (Some q)) one
          ∙ ap (λ (x : ℕ). seen_of n (Some k) (Some x)) other
          ∙ one_seen n k some
    ]
