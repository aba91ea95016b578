-- Hulls of sets of bits, and when they lie apart.
use Rattle.std.proofs.Common.{◌≡◌, ◌⊎◌, inl, inr, ⊎_elim, ℕ, ◌+◌, ◌<◌, ◌≤◌, ◌^◌, Bool, true, false, ◌||◌}
use Rattle.std.proofs.Common.{leb, ◌-◌, arith}
use Rattle.std.specs.Prelude.{min, max}
use Rattle.std.proofs.Math.Nat.{min-le_left, min-le_right, le-max_left, le-max_right, le-min, max-le}
use Rattle.std.proofs.lemmas.Bool.{both_ways, or_cases, or_left, or_right, leb-true, le-leb}
use Rattle.ec_regs.specs.declared.fmmu.Fmmu.{Fmmu}
use Rattle.ec_regs.specs.Pairs.{first_logical, pair_count}
use Rattle.ec_areas.specs.declared.hull.LogicalHull.{LogicalHull}
use Rattle.ec_check.specs.Hulls.{AreOnOneSide, IsHullOf}
use Rattle.ec_check.specs.Rules.{MapsLogical}
use Rattle.ec_check.proofs.RunLemmas.{IsInRun-MapsLogical, MapsLogical-IsInRun}

-- ---- hulls

-- sets of the same bits have one hull
pub IsHullOf-same : (P Q : ℕ → Type 0) (h : LogicalHull) → ((l : ℕ) → P l → Q l) → ((l : ℕ) → Q l → P l)
    → IsHullOf P h → IsHullOf Q h
IsHullOf-same P Q h to from hull = record {
  first = λ l q. hull.first l (from l q);
  end = λ l q. hull.end l (from l q);
  lowest = λ n small least. hull.lowest n small (λ l p. least l (to l p));
  highest = λ n most. hull.highest n (λ l p. most l (to l p));
  bound = hull.bound;
}

-- the lower first bit and the higher end are those of the hull of both sets
pub IsHullOf-both : (P Q : ℕ → Type 0) (g h : LogicalHull) → IsHullOf P g → IsHullOf Q h
    → IsHullOf (λ l. P l ⊎ Q l) (record { first = min g.first h.first; end = max g.end h.end })
IsHullOf-both P Q g h of_p of_q =
    let low : min g.first h.first ≤ g.first = min-le_left g.first h.first in
    let low_too : min g.first h.first ≤ h.first = min-le_right g.first h.first in
    let high : g.end ≤ max g.end h.end = le-max_left g.end h.end in
    let high_too : h.end ≤ max g.end h.end = le-max_right g.end h.end in
    let small : g.end < 2 ^ 64 = of_p.bound in
    let small_too : h.end < 2 ^ 64 = of_q.bound in
    let most : max g.end h.end ≤ 18446744073709551615 = max-le (omega arith) (omega arith) in
    record {
      first = λ l either.
          ⊎_elim (λ (p : P l). let first : g.first ≤ l = of_p.first l p in omega arith)
          (λ (q : Q l). let first : h.first ≤ l = of_q.first l q in omega arith)
          either;
      end = λ l either.
          ⊎_elim (λ (p : P l). let end : l < g.end = of_p.end l p in omega arith)
          (λ (q : Q l). let end : l < h.end = of_q.end l q in omega arith)
          either;
      lowest = λ n small least.
          le-min (of_p.lowest n small (λ l p. least l (inl p)))
          (of_q.lowest n small (λ l q. least l (inr q)));
      highest = λ n most.
          max-le (of_p.highest n (λ l p. most l (inl p))) (of_q.highest n (λ l q. most l (inr q)));
      bound = omega arith;
    }

-- sets whose hulls lie apart are on one side of each other
pub AreOnOneSide-apart : (P Q : ℕ → Type 0) (g h : LogicalHull) → IsHullOf P g → IsHullOf Q h
    → (leb g.end h.first || leb h.end g.first) ≡ true → AreOnOneSide P Q
AreOnOneSide-apart P Q g h of_p of_q apart =
    ⊎_elim
    (λ (front : leb g.end h.first ≡ true).
    inl (λ l m p q.
    let order : g.end ≤ h.first = leb-true g.end h.first front in
    let end : l < g.end = of_p.end l p in
    let first : h.first ≤ m = of_q.first m q in
    omega arith))
    (λ (behind : leb h.end g.first ≡ true).
    inr (λ l m p q.
    let order : h.end ≤ g.first = leb-true h.end g.first behind in
    let end : m < h.end = of_q.end m q in
    let first : g.first ≤ l = of_p.first l p in
    omega arith))
    (or_cases (leb g.end h.first) (leb h.end g.first) apart)

-- where all bits of the one set lie in front of those of the other its hull ends in front of theirs
ends_in_front : (P Q : ℕ → Type 0) (g h : LogicalHull) → IsHullOf P g → IsHullOf Q h
    → ((l m : ℕ) → P l → Q m → l < m) → g.end ≤ h.first
ends_in_front P Q g h of_p of_q below =
    of_p.highest h.first
    (λ l p.
    let end : l < g.end = of_p.end l p in
    let small : g.end < 2 ^ 64 = of_p.bound in
    let next : l + 1 ≤ h.first =
    of_q.lowest (l + 1) (omega arith) (λ m q. let less : l < m = below l m p q in omega arith) in
    omega arith)

-- and sets on one side of each other have hulls that lie apart
apart_hulls : (P Q : ℕ → Type 0) (g h : LogicalHull) → IsHullOf P g → IsHullOf Q h → AreOnOneSide P Q
    → (leb g.end h.first || leb h.end g.first) ≡ true
apart_hulls P Q g h of_p of_q aside =
    ⊎_elim
    (λ (below : (l m : ℕ) → P l → Q m → l < m).
    or_left (leb g.end h.first) (leb h.end g.first)
    (le-leb g.end h.first (ends_in_front P Q g h of_p of_q below)))
    (λ (above : (l m : ℕ) → P l → Q m → m < l).
    or_right (leb g.end h.first) (leb h.end g.first)
    (le-leb h.end g.first (ends_in_front Q P h g of_q of_p (λ m l q p. above l m p q))))
    aside

-- so that hulls that meet are those of sets that are not
pub not-AreOnOneSide : (P Q : ℕ → Type 0) (g h : LogicalHull) → IsHullOf P g → IsHullOf Q h
    → (leb g.end h.first || leb h.end g.first) ≡ false → AreOnOneSide P Q → ⊥
not-AreOnOneSide P Q g h of_p of_q meet aside =
    both_ways (leb g.end h.first || leb h.end g.first) meet (apart_hulls P Q g h of_p of_q aside)

-- ---- the hull of one FMMU

-- no bits have the hull of those that do not count
pub IsHullOf-uncounted : (counts : Bool) (f : Fmmu) (h : LogicalHull) → counts ≡ false → IsHullOf (λ l. ⊥) h
    → IsHullOf (λ l. (counts ≡ true) × MapsLogical f l) h
IsHullOf-uncounted counts f h not_counted =
    IsHullOf-same (λ l. ⊥) (λ l. (counts ≡ true) × MapsLogical f l) h (λ l none. absurd none)
    (λ l mapped. both_ways counts not_counted mapped.0)

-- and of those that an FMMU maps that maps none
pub IsHullOf-unmapped : (counts : Bool) (f : Fmmu) (h : LogicalHull) → pair_count f ≡ 0 → IsHullOf (λ l. ⊥) h
    → IsHullOf (λ l. (counts ≡ true) × MapsLogical f l) h
IsHullOf-unmapped counts f h unmapped =
    IsHullOf-same (λ l. ⊥) (λ l. (counts ≡ true) × MapsLogical f l) h (λ l none. absurd none)
    (λ l mapped.
    let inside = IsInRun-MapsLogical f l mapped.1 in
    let first : first_logical f ≤ l = inside.from in
    let end : l < first_logical f + pair_count f = inside.to in
    absurd (omega arith))

-- an FMMU that maps a bit has its run for a hull
pub IsHullOf-run : (counts : Bool) (f : Fmmu) → counts ≡ true → 0 < pair_count f
    → first_logical f + pair_count f < 2 ^ 64
    → IsHullOf (λ l. (counts ≡ true) × MapsLogical f l)
    (record { first = first_logical f; end = first_logical f + pair_count f })
IsHullOf-run counts f counted some small = record {
  first = λ l mapped. (IsInRun-MapsLogical f l mapped.1).from;
  end = λ l mapped. (IsInRun-MapsLogical f l mapped.1).to;
  lowest = λ n _ least.
      least (first_logical f)
      (counted, MapsLogical-IsInRun f (first_logical f) (record { from = omega arith; to = omega arith }));
  highest = λ n most.
      let last : first_logical f + pair_count f - 1 < n =
      most (first_logical f + pair_count f - 1)
      (counted, MapsLogical-IsInRun f _ (record { from = omega arith; to = omega arith })) in
      omega arith;
  bound = small;
}
