-- Reach, by the first and the last link that is down, in the words of links that are up.
use Rattle.std.specs.Prelude.{◌≡◌, ◌≢◌, ℕ, ◌+◌, ◌<◌, ◌≤◌, ◌↔◌, Bool, true, false, if◌then◌else◌, refl}
use Rattle.std.specs.Prelude.{Option, None, Some, is_none, unwrap_or}
use Rattle.std.proofs.Common.{arith, sym, ◌∙◌}
use Rattle.ec_ring.specs.Links.{is_up, AreUp, IsOnlyDown, first_down, last_down, is_whole}
use Rattle.ec_ring.specs.Reach.{front, back, ReachesA, ReachesB, arrival_a, arrival_b}
use Rattle.ec_ring.specs.declared.links.Links.{Links}
use Rattle.ec_ring.specs.declared.port.Port.{Port}
use Rattle.ec_ring.proofs.LinkLemmas.{IsFirst, IsLast, FindsFirst, FindsLast, finds-first, finds-last}

-- a link is not up and down at once
not_both : (links : Links) (k : ℕ) → is_up links k ≡ true → is_up links k ≡ false → ⊥
not_both links k up down = cc

-- numbers by what is not so
below : (x p : ℕ) → (p ≤ x → ⊥) → x < p
below x p never = omega arith

at_most : (q x : ℕ) → (x < q → ⊥) → q ≤ x
at_most q x never = omega arith

same : (j k : ℕ) → (j ≢ k → ⊥) → j ≡ k
same j k never =
    let low : j ≤ k = at_most j k (λ h. never (omega (arith, h))) in
    let high : k ≤ j = at_most k j (λ h. never (omega (arith, h))) in
    omega arith

-- ---- copy A

front-of : (links : Links) (n x : ℕ) (o : Option ℕ) → FindsFirst links (n + 1) o → x < n
    → (x < unwrap_or o n) ↔ ReachesA links x
front-of links n x None found inside = (λ _ k from to. found.none refl k (omega arith), λ _. inside)
front-of links n x (Some p) found inside =
    let first : IsFirst links (n + 1) p = found.some p refl in
    let reached = λ (up : ReachesA links x) (h : p ≤ x). not_both links p (up p (omega arith) h) first.down in
    (λ h k from to. first.up k (omega (arith, h, to)), λ up. below x p (reached up))

pub front-reaches : (links : Links) (n x : ℕ) → x < n → (x < front links n) ↔ ReachesA links x
front-reaches links n x inside =
    front-of links n x (first_down links (n + 1)) (finds-first links (n + 1)) inside

-- ---- copy B

back-of : (links : Links) (n x : ℕ) (o : Option ℕ) → FindsLast links (n + 1) o → x < n
    → (unwrap_or o n ≤ x) ↔ ReachesB links n x
back-of links n x None found inside =
    let up = λ (r : ReachesB links n x). found.none refl r.1.0 (omega (arith, r.1.1)) in
    (λ h. absurd (omega (arith, h)), λ r. absurd (not_both links r.1.0 (up r) r.1.2))
back-of links n x (Some q) found inside =
    let last : IsLast links (n + 1) q = found.some q refl in
    let up = λ (r : ReachesB links n x) (h : x < q). r.0 q (omega (arith, h)) (omega (arith, last.below)) in (
      λ h. (λ k from to. last.up k (omega (arith, h, from)) (omega (arith, to)), (q, h, last.down)),
      λ r. at_most q x (λ h. not_both links q (up r h) last.down),
    )

pub back-reaches : (links : Links) (n x : ℕ) → x < n → (back links n ≤ x) ↔ ReachesB links n x
back-reaches links n x inside = back-of links n x (last_down links (n + 1)) (finds-last links (n + 1)) inside

-- ---- a whole line

whole-of : (links : Links) (n : ℕ) (o : Option ℕ) → FindsLast links (n + 1) o
    → (is_none o ≡ true) ↔ AreUp links 0 n
whole-of links n None found = (λ _ k from to. found.none refl k (omega (arith, to)), λ _. refl)
whole-of links n (Some q) found =
    let last : IsLast links (n + 1) q = found.some q refl in
    let up = λ (all : AreUp links 0 n). all q (omega arith) (omega (arith, last.below)) in
    (λ h. absurd cc, λ all. absurd (not_both links q (up all) last.down))

pub whole-up : (links : Links) (n : ℕ) → (is_whole links n ≡ true) ↔ AreUp links 0 n
whole-up links n = whole-of links n (last_down links (n + 1)) (finds-last links (n + 1))

-- ---- both copies under the same links

apart : (links : Links) (n : ℕ) (o m : Option ℕ) → FindsFirst links (n + 1) o → FindsLast links (n + 1) m
    → unwrap_or o n ≤ unwrap_or m n
apart links n None None first last = omega arith
apart links n None (Some q) first last =
    let l : IsLast links (n + 1) q = last.some q refl in
    absurd (not_both links q (first.none refl q l.below) l.down)
apart links n (Some p) None first last =
    let f : IsFirst links (n + 1) p = first.some p refl in omega (arith, f.below)
apart links n (Some p) (Some q) first last =
    let f : IsFirst links (n + 1) p = first.some p refl in
    let l : IsLast links (n + 1) q = last.some q refl in
    at_most p q (λ h. not_both links q (f.up q h) l.down)

pub front-le-back : (links : Links) (n : ℕ) → front links n ≤ back links n
front-le-back links n =
    apart links n (first_down links (n + 1)) (last_down links (n + 1)) (finds-first links (n + 1))
    (finds-last links (n + 1))

-- a link that is down is the only one
down-only : (links : Links) (n k j : ℕ) → IsOnlyDown links n k → j < n + 1 → is_up links j ≡ false → j ≡ k
down-only links n k j only inside down =
    same j k (λ other. not_both links j (only j (omega (arith, inside)) other) down)

meet : (links : Links) (n k : ℕ) (o m : Option ℕ) → IsOnlyDown links n k → FindsFirst links (n + 1) o
    → FindsLast links (n + 1) m → unwrap_or o n ≡ unwrap_or m n
meet links n k None None only first last = refl
meet links n k None (Some q) only first last =
    let l : IsLast links (n + 1) q = last.some q refl in
    absurd (not_both links q (first.none refl q l.below) l.down)
meet links n k (Some p) None only first last =
    let f : IsFirst links (n + 1) p = first.some p refl in
    absurd (not_both links p (last.none refl p f.below) f.down)
meet links n k (Some p) (Some q) only first last =
    let f : IsFirst links (n + 1) p = first.some p refl in
    let l : IsLast links (n + 1) q = last.some q refl in
    down-only links n k p only f.below f.down ∙ sym (down-only links n k q only l.below l.down)

pub front-is-back : (links : Links) (n k : ℕ) → IsOnlyDown links n k → front links n ≡ back links n
front-is-back links n k only =
    meet links n k (first_down links (n + 1)) (last_down links (n + 1)) only (finds-first links (n + 1))
    (finds-last links (n + 1))

-- ---- a copy that the links lose passes nobody

no_port : (b : Bool) (port : Port) → (if b then Some port else None) ≡ None → b ≡ false
no_port true port none = cc
no_port false port none = refl

front-at-0 : (links : Links) (n : ℕ) (o : Option ℕ) → FindsFirst links (n + 1) o
    → is_up links 0 ≡ false → unwrap_or o n ≡ 0
front-at-0 links n None found down = absurd (not_both links 0 (found.none refl 0 (omega arith)) down)
front-at-0 links n (Some p) found down =
    let first : IsFirst links (n + 1) p = found.some p refl in
    same p 0 (λ other. not_both links 0 (first.up 0 (omega (arith, other))) down)

pub lost-front : (links : Links) (n : ℕ) → arrival_a links n ≡ None → front links n ≡ 0
lost-front links n none =
    front-at-0 links n (first_down links (n + 1)) (finds-first links (n + 1)) (no_port (is_up links 0) _ none)

back-at-n : (links : Links) (n : ℕ) (o : Option ℕ) → FindsLast links (n + 1) o
    → is_up links n ≡ false → unwrap_or o n ≡ n
back-at-n links n None found down = refl
back-at-n links n (Some q) found down =
    let last : IsLast links (n + 1) q = found.some q refl in
    let inside : q < n + 1 = last.below in
    same q n (λ other. not_both links n (last.up n (omega (arith, other, inside)) (omega arith)) down)

pub lost-back : (links : Links) (n : ℕ) → arrival_b links n ≡ None → back links n ≡ n
lost-back links n none =
    back-at-n links n (last_down links (n + 1)) (finds-last links (n + 1)) (no_port (is_up links n) _ none)
