-- What a copy says of the links is what is known by it, and no less.
use Rattle.std.specs.Prelude.{◌↔◌}
use Rattle.std.proofs.Common.{◌≡◌, ℕ, ◌-◌, ◌<◌, ◌≤◌, inl, inr}
use Rattle.std.proofs.Common.{Bool, true, false, None, Some}
use Rattle.std.proofs.Common.{arith, refl, sym, subst, ◌∙◌, eqb, ltb}
use Rattle.std.proofs.lemmas.Bool.{cases_eq, cases_lt, eq-eqb, ne_eqb, lt-ltb, le-ltb}
use Rattle.ec_ring.specs.Links.{AreUp}
use Rattle.ec_ring.specs.declared.links.Links.{Links}
use Rattle.ec_ring.specs.declared.port.Port.{Port}
use Rattle.ec_ring.specs.declared.port.Port.TheVariants.{A, B}
use Rattle.ec_diag.specs.Heard.{heard_a, heard_b, CanBeHeard}
use Rattle.ec_diag.specs.Told.{IsFirstDown, IsLastDown, Knows, told_at_a, told_turned, told_at_b, told_of}
use Rattle.ec_diag.specs.declared.heard.Heard.{Heard}
use Rattle.ec_diag.specs.declared.told.Told.TheVariants.{Whole, First, Last, Never}
use Rattle.ec_diag.proofs.CableLemmas as cables
use Rattle.ec_diag.proofs.CableLemmas.{Cable, IsWhole, IsBroken, cable}

-- ---- the table, by numbers

pub a_first : (n k : ℕ) → 0 < k → k ≤ n → told_at_a n k ≡ First k
a_first n k some inside =
    let test : eqb k 0 ≡ false = ne_eqb k 0 (λ e. omega (arith, e)) in
    let room : ltb n k ≡ false = le-ltb n k inside in
    rw (test, room) refl

pub a_never : (n k : ℕ) → n < k → told_at_a n k ≡ Never
a_never n k past =
    let test : eqb k 0 ≡ false = ne_eqb k 0 (λ e. omega (arith, e)) in
    let room : ltb n k ≡ true = lt-ltb n k past in
    rw (test, room) refl

pub b_whole : (n : ℕ) → told_at_b n n ≡ Whole
b_whole n = let test : eqb n n ≡ true = eq-eqb n n refl in rw test refl

pub b_never : (n k : ℕ) → (k ≡ n → ⊥) → told_at_b n k ≡ Never
b_never n k other = let test : eqb k n ≡ false = ne_eqb k n other in rw test refl

pub turned_last : (n q : ℕ) → q < n → told_turned n (n - q) ≡ Last q
turned_last n q inside =
    let test : eqb (n - q) 0 ≡ false = ne_eqb (n - q) 0 (λ e. omega (arith, e)) in
    let room : ltb n (n - q) ≡ false = le-ltb n (n - q) (omega arith) in
    let back : n - (n - q) ≡ q = omega arith in
    rw (test, room, back) refl

pub turned_never : (n k : ℕ) → n < k → told_turned n k ≡ Never
turned_never n k past =
    let test : eqb k 0 ≡ false = ne_eqb k 0 (λ e. omega (arith, e)) in
    let room : ltb n k ≡ true = lt-ltb n k past in
    rw (test, room) refl

-- ---- what is heard is so

told_a : (links : Links) (n : ℕ) → Cable links n → (h : Heard) → heard_a links n ≡ Some h
    → Knows (told_of n h) links n
told_a links n (inl whole) h heard =
    let made : Heard = record { at = B; count = n; turned = false } in
    let same : Some made ≡ Some h = sym (cables.whole_a links n whole) ∙ heard in
    let is : made ≡ h = cc in
    let known : Knows (told_at_b n n) links n = rw (b_whole n) whole.up in
    subst (λ (x : Heard). Knows (told_of n x) links n) is known
told_a links n (inr (p, q, broken)) h heard =
    elim (cases_lt 0 p) [
      | inl starts ↦
          let made : Heard = record { at = A; count = p; turned = false } in
          let same : Some made ≡ Some h = sym (cables.broken_a links n p q broken starts) ∙ heard in
          let is : made ≡ h = cc in
          let known : Knows (told_at_a n p) links n =
          rw (a_first n p starts broken.first.inside) broken.first in
          subst (λ (x : Heard). Knows (told_of n x) links n) is known
      | inr none ↦
          let lost : None ≡ Some h = sym (cables.lost_a links n p q broken (omega arith)) ∙ heard in
          absurd (cc)
    ]

told_b : (links : Links) (n : ℕ) → Cable links n → (h : Heard) → heard_b links n ≡ Some h
    → Knows (told_of n h) links n
told_b links n (inl whole) h heard =
    let made : Heard = record { at = A; count = 0; turned = false } in
    let same : Some made ≡ Some h = sym (cables.whole_b links n whole) ∙ heard in
    let is : made ≡ h = cc in
    let known : Knows (told_at_a n 0) links n = whole.up in
    subst (λ (x : Heard). Knows (told_of n x) links n) is known
told_b links n (inr (p, q, broken)) h heard =
    elim (cases_lt q n) [
      | inl starts ↦
          let made : Heard = record { at = B; count = n - q; turned = true } in
          let same : Some made ≡ Some h = sym (cables.broken_b links n p q broken starts) ∙ heard in
          let is : made ≡ h = cc in
          let known : Knows (told_turned n (n - q)) links n = rw (turned_last n q starts) broken.last in
          subst (λ (x : Heard). Knows (told_of n x) links n) is known
      | inr none ↦
          let inside : q ≤ n = broken.last.inside in
          let lost : None ≡ Some h = sym (cables.lost_b links n p q broken (omega arith)) ∙ heard in
          absurd (cc)
    ]

-- ---- what is so can be heard

-- all links up: copy A is heard at port B, and copy B at port A
up_heard : (links : Links) (n : ℕ) → Cable links n → AreUp links 0 n → IsWhole links n
up_heard links n (inl whole) up = whole
up_heard links n (inr (p, q, broken)) up =
    absurd (cables.not_whole links n p broken.first.inside broken.first.down up)

first_heard : (links : Links) (n k : ℕ) → Cable links n → 0 < k → IsFirstDown links n k
    → heard_a links n ≡ Some (record { at = A; count = k; turned = false })
first_heard links n k (inl whole) starts first =
    absurd (cables.not_whole links n k first.inside first.down whole.up)
first_heard links n k (inr (p, q, broken)) starts first =
    let same : p ≡ k = cables.one_first links n p k broken.first first in
    let heard = cables.broken_a links n p q broken (omega arith) in
    rw same at heard

last_heard : (links : Links) (n k : ℕ) → Cable links n → k < n → IsLastDown links n k
    → heard_b links n ≡ Some (record { at = B; count = n - k; turned = true })
last_heard links n k (inl whole) starts last =
    absurd (cables.not_whole links n k last.inside last.down whole.up)
last_heard links n k (inr (p, q, broken)) starts last =
    let same : q ≡ k = cables.one_last links n q k broken.last last in
    let heard = cables.broken_b links n p q broken (omega arith) in
    rw same at heard

-- a copy at port A that did not turn
heard_at_a : (links : Links) (n count : ℕ) → Knows (told_at_a n count) links n
    → CanBeHeard links n (record { at = A; count = count; turned = false })
heard_at_a links n count known =
    elim (cases_lt 0 count) [
      | inl some ↦
          elim (cases_lt n count) [
            | inl past ↦ absurd (rw (a_never n count past) at known)
            | inr inside ↦
                let first : IsFirstDown links n count = rw (a_first n count some inside) at known in
                inl (first_heard links n count (cable links n) some first)
          ]
      | inr none ↦
          let zero : count ≡ 0 = omega arith in
          let up : AreUp links 0 n = rw zero at known in
          inr (rw zero (cables.whole_b links n (up_heard links n (cable links n) up)))
    ]

heard_at_b : (links : Links) (n count : ℕ) → Knows (told_at_b n count) links n
    → CanBeHeard links n (record { at = B; count = count; turned = false })
heard_at_b links n count known =
    elim (cases_eq count n) [
      | inl same ↦
          let here : Knows (told_at_b n n) links n = rw same at known in
          let up : AreUp links 0 n = rw (b_whole n) at here in
          inl (rw same (cables.whole_a links n (up_heard links n (cable links n) up)))
      | inr other ↦ absurd (rw (b_never n count other) at known)
    ]

heard_turned : (links : Links) (n count : ℕ) → Knows (told_turned n count) links n
    → CanBeHeard links n (record { at = B; count = count; turned = true })
heard_turned links n count known =
    elim (cases_lt 0 count) [
      | inl some ↦
          elim (cases_lt n count) [
            | inl past ↦ absurd (rw (turned_never n count past) at known)
            | inr inside ↦
                let back : n - (n - count) ≡ count = omega arith in
                let here : Knows (told_turned n (n - (n - count))) links n = rw back known in
                let last : IsLastDown links n (n - count) =
                rw (turned_last n (n - count) (omega arith)) at here in
                let heard = last_heard links n (n - count) (cable links n) (omega arith) last in
                inr (rw back at heard)
          ]
      | inr none ↦
          let zero : count ≡ 0 = omega arith in
          absurd (rw zero at known)
    ]

heard_back : (links : Links) (n : ℕ) (port : Port) (count : ℕ) (turned : Bool)
    → Knows (told_of n (record { at = port; count = count; turned = turned })) links n
    → CanBeHeard links n (record { at = port; count = count; turned = turned })
heard_back links n A count false known = heard_at_a links n count known
heard_back links n A count true known = absurd known
heard_back links n B count false known = heard_at_b links n count known
heard_back links n B count true known = heard_turned links n count known

-- ---- both ways

pub told_exact : (links : Links) (n : ℕ) (h : Heard) → CanBeHeard links n h ↔ Knows (told_of n h) links n
told_exact links n h = (
  λ can. elim can [
    | inl a ↦ told_a links n (cable links n) h a
    | inr b ↦ told_b links n (cable links n) h b
  ],
  λ known. heard_back links n h.at h.count h.turned known,
)
