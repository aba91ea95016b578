-- The trip of one datagram under the links of a ring with at most one link down: the line is left as the pass
-- of the one leaves it, and one copy brings that pass.
use Rattle.std.proofs.Common.{◌≡◌, ℕ, ◌+◌, ◌<◌, ◌≤◌, Bool, true, false, cond, List, [], ◌∷◌, ◌++◌}
use Rattle.std.proofs.Common.{length, refl, sym, ap, ◌∙◌, arith, subst, Option, None, Some, inl, inr}
use Rattle.std.proofs.Common.{length-append}
use Rattle.std.specs.Prelude.{is_none}
use Rattle.ec_wire.specs.Datagram.{DatagramRecord}
use Rattle.ec_wire.specs.declared.kind.Kind.TheVariants.{Fprd}
use Rattle.ec_esc.specs.State.{ControllerState}
use Rattle.ec_esc.specs.Pass.{pass}
use Rattle.ec_line.specs.After.{Entry}
use Rattle.ec_line.specs.Trip.{Passed, PassedLine, passed}
use Rattle.ec_ring.specs.Links.{IsOnlyDown}
use Rattle.ec_ring.specs.Reach.{front, back, arrival_a, arrival_b, turns}
use Rattle.ec_ring.specs.Travel.{travelled, Travelled}
use Rattle.ec_ring.specs.Weather.{calm}
use Rattle.ec_ring.specs.declared.links.Links.{Links}
use Rattle.ec_ring.specs.declared.port.Port.{Port}
use Rattle.ec_ring.proofs.Laws.{front-is-back, lost-front, lost-back, travelled-trip}
use Rattle.ec_master.specs.Ports.{came_or}
use Rattle.ec_over_ring.proofs.LineLemmas.{IsInFront, IsBehind, placed, turned}
use Rattle.ec_over_ring.proofs.TripLemmas.{AreOthers, OneBrings, first_copy, second_copy}
use Rattle.ec_over_ring.proofs.TripLemmas.{front_first, front_second, behind_first, behind_second}

-- ---- both copies

-- copy A passes the first m of a line, and then copy B those from m on
unfoldable pub both : ℕ → Bool → List ControllerState → DatagramRecord → Passed
both m b line d =
    let a = first_copy m line d in
    let z = second_copy m b a.line d in
    record { a = a.frame; b = z.frame; line = z.line }

both_front : (m : ℕ) (b : Bool) (d : DatagramRecord) (before : List ControllerState) (c : ControllerState)
    (behind : List ControllerState) → AreOthers d before behind → IsInFront m before c behind
    → both m b (before ++ c ∷ behind) d
    ≡ record {
      a = (pass c d).datagram ∷ [];
      b = turned (cond b true d.circulating) d ∷ [];
      line = before ++ (pass c d).state ∷ behind;
    }
unfolding both
both_front m b d before c behind others place =
    ap (λ (a : PassedLine). let z = second_copy m b a.line d in
    record { a = a.frame; b = z.frame; line = z.line }) (front_first m d before c behind others place)
    ∙ ap (λ (z : PassedLine). record { a = (pass c d).datagram ∷ []; b = z.frame; line = z.line })
    (front_second m b d before (pass c d).state behind others place.inside)

both_behind : (m : ℕ) (b : Bool) (d : DatagramRecord) (before : List ControllerState) (c : ControllerState)
    (behind : List ControllerState) → AreOthers d before behind → IsBehind m before c behind
    → both m b (before ++ c ∷ behind) d
    ≡ record {
      a = d ∷ [];
      b = turned (cond b true d.circulating) (pass c d).datagram ∷ [];
      line = before ++ (pass c d).state ∷ behind;
    }
unfolding both
both_behind m b d before c behind others place =
    ap (λ (a : PassedLine). let z = second_copy m b a.line d in
    record { a = a.frame; b = z.frame; line = z.line }) (behind_first m d before c behind others place)
    ∙ ap (λ (z : PassedLine). record { a = d ∷ []; b = z.frame; line = z.line })
    (behind_second m b d before c behind others place)

-- ---- what comes back of them

-- unless they are lost
abbrev pub came_back : Bool → Bool → Passed → Travelled
came_back lost_a lost_b p = record {
  came = record { a = cond lost_a None (Some p.a); b = cond lost_b None (Some p.b) };
  line = p.line;
}

-- what a trip leaves, and that one copy brings the pass; the sent frame stands for one that is lost
pub record IsWay (d : DatagramRecord) (before : List ControllerState) (c : ControllerState)
    (behind : List ControllerState) (t : Travelled) : Type 0 where
  pub line : t.line ≡ before ++ (pass c d).state ∷ behind
  pub brings : OneBrings d (pass c d).datagram (came_or t.came.a (d ∷ [])) (came_or t.came.b (d ∷ []))

-- the copy that passed others may be lost
pub first_brings : (d e : DatagramRecord) (lost_a lost_b bit : Bool) → lost_a ≡ false
    → OneBrings d e (came_or (cond lost_a None (Some (e ∷ []))) (d ∷ []))
    (came_or (cond lost_b None (Some (turned bit d ∷ []))) (d ∷ []))
first_brings d e lost_a true bit came = inl (record {
  bit = d.circulating;
  first = ap (λ l. came_or (cond l None (Some (e ∷ []))) (d ∷ [])) came;
  second = refl;
})
first_brings d e lost_a false bit came = inl (record {
  bit = bit;
  first = ap (λ l. came_or (cond l None (Some (e ∷ []))) (d ∷ [])) came;
  second = refl;
})

second_brings : (d e : DatagramRecord) (lost_a lost_b bit : Bool) → lost_b ≡ false
    → OneBrings d e (came_or (cond lost_a None (Some (d ∷ []))) (d ∷ []))
    (came_or (cond lost_b None (Some (turned bit e ∷ []))) (d ∷ []))
second_brings d e true lost_b bit came = inr (record {
  bit = bit;
  first = refl;
  second = ap (λ l. came_or (cond l None (Some (turned bit e ∷ []))) (d ∷ [])) came;
})
second_brings d e false lost_b bit came = inr (record {
  bit = bit;
  first = refl;
  second = ap (λ l. came_or (cond l None (Some (turned bit e ∷ []))) (d ∷ [])) came;
})

-- ---- a copy that passed the one comes back

pub came_by : (o : Option Port) → (o ≡ None → ⊥) → is_none o ≡ false
came_by None none = absurd (none refl)
came_by (Some p) none = refl

pub size_of_line : (before : List ControllerState) (c : ControllerState) (behind : List ControllerState)
    → length before < length (before ++ c ∷ behind)
size_of_line before c behind =
    let size : length (before ++ c ∷ behind) ≡ length before + length (c ∷ behind) =
    length-append before (c ∷ behind) in
    omega (arith, size)

-- ---- the trip

-- what any trip over pieces brings
abbrev pub way_of : Bool → Bool → ℕ → Bool → List ControllerState → DatagramRecord → Travelled
way_of lost_a lost_b m b line d = came_back lost_a lost_b (both m b line d)

way_front : (lost_a lost_b : Bool) (m : ℕ) (b : Bool) (d : DatagramRecord) (before : List ControllerState)
    (c : ControllerState) (behind : List ControllerState) → AreOthers d before behind
    → IsInFront m before c behind → lost_a ≡ false
    → IsWay d before c behind (way_of lost_a lost_b m b (before ++ c ∷ behind) d)
way_front lost_a lost_b m b d before c behind others place came =
    subst (λ (p : Passed). IsWay d before c behind (came_back lost_a lost_b p))
    (sym (both_front m b d before c behind others place))
    (record {
      line = refl;
      brings = first_brings d (pass c d).datagram lost_a lost_b (cond b true d.circulating) came;
    })

way_behind : (lost_a lost_b : Bool) (m : ℕ) (b : Bool) (d : DatagramRecord) (before : List ControllerState)
    (c : ControllerState) (behind : List ControllerState) → AreOthers d before behind
    → IsBehind m before c behind → lost_b ≡ false
    → IsWay d before c behind (way_of lost_a lost_b m b (before ++ c ∷ behind) d)
way_behind lost_a lost_b m b d before c behind others place came =
    subst (λ (p : Passed). IsWay d before c behind (came_back lost_a lost_b p))
    (sym (both_behind m b d before c behind others place))
    (record {
      line = refl;
      brings = second_brings d (pass c d).datagram lost_a lost_b (cond b true d.circulating) came;
    })

-- the datagram as an entry of a frame
abbrev pub entries_of : DatagramRecord → List Entry
entries_of d = record { request = record { kind = Fprd; address = 0; count = 0 }; sent = d } ∷ []

-- the trip under a ring's links is one over the pieces before and behind the break
pub travelled_pieces : (links : Links) (d : DatagramRecord) (line : List ControllerState)
    → d.circulating ≡ false
    → front links (length line) ≡ back links (length line)
    → let n = length line in
    travelled (calm links) (d ∷ []) line
    ≡ way_of (is_none (arrival_a links n)) (is_none (arrival_b links n)) (front links n) (turns links n)
    line d
unfolding passed both
travelled_pieces links d line still meet =
    let n = length line in
    travelled-trip (calm links) (entries_of d) line still
    ∙ ap (λ (m : ℕ). let a = first_copy (front links n) line d in
    let z = second_copy m (turns links n) a.line d in
    came_back (is_none (arrival_a links n)) (is_none (arrival_b links n))
    (record { a = a.frame; b = z.frame; line = z.line })) (sym meet)

-- with at most one link down
pub one_way : (links : Links) (k : ℕ) (d : DatagramRecord) (before : List ControllerState)
    (c : ControllerState) (behind : List ControllerState) → IsOnlyDown links (length (before ++ c ∷ behind)) k
    → d.circulating ≡ false → AreOthers d before behind
    → IsWay d before c behind (travelled (calm links) (d ∷ []) (before ++ c ∷ behind))
one_way links k d before c behind one still others =
    let line : List ControllerState = before ++ c ∷ behind in
    let n : ℕ = length line in
    let meet : front links n ≡ back links n = front-is-back links n k one in
    subst (λ (t : Travelled). IsWay d before c behind t) (sym (travelled_pieces links d line still meet))
    (elim (placed (front links n) before c behind) [
      | inl p ↦ way_front _ _ (front links n) (turns links n) d before c behind others p
          (came_by (arrival_a links n) (λ none.
          let inside : length before < front links n = p.inside in
          let zero_front : front links n ≡ 0 = lost-front links n none in
          omega (arith, inside, zero_front)))
      | inr p ↦ way_behind _ _ (front links n) (turns links n) d before c behind others p
          (came_by (arrival_b links n) (λ none.
          let inside : front links n ≤ length before = p.inside in
          let all : back links n ≡ n = lost-back links n none in
          let size : length before < n = size_of_line before c behind in
          omega (arith, inside, all, size, meet)))
    ])
