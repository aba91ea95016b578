-- The trip of one datagram over a line with at most one link down, by the place of the one who is asked:
-- copy A passes the first part of the line, copy B the last.
use Rattle.std.proofs.Common.{◌≡◌, ℕ, ◌<◌, ◌≤◌, Bool, true, false, cond, List, [], ◌∷◌, ◌++◌}
use Rattle.std.proofs.Common.{length, take, drop, refl, sym, ap, ◌∙◌, arith, subst, zero, suc, inl, inr}
use Rattle.std.specs.Prelude.{◌⊎◌}
use Rattle.std.specs.List.{AllByRecursion}
use Rattle.std.proofs.lemmas.List.{take-append-drop}
use Rattle.ec_regs.proofs.Laws.{each-take, each-drop}
use Rattle.ec_wire.specs.Datagram.{DatagramRecord}
use Rattle.ec_esc.specs.State.{ControllerState}
use Rattle.ec_esc.specs.Pass.{pass, Passed as OnePassed}
use Rattle.ec_line.specs.Trip.{PassedLine, line_pass, back_pass, front_pass, circulated}
use Rattle.ec_over_ring.specs.Question.{IsOther}
use Rattle.ec_over_ring.proofs.LineLemmas.{IsUnderway, IsInFront, IsBehind, placed, others_pass, one_pass}
use Rattle.ec_over_ring.proofs.LineLemmas.{turned, turned_pass, others_last}

-- ---- one datagram, and one who is asked

-- the others of a line are others for the datagram
pub record AreOthers (d : DatagramRecord) (before behind : List ControllerState) : Type 0 where
  pub underway : IsUnderway d
  pub first : AllByRecursion (IsOther d) before
  pub last : AllByRecursion (IsOther d) behind

-- one copy brings the pass, and the other what was sent, circulating or not
pub record IsFirst (d e : DatagramRecord) (a b : List DatagramRecord) : Type 0 where
  pub bit : Bool
  pub first : a ≡ e ∷ []
  pub second : b ≡ turned bit d ∷ []

pub record IsSecond (d e : DatagramRecord) (a b : List DatagramRecord) : Type 0 where
  pub bit : Bool
  pub first : a ≡ d ∷ []
  pub second : b ≡ turned bit e ∷ []

abbrev pub OneBrings : DatagramRecord → DatagramRecord → List DatagramRecord → List DatagramRecord → Type 0
OneBrings d e a b = IsFirst d e a b ⊎ IsSecond d e a b

-- ---- both copies, by the place of the break

-- copy B as it starts over a part of the line
abbrev pub second_sent : Bool → DatagramRecord → List DatagramRecord
second_sent b d = cond b (circulated (d ∷ [])) (d ∷ [])

pub second_is : (b : Bool) (d : DatagramRecord) → second_sent b d ≡ turned (cond b true d.circulating) d ∷ []
second_is true d = refl
second_is false d = refl

-- copy A passed the first m of a line, and copy B those from m on
abbrev pub first_copy : ℕ → List ControllerState → DatagramRecord → PassedLine
first_copy m line d = front_pass m line (d ∷ [])

abbrev pub second_copy : ℕ → Bool → List ControllerState → DatagramRecord → PassedLine
second_copy m b line d = back_pass m line (second_sent b d)

underway_turned : (d : DatagramRecord) (b : Bool) → IsUnderway d → IsUnderway (turned b d)
underway_turned d b asked =
    record { station = asked.station; payload = asked.payload; counter = asked.counter }

-- copy B passes others
pub second_others : (m : ℕ) (b : Bool) (line : List ControllerState) (d : DatagramRecord) → IsUnderway d
    → AllByRecursion (IsOther d) (drop m line)
    → second_copy m b line d ≡ record { frame = turned (cond b true d.circulating) d ∷ []; line = line }
second_others m b line d asked others =
    let e = turned (cond b true d.circulating) d in
    ap (λ (f : List DatagramRecord). back_pass m line f) (second_is b d)
    ∙ ap (λ (p : PassedLine). record { frame = p.frame; line = take m line ++ p.line })
    (others_pass e (drop m line) (underway_turned d (cond b true d.circulating) asked)
    (others_last d e (drop m line) refl others))
    ∙ ap (λ (xs : List ControllerState). record { frame = e ∷ []; line = xs }) (take-append-drop m line)

-- ---- the one stands in front of the break

pieces : (before : List ControllerState) (x : ControllerState) (behind : List ControllerState) (n : ℕ)
    → (before ++ x ∷ take n behind) ++ drop n behind ≡ before ++ x ∷ behind
pieces [] x behind n = ap (λ (xs : List ControllerState). x ∷ xs) (take-append-drop n behind)
pieces (y ∷ before) x behind n = ap (λ (xs : List ControllerState). y ∷ xs) (pieces before x behind n)

abbrev front_of : DatagramRecord → List ControllerState → List ControllerState → PassedLine
front_of d xs ys = record {
  frame = (line_pass xs (d ∷ [])).frame;
  line = (line_pass xs (d ∷ [])).line ++ ys;
}

-- copy A passes it
pub front_first : (m : ℕ) (d : DatagramRecord) (before : List ControllerState) (c : ControllerState)
    (behind : List ControllerState) → AreOthers d before behind → IsInFront m before c behind
    → first_copy m (before ++ c ∷ behind) d
    ≡ record { frame = (pass c d).datagram ∷ []; line = before ++ (pass c d).state ∷ behind }
front_first m d before c behind others place =
    let n = place.count in
    let line : List ControllerState = before ++ c ∷ behind in
    ap (λ (xs : List ControllerState). front_of d xs (drop m line)) place.front
    ∙ ap (λ (ys : List ControllerState). front_of d (before ++ c ∷ take n behind) ys) place.back
    ∙ ap (λ (p : PassedLine). record { frame = p.frame; line = p.line ++ drop n behind })
    (one_pass d before c (take n behind) others.underway others.first
    (each-take (IsOther d) n behind others.last))
    ∙ ap (λ (xs : List ControllerState). record { frame = (pass c d).datagram ∷ []; line = xs })
    (pieces before (pass c d).state behind n)

-- behind it are others
others_behind : (m : ℕ) (d : DatagramRecord) (before : List ControllerState) (c : ControllerState)
    (behind : List ControllerState) → AreOthers d before behind → length before < m
    → AllByRecursion (IsOther d) (drop m (before ++ c ∷ behind))
others_behind m d before c behind others inside = elim (placed m before c behind) [
  | inl p ↦ subst (λ (xs : List ControllerState). AllByRecursion (IsOther d) xs) (sym p.back)
      (each-drop (IsOther d) p.count behind others.last)
  | inr p ↦ absurd (let q : m ≤ length before = p.inside in omega (arith, q, inside))
]

-- and copy B passes those
pub front_second : (m : ℕ) (b : Bool) (d : DatagramRecord) (before : List ControllerState)
    (c : ControllerState) (behind : List ControllerState) → AreOthers d before behind → length before < m
    → second_copy m b (before ++ c ∷ behind) d
    ≡ record { frame = turned (cond b true d.circulating) d ∷ []; line = before ++ c ∷ behind }
front_second m b d before c behind others inside =
    second_others m b (before ++ c ∷ behind) d others.underway
    (others_behind m d before c behind others inside)

-- ---- it stands behind the break

-- copy A passes others
pub behind_first : (m : ℕ) (d : DatagramRecord) (before : List ControllerState) (c : ControllerState)
    (behind : List ControllerState) → AreOthers d before behind → IsBehind m before c behind
    → first_copy m (before ++ c ∷ behind) d ≡ record { frame = d ∷ []; line = before ++ c ∷ behind }
behind_first m d before c behind others place =
    let line : List ControllerState = before ++ c ∷ behind in
    ap (λ (p : PassedLine). record { frame = p.frame; line = p.line ++ drop m line })
    (others_pass d (take m line) others.underway
    (subst (λ (xs : List ControllerState). AllByRecursion (IsOther d) xs) (sym place.front)
    (each-take (IsOther d) m before others.first)))
    ∙ ap (λ (xs : List ControllerState). record { frame = d ∷ []; line = xs }) (take-append-drop m line)

pieces_behind : (m : ℕ) (before behind : List ControllerState)
    → take m before ++ (drop m before ++ behind) ≡ before ++ behind
pieces_behind zero before behind = refl
pieces_behind (suc m) [] behind = refl
pieces_behind (suc m) (x ∷ before) behind =
    ap (λ (xs : List ControllerState). x ∷ xs) (pieces_behind m before behind)

abbrev back_of : DatagramRecord → List ControllerState → List ControllerState → PassedLine
back_of d xs ys = record {
  frame = (line_pass ys (d ∷ [])).frame;
  line = xs ++ (line_pass ys (d ∷ [])).line;
}

-- a circulating datagram is passed as one that does not circulate
pub turned_datagram : (c : ControllerState) (d : DatagramRecord) (b : Bool)
    → (pass c (turned b d)).datagram ≡ turned b (pass c d).datagram
turned_datagram c d b = ap (λ (p : OnePassed). p.datagram) (turned_pass b c d)

pub turned_state : (c : ControllerState) (d : DatagramRecord) (b : Bool)
    → (pass c (turned b d)).state ≡ (pass c d).state
turned_state c d b = ap (λ (p : OnePassed). p.state) (turned_pass b c d)

-- and copy B passes it
pub behind_second : (m : ℕ) (b : Bool) (d : DatagramRecord) (before : List ControllerState)
    (c : ControllerState) (behind : List ControllerState) → AreOthers d before behind
    → IsBehind m before c behind
    → second_copy m b (before ++ c ∷ behind) d
    ≡ record {
      frame = turned (cond b true d.circulating) (pass c d).datagram ∷ [];
      line = before ++ (pass c d).state ∷ behind;
    }
behind_second m b d before c behind others place =
    let line : List ControllerState = before ++ c ∷ behind in
    let bit : Bool = cond b true d.circulating in
    let e : DatagramRecord = turned bit d in
    ap (λ (f : List DatagramRecord). back_pass m line f) (second_is b d)
    ∙ ap (λ (xs : List ControllerState). back_of e xs (drop m line)) place.front
    ∙ ap (λ (ys : List ControllerState). back_of e (take m before) ys) place.back
    ∙ ap (λ (p : PassedLine). record { frame = p.frame; line = take m before ++ p.line })
    (one_pass e (drop m before) c behind (underway_turned d bit others.underway)
    (others_last d e (drop m before) refl (each-drop (IsOther d) m before others.first))
    (others_last d e behind refl others.last))
    ∙ ap (λ (xs : List ControllerState). record { frame = (pass c e).datagram ∷ []; line = xs })
    (pieces_behind m before ((pass c e).state ∷ behind))
    ∙ ap (λ (x : DatagramRecord). record { frame = x ∷ []; line = before ++ (pass c e).state ∷ behind })
    (turned_datagram c d bit)
    ∙ ap (λ (x : ControllerState).
    record { frame = turned bit (pass c d).datagram ∷ []; line = before ++ x ∷ behind })
    (turned_state c d bit)
