-- A trip over a ring in any weather is, for the one slave that a datagram names, a trip with some fate.
use Rattle.std.proofs.Common.{◌≡◌, ℕ, Bool, true, false, cond, List, [], ◌∷◌, ◌++◌, map, length, None}
use Rattle.std.proofs.Common.{Some, refl, sym, ap, ◌∙◌, inl, inr, ◌||◌, ◌≤◌, ◌<◌, arith, subst}
use Rattle.std.specs.Prelude.{◌⊎◌, is_none, not}
use Rattle.ec_wire.specs.Datagram.{DatagramRecord}
use Rattle.ec_esc.specs.Pass.{PassedFrame, frame_pass, pass}
use Rattle.ec_esc.specs.State.{ControllerState}
use Rattle.ec_line.specs.Trip.{Passed, PassedLine, passed}
use Rattle.ec_app.specs.Lending.{with_controller}
use Rattle.ec_app.specs.Slave.{step}
use Rattle.ec_app.specs.State.{SlaveState}
use Rattle.ec_ring.specs.Links.{IsOnlyDown}
use Rattle.ec_ring.specs.Reach.{arrival_a, arrival_b, back, front, turns}
use Rattle.ec_ring.specs.Ring.{RingState, controllers, line_of, with_controllers}
use Rattle.ec_ring.specs.Travel.{Travelled, travelled}
use Rattle.ec_ring.specs.Weather.{calm}
use Rattle.ec_ring.specs.declared.links.Links.{Links}
use Rattle.ec_ring.specs.declared.weather.Weather.{Weather}
use Rattle.ec_ring.proofs.Laws.{front-is-back, length-controllers, lost-back, lost-front, travelled-trip}
use Rattle.ec_master.specs.Travelled.{AtMostOneDown}
use Rattle.ec_over_ring.specs.Question.{IsAlone, IsByStation}
use Rattle.ec_over_ring.specs.Recovery.{Fared, Fate, HasFate, IsCalm, fared, passed_if}
use Rattle.ec_over_ring.proofs.LineLemmas.{IsBehind, IsInFront, placed, turned}
use Rattle.ec_over_ring.proofs.QuestionLemmas.{controllers-of, one_changed, others_of, underway_of}
use Rattle.ec_over_ring.proofs.StationLemmas.{map_parts}
use Rattle.ec_over_ring.proofs.TripLemmas.{AreOthers, behind_first, behind_second, first_copy, front_first}
use Rattle.ec_over_ring.proofs.TripLemmas.{front_second, second_copy, second_is, second_sent, turned_datagram}
use Rattle.ec_over_ring.proofs.TripLemmas.{turned_state}
use Rattle.ec_over_ring.proofs.WayLemmas.{came_by, entries_of, size_of_line}

-- ---- one copy

-- a copy over the line is that copy at the one who is asked, who is passed or not
abbrev at_one : List ControllerState → List ControllerState → PassedFrame → PassedLine
at_one before behind p = record { frame = p.frame; line = before ++ p.state ∷ behind }

-- whether it is, by its place
abbrev Side : Bool → Type 0 → Type 0 → Type 0
Side passes P Q = ((passes ≡ true) × P) ⊎ ((passes ≡ false) × Q)

record IsAtOne (P Q : Type 0) (before : List ControllerState) (c : ControllerState)
    (behind : List ControllerState) (frame : List DatagramRecord) (p : PassedLine) : Type 0 where
  passes : Bool
  is : p ≡ at_one before behind (passed_if passes c frame)
  side : Side passes P Q

copy_a_at : (m : ℕ) (d : DatagramRecord) (before : List ControllerState) (c : ControllerState)
    (behind : List ControllerState) → AreOthers d before behind
    → IsInFront m before c behind ⊎ IsBehind m before c behind
    → IsAtOne (length before < m) (m ≤ length before) before c behind (d ∷ [])
    (first_copy m (before ++ c ∷ behind) d)
unfolding frame_pass
copy_a_at m d before c behind others (inl place) =
    record {
      passes = true;
      is = front_first m d before c behind others place;
      side = inl (refl, place.inside);
    }
copy_a_at m d before c behind others (inr place) =
    record {
      passes = false;
      is = behind_first m d before c behind others place;
      side = inr (refl, place.inside);
    }

-- a circulating datagram behind the one
second_passes : (b : Bool) (d : DatagramRecord) (c : ControllerState)
    → record {
      frame = turned (cond b true d.circulating) (pass c d).datagram ∷ [];
      state = (pass c d).state;
    }
    ≡ frame_pass c (second_sent b d)
unfolding frame_pass
second_passes b d c =
    let bit : Bool = cond b true d.circulating in
    sym (ap (λ (f : List DatagramRecord). frame_pass c f) (second_is b d)
    ∙ ap (λ (x : DatagramRecord). record { frame = x ∷ []; state = (pass c (turned bit d)).state })
    (turned_datagram c d bit)
    ∙ ap (λ (x : ControllerState). record { frame = turned bit (pass c d).datagram ∷ []; state = x })
    (turned_state c d bit))

copy_b_at : (m : ℕ) (b : Bool) (d : DatagramRecord) (before : List ControllerState) (c : ControllerState)
    (behind : List ControllerState) → AreOthers d before behind
    → IsInFront m before c behind ⊎ IsBehind m before c behind
    → IsAtOne (m ≤ length before) (length before < m) before c behind (second_sent b d)
    (second_copy m b (before ++ c ∷ behind) d)
copy_b_at m b d before c behind others (inl place) = record {
  passes = false;
  is = front_second m b d before c behind others place.inside
      ∙ ap (λ (f : List DatagramRecord). record { frame = f; line = before ++ c ∷ behind })
      (sym (second_is b d));
  side = inr (refl, place.inside);
}
copy_b_at m b d before c behind others (inr place) = record {
  passes = true;
  is = behind_second m b d before c behind others place
      ∙ ap (λ (p : PassedFrame). at_one before behind p) (second_passes b d c);
  side = inl (refl, place.inside);
}

-- ---- both

-- what comes back, and the line
abbrev over_line : List ControllerState → List ControllerState → Fared → Travelled
over_line before behind f = record { came = f.came; line = before ++ f.state ∷ behind }

record IsFate (m k : ℕ) (lost_a lost_b : Bool) (d : DatagramRecord) (before : List ControllerState)
    (c : ControllerState) (behind : List ControllerState) (t : Travelled) : Type 0 where
  fate : Fate
  once : fate.steps ≡ 1
  is : t ≡ over_line before behind (fared fate c (d ∷ []))
  side_a : Side fate.passes_a (length before < m) (m ≤ length before)
  side_b : Side fate.passes_b (k ≤ length before) (length before < k)
  a_is : fate.lost_a ≡ lost_a
  b_is : fate.lost_b ≡ lost_b

-- unless they are lost
abbrev came_back : Bool → Bool → Passed → Travelled
came_back lost_a lost_b p = record {
  came = record { a = cond lost_a None (Some p.a); b = cond lost_b None (Some p.b) };
  line = p.line;
}

a_first : (m k : ℕ) (turns lost_a lost_b : Bool) (d : DatagramRecord) (before : List ControllerState)
    (c : ControllerState) (behind : List ControllerState) → AreOthers d before behind
    → let a = first_copy m (before ++ c ∷ behind) d in
    let b = second_copy k turns a.line d in
    IsFate m k lost_a lost_b d before c behind
    (came_back lost_a lost_b (record { a = a.frame; b = b.frame; line = b.line }))
a_first m k turns lost_a lost_b d before c behind others =
    let a : IsAtOne (length before < m) (m ≤ length before) before c behind (d ∷ [])
    (first_copy m (before ++ c ∷ behind) d) =
    copy_a_at m d before c behind others (placed m before c behind) in
    let x : PassedFrame = passed_if a.passes c (d ∷ []) in
    let b : IsAtOne (k ≤ length before) (length before < k) before x.state behind (second_sent turns d)
    (second_copy k turns (before ++ x.state ∷ behind) d) =
    copy_b_at k turns d before x.state behind others (placed k before x.state behind) in
    record {
      fate = record {
        passes_a = a.passes;
        passes_b = b.passes;
        b_first = false;
        turned = turns;
        lost_a = lost_a;
        lost_b = lost_b;
        steps = 1;
      };
      once = refl;
      side_a = a.side;
      side_b = b.side;
      a_is = refl;
      b_is = refl;
      is = ap (λ (p : PassedLine). let z = second_copy k turns p.line d in
          came_back lost_a lost_b (record { a = p.frame; b = z.frame; line = z.line })) a.is
          ∙ ap (λ (z : PassedLine).
          came_back lost_a lost_b (record { a = x.frame; b = z.frame; line = z.line })) b.is;
    }

b_first : (m k : ℕ) (turns lost_a lost_b : Bool) (d : DatagramRecord) (before : List ControllerState)
    (c : ControllerState) (behind : List ControllerState) → AreOthers d before behind
    → let b = second_copy k turns (before ++ c ∷ behind) d in
    let a = first_copy m b.line d in
    IsFate m k lost_a lost_b d before c behind
    (came_back lost_a lost_b (record { a = a.frame; b = b.frame; line = a.line }))
b_first m k turns lost_a lost_b d before c behind others =
    let b : IsAtOne (k ≤ length before) (length before < k) before c behind (second_sent turns d)
    (second_copy k turns (before ++ c ∷ behind) d) =
    copy_b_at k turns d before c behind others (placed k before c behind) in
    let x : PassedFrame = passed_if b.passes c (second_sent turns d) in
    let a : IsAtOne (length before < m) (m ≤ length before) before x.state behind (d ∷ [])
    (first_copy m (before ++ x.state ∷ behind) d) =
    copy_a_at m d before x.state behind others (placed m before x.state behind) in
    record {
      fate = record {
        passes_a = a.passes;
        passes_b = b.passes;
        b_first = true;
        turned = turns;
        lost_a = lost_a;
        lost_b = lost_b;
        steps = 1;
      };
      once = refl;
      side_a = a.side;
      side_b = b.side;
      a_is = refl;
      b_is = refl;
      is = ap (λ (p : PassedLine). let z = first_copy m p.line d in
          came_back lost_a lost_b (record { a = z.frame; b = p.frame; line = z.line })) b.is
          ∙ ap (λ (z : PassedLine).
          came_back lost_a lost_b (record { a = z.frame; b = x.frame; line = z.line })) a.is;
    }

-- ---- the trip

-- copies that pass a line in this order
abbrev in_order : Bool → Bool → Bool → Bool → ℕ → ℕ → List ControllerState → DatagramRecord → Travelled
in_order b_goes turns lost_a lost_b m k line d =
    came_back lost_a lost_b
    (cond b_goes
    (let b = second_copy k turns line d in
    let a = first_copy m b.line d in record { a = a.frame; b = b.frame; line = a.line })
    (let a = first_copy m line d in
    let b = second_copy k turns a.line d in record { a = a.frame; b = b.frame; line = b.line }))

either_order : (b_goes turns lost_a lost_b : Bool) (m k : ℕ) (d : DatagramRecord)
    (before : List ControllerState) (c : ControllerState) (behind : List ControllerState)
    → AreOthers d before behind
    → IsFate m k lost_a lost_b d before c behind
    (in_order b_goes turns lost_a lost_b m k (before ++ c ∷ behind) d)
either_order false turns lost_a lost_b m k d before c behind others =
    a_first m k turns lost_a lost_b d before c behind others
either_order true turns lost_a lost_b m k d before c behind others =
    b_first m k turns lost_a lost_b d before c behind others

travels_so : (w : Weather) (d : DatagramRecord) (line : List ControllerState) → d.circulating ≡ false
    → let n = length line in
    travelled w (d ∷ []) line
    ≡ in_order w.b_first (turns w.b n) (w.lost_a || is_none (arrival_a w.a n))
    (w.lost_b || is_none (arrival_b w.b n)) (front w.a n) (back w.b n) line d
unfolding passed
travels_so w d line still = travelled-trip w (entries_of d) line still

line_fate : (w : Weather) (d : DatagramRecord) (before : List ControllerState) (c : ControllerState)
    (behind : List ControllerState) → d.circulating ≡ false → AreOthers d before behind
    → let n = length (before ++ c ∷ behind) in
    IsFate (front w.a n) (back w.b n) (w.lost_a || is_none (arrival_a w.a n))
    (w.lost_b || is_none (arrival_b w.b n)) d before c behind
    (travelled w (d ∷ []) (before ++ c ∷ behind))
line_fate w d before c behind still others =
    let line : List ControllerState = before ++ c ∷ behind in
    let n : ℕ = length line in
    let fate = either_order w.b_first (turns w.b n) (w.lost_a || is_none (arrival_a w.a n))
    (w.lost_b || is_none (arrival_b w.b n)) (front w.a n) (back w.b n) d before c behind others in
    record {
      fate = fate.fate;
      once = fate.once;
      is = travels_so w d line still ∙ fate.is;
      side_a = fate.side_a;
      side_b = fate.side_b;
      a_is = fate.a_is;
      b_is = fate.b_is;
    }

-- ---- over a ring

-- the fate over the line of a ring's controllers
abbrev LineFate : Weather → DatagramRecord → List SlaveState → SlaveState → List SlaveState → Type 0
LineFate w d before s behind =
    let line = controllers before ++ s.controller ∷ controllers behind in
    let n = length line in
    IsFate (front w.a n) (back w.b n) (w.lost_a || is_none (arrival_a w.a n))
    (w.lost_b || is_none (arrival_b w.b n)) d (controllers before) s.controller (controllers behind)
    (travelled w (d ∷ []) line)

fate_over_line : (w : Weather) (d : DatagramRecord) (r : RingState) (before : List SlaveState)
    (s : SlaveState) (behind : List SlaveState) → IsByStation d → IsAlone d r before s behind
    → LineFate w d before s behind
fate_over_line w d r before s behind asked alone =
    line_fate w d (controllers before) s.controller (controllers behind) asked.circulating (record {
      underway = underway_of d asked;
      first = others_of d before alone.others_before;
      last = others_of d behind alone.others_behind;
    })

fate_over_ring : (w : Weather) (d : DatagramRecord) (r : RingState) (before : List SlaveState)
    (s : SlaveState) (behind : List SlaveState) → IsAlone d r before s behind → LineFate w d before s behind
    → HasFate w d r before s behind
fate_over_ring w d r before s behind alone fate =
    let xs : List ControllerState = controllers before in
    let ys : List ControllerState = controllers behind in
    let c : ControllerState = s.controller in
    let t : Travelled = travelled w (d ∷ []) (line_of r) in
    let line_is : line_of r ≡ xs ++ c ∷ ys =
    ap (λ (ss : List SlaveState). controllers ss) alone.slaves ∙ controllers-of before s behind in
    let f : Fared = fared fate.fate c (d ∷ []) in
    let x : SlaveState = with_controller s f.state in
    let is : t ≡ over_line xs ys f =
    ap (λ (cs : List ControllerState). travelled w (d ∷ []) cs) line_is ∙ fate.is in
    record {
      fate = fate.fate;
      once = fate.once;
      came = ap (λ (y : Travelled). y.came) is;
      slaves = ap (λ (y : Travelled). map step (with_controllers r.slaves y.line)) is
          ∙ ap (λ (ss : List SlaveState). map step (with_controllers ss (xs ++ f.state ∷ ys))) alone.slaves
          ∙ ap (λ (ss : List SlaveState). map step ss) (one_changed before s behind f.state)
          ∙ map_parts before x behind;
    }

pub ring_fate : (w : Weather) (d : DatagramRecord) (r : RingState) (before : List SlaveState) (s : SlaveState)
    (behind : List SlaveState) → IsByStation d → IsAlone d r before s behind
    → HasFate w d r before s behind
ring_fate w d r before s behind asked alone =
    fate_over_ring w d r before s behind alone (fate_over_line w d r before s behind asked alone)

-- ---- with at most one link down

-- one copy alone passes the one, and comes back
one_passes : (p q : Bool) (place m k n : ℕ) → m ≡ k → Side p (place < m) (m ≤ place)
    → Side q (k ≤ place) (place < k) → q ≡ not p
one_passes p q place m k n same (inl a) (inl b) =
    let x : place < m = a.1 in let y : k ≤ place = b.1 in absurd (omega (arith, same, x, y))
one_passes p q place m k n same (inl a) (inr b) = b.0 ∙ sym (ap (λ (x : Bool). not x) a.0)
one_passes p q place m k n same (inr a) (inl b) = b.0 ∙ sym (ap (λ (x : Bool). not x) a.0)
one_passes p q place m k n same (inr a) (inr b) =
    let x : m ≤ place = a.1 in let y : place < k = b.1 in absurd (omega (arith, same, x, y))

it_comes : (p q lost_a lost_b : Bool) (place m k : ℕ) → m ≡ k → Side p (place < m) (m ≤ place)
    → (place < m → lost_a ≡ false) → (k ≤ place → lost_b ≡ false) → cond p lost_a lost_b ≡ false
it_comes p q lost_a lost_b place m k same (inl a) first second =
    ap (λ (b : Bool). cond b lost_a lost_b) a.0 ∙ first a.1
it_comes p q lost_a lost_b place m k same (inr a) first second =
    let x : m ≤ place = a.1 in
    ap (λ (b : Bool). cond b lost_a lost_b) a.0 ∙ second (omega (arith, same, x))

is_calm : (links : Links) (one : ℕ) (d : DatagramRecord) (before : List ControllerState)
    (c : ControllerState) (behind : List ControllerState) (t : Travelled)
    → let n = length (before ++ c ∷ behind) in
    IsOnlyDown links n one
    → (fate : IsFate (front links n) (back links n) (is_none (arrival_a links n))
    (is_none (arrival_b links n)) d before c behind t)
    → IsCalm fate.fate
is_calm links one d before c behind t only fate =
    let n : ℕ = length (before ++ c ∷ behind) in
    let place : ℕ = length before in
    let same : front links n ≡ back links n = front-is-back links n one only in
    let small : place < n = size_of_line before c behind in
    record {
      one = one_passes fate.fate.passes_a fate.fate.passes_b place (front links n) (back links n) n same
          fate.side_a fate.side_b;
      back = it_comes fate.fate.passes_a fate.fate.passes_b fate.fate.lost_a fate.fate.lost_b place
          (front links n) (back links n) same fate.side_a
          (λ inside. fate.a_is ∙ came_by (arrival_a links n) (λ none.
          let zero_front : front links n ≡ 0 = lost-front links n none in
          absurd (omega (arith, inside, zero_front))))
          (λ past. fate.b_is ∙ came_by (arrival_b links n) (λ none.
          let all : back links n ≡ n = lost-back links n none in
          absurd (omega (arith, past, all, small))));
      some = let once = fate.once in omega (arith, once);
    }

pub record HasCalmFate (d : DatagramRecord) (r : RingState) (before : List SlaveState) (s : SlaveState)
    (behind : List SlaveState) : Type 0 where
  pub has : HasFate (calm r.links) d r before s behind
  pub calm : IsCalm has.fate

pub calm_ring_fate : (d : DatagramRecord) (r : RingState) (before : List SlaveState) (s : SlaveState)
    (behind : List SlaveState) → AtMostOneDown r → IsByStation d → IsAlone d r before s behind
    → HasCalmFate d r before s behind
unfolding fate_over_ring fate_over_line
calm_ring_fate d r before s behind down asked alone =
    let w : Weather = calm r.links in
    let xs : List ControllerState = controllers before in
    let ys : List ControllerState = controllers behind in
    let line : List ControllerState = xs ++ s.controller ∷ ys in
    let fate : LineFate w d before s behind = fate_over_line w d r before s behind asked alone in
    let size : length r.slaves ≡ length line =
    sym (length-controllers r.slaves)
    ∙ ap (λ (ss : List SlaveState). length (controllers ss)) alone.slaves
    ∙ ap (λ (cs : List ControllerState). length cs) (controllers-of before s behind) in
    record {
      has = fate_over_ring w d r before s behind alone fate;
      calm = is_calm r.links down.0 d xs s.controller ys (travelled w (d ∷ []) line)
          (subst (λ (n : ℕ). IsOnlyDown r.links n down.0) size down.1) fate;
    }
