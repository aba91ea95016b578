-- What came to a line on a trip is a trip over a line that moves.
use Rattle.std.specs.Prelude.{◌≡◌, ◌⊎◌, ℕ, false, List, length, Option, None, Some, IfSome, refl}
use Rattle.std.proofs.Common.{ap, sym, subst, ◌∙◌, inl, inr}
use Rattle.ec_wire.specs.Datagram.{DatagramRecord}
use Rattle.ec_esc.specs.State.{ControllerState}
use Rattle.ec_line.specs.Moving.{Visit, AllMove, befores, when_a, when_b, laters}
use Rattle.ec_line.specs.Trip.{front_pass, back_pass}
use Rattle.ec_ring.specs.Reach.{front, back, arrival_a, arrival_b}
use Rattle.ec_ring.specs.Walk.{Walked, is_circulating}
use Rattle.ec_ring.specs.declared.port.Port.TheVariants.{A, B}
use Rattle.ec_ring.specs.declared.weather.Weather.{Weather}
use Rattle.ec_ring.proofs.Laws.{length-front_pass, length-back_pass}
use Rattle.ecat_served.specs.History.{AllHaveMoved, AreControllers, IsHistory, Packet, walk_of}
use Rattle.ecat_served.specs.Trips.{AreMetOn, AreOfTrip, IsCopy, IsServedTrip, Sent, Traffic, came_from}
use Rattle.ecat_served.proofs.CopyLemmas.{starts, back_as, way_a, way_b, walks_a, walks_b, came_a, came_b}
use Rattle.ecat_served.proofs.CopyLemmas.{never_back, leaves_a, leaves_b}
use Rattle.ecat_served.proofs.HistoryLemmas.{Passes, PassBoth, no_copy, copy_a_alone, copy_b_alone, both_came}
use Rattle.ecat_served.proofs.MovedLemmas.{all_moved-refl, all_moved-length}
use Rattle.ecat_served.proofs.VisitLemmas.{AreVisits, Between, visits, visits_are}

-- ---- the lines that both copies met

-- what each copy makes of the line that it met
abbrev pub left_a : Sent → Weather → ℕ → List ControllerState → List ControllerState
left_a sent w n met = (front_pass (front w.a n) met sent.a).line

abbrev pub left_b : Sent → Weather → ℕ → List ControllerState → List ControllerState
left_b sent w n met = (back_pass (back w.b n) met (starts w.b n sent.b)).line

abbrev pub frame_a : Sent → Weather → ℕ → List ControllerState → List DatagramRecord
frame_a sent w n met = (front_pass (front w.a n) met sent.a).frame

abbrev pub frame_b : Sent → Weather → ℕ → List ControllerState → List DatagramRecord
frame_b sent w n met = (back_pass (back w.b n) met (starts w.b n sent.b)).frame

record Meets (sent : Sent) (w : Weather) (n : ℕ) (line : List ControllerState) (a b : Option Packet)
    (later : List ControllerState) : Type 0 where
  met_a : List ControllerState
  met_b : List ControllerState
  is_a : IfSome a (λ p. met_a ≡ p.met)
  is_b : IfSome b (λ p. met_b ≡ p.met)
  controllers_a : AreControllers met_a
  controllers_b : AreControllers met_b
  moved : (AllHaveMoved line met_a × AllHaveMoved (left_a sent w n met_a) met_b
      × AllHaveMoved (left_b sent w n met_b) later)
      ⊎ (AllHaveMoved line met_b × AllHaveMoved (left_b sent w n met_b) met_a
      × AllHaveMoved (left_a sent w n met_a) later)
  came_a : came_from w.lost_a a ≡ back_as w.lost_a (arrival_a w.a n) (frame_a sent w n met_a)
  came_b : came_from w.lost_b b ≡ back_as w.lost_b (arrival_b w.b n) (frame_b sent w n met_b)

abbrev Copy_a : Sent → Weather → ℕ → Option Packet → Type 0
Copy_a sent w n o = IsCopy A w.a sent.a (arrival_a w.a n) o

abbrev Copy_b : Sent → Weather → ℕ → Option Packet → Type 0
Copy_b sent w n o = IsCopy B w.b sent.b (arrival_b w.b n) o

a_then_b : (sent : Sent) (w : Weather) (n : ℕ) (line later : List ControllerState) (p q : Packet)
    → length line ≡ n → is_circulating sent.b ≡ false → Copy_a sent w n (Some p) → Copy_b sent w n (Some q)
    → PassBoth line p q later → Meets sent w n line (Some p) (Some q) later
a_then_b sent w n line later p q size still is_p is_q both =
    let size_p : length p.met ≡ n = all_moved-length line p.met both.before ∙ size in
    let way_p : walk_of p ≡ way_a w.a n p.met sent.a = walks_a p w.a sent.a (arrival_a w.a n) n is_p size_p in
    let second : AllHaveMoved (left_a sent w n p.met) q.met =
    subst (λ (x : Walked). AllHaveMoved x.line q.met) way_p both.rest.before in
    let size_q : length q.met ≡ n =
    all_moved-length (left_a sent w n p.met) q.met second ∙ length-front_pass (front w.a n) p.met sent.a
    ∙ size_p in
    let way_q : walk_of q ≡ way_b w.b n q.met sent.b =
    walks_b q w.b sent.b (arrival_b w.b n) n still is_q size_q in
    record {
      met_a = p.met;
      met_b = q.met;
      is_a = refl;
      is_b = refl;
      controllers_a = both.controllers;
      controllers_b = both.rest.controllers;
      moved = inl (
        both.before,
        second,
        subst (λ (x : Walked). AllHaveMoved x.line later) way_q both.rest.behind,
      );
      came_a = came_a w.lost_a p w.a n sent.a way_p;
      came_b = came_b w.lost_b q w.b n sent.b way_q;
    }

b_then_a : (sent : Sent) (w : Weather) (n : ℕ) (line later : List ControllerState) (p q : Packet)
    → length line ≡ n → is_circulating sent.b ≡ false → Copy_a sent w n (Some p) → Copy_b sent w n (Some q)
    → PassBoth line q p later → Meets sent w n line (Some p) (Some q) later
b_then_a sent w n line later p q size still is_p is_q both =
    let size_q : length q.met ≡ n = all_moved-length line q.met both.before ∙ size in
    let way_q : walk_of q ≡ way_b w.b n q.met sent.b =
    walks_b q w.b sent.b (arrival_b w.b n) n still is_q size_q in
    let second : AllHaveMoved (left_b sent w n q.met) p.met =
    subst (λ (x : Walked). AllHaveMoved x.line p.met) way_q both.rest.before in
    let size_p : length p.met ≡ n =
    all_moved-length (left_b sent w n q.met) p.met second
    ∙ length-back_pass (back w.b n) q.met (starts w.b n sent.b) ∙ size_q in
    let way_p : walk_of p ≡ way_a w.a n p.met sent.a = walks_a p w.a sent.a (arrival_a w.a n) n is_p size_p in
    record {
      met_a = p.met;
      met_b = q.met;
      is_a = refl;
      is_b = refl;
      controllers_a = both.rest.controllers;
      controllers_b = both.controllers;
      moved = inr (
        both.before,
        second,
        subst (λ (x : Walked). AllHaveMoved x.line later) way_p both.rest.behind,
      );
      came_a = came_a w.lost_a p w.a n sent.a way_p;
      came_b = came_b w.lost_b q w.b n sent.b way_q;
    }

-- copy A came alone: copy B, which passes nobody, met the line as copy A did
a_alone : (sent : Sent) (w : Weather) (n : ℕ) (line later : List ControllerState) (p : Packet)
    → length line ≡ n → Copy_a sent w n (Some p) → Copy_b sent w n None → Passes line p later
    → Meets sent w n line (Some p) None later
a_alone sent w n line later p size is_p never passes =
    let size_p : length p.met ≡ n = all_moved-length line p.met passes.before ∙ size in
    let way_p : walk_of p ≡ way_a w.a n p.met sent.a = walks_a p w.a sent.a (arrival_a w.a n) n is_p size_p in
    record {
      met_a = p.met;
      met_b = p.met;
      is_a = refl;
      is_b = tt;
      controllers_a = passes.controllers;
      controllers_b = passes.controllers;
      moved = inr (
        passes.before,
        subst (λ (x : List ControllerState). AllHaveMoved x p.met)
            (sym (leaves_b w.b n p.met (starts w.b n sent.b) size_p never)) (all_moved-refl p.met),
        subst (λ (x : Walked). AllHaveMoved x.line later) way_p passes.behind,
      );
      came_a = came_a w.lost_a p w.a n sent.a way_p;
      came_b = never_back w.lost_b (arrival_b w.b n) (frame_b sent w n p.met) never;
    }

-- copy B came alone
b_alone : (sent : Sent) (w : Weather) (n : ℕ) (line later : List ControllerState) (q : Packet)
    → length line ≡ n → is_circulating sent.b ≡ false → Copy_a sent w n None → Copy_b sent w n (Some q)
    → Passes line q later → Meets sent w n line None (Some q) later
b_alone sent w n line later q size still never is_q passes =
    let size_q : length q.met ≡ n = all_moved-length line q.met passes.before ∙ size in
    let way_q : walk_of q ≡ way_b w.b n q.met sent.b =
    walks_b q w.b sent.b (arrival_b w.b n) n still is_q size_q in
    record {
      met_a = q.met;
      met_b = q.met;
      is_a = tt;
      is_b = refl;
      controllers_a = passes.controllers;
      controllers_b = passes.controllers;
      moved = inl (
        passes.before,
        subst (λ (x : List ControllerState). AllHaveMoved x q.met)
            (sym (leaves_a w.a n q.met sent.a never)) (all_moved-refl q.met),
        subst (λ (x : Walked). AllHaveMoved x.line later) way_q passes.behind,
      );
      came_a = never_back w.lost_a (arrival_a w.a n) (frame_a sent w n q.met) never;
      came_b = came_b w.lost_b q w.b n sent.b way_q;
    }

-- neither came
neither : (sent : Sent) (w : Weather) (n : ℕ) (line later : List ControllerState) → length line ≡ n
    → AreControllers line → Copy_a sent w n None → Copy_b sent w n None → AllHaveMoved line later
    → Meets sent w n line None None later
neither sent w n line later size controllers never_a never_b moved = record {
  met_a = line;
  met_b = line;
  is_a = tt;
  is_b = tt;
  controllers_a = controllers;
  controllers_b = controllers;
  moved = inl (
    all_moved-refl line,
    subst (λ (x : List ControllerState). AllHaveMoved x line) (sym (leaves_a w.a n line sent.a never_a))
        (all_moved-refl line),
    subst (λ (x : List ControllerState). AllHaveMoved x later)
        (sym (leaves_b w.b n line (starts w.b n sent.b) size never_b)) moved,
  );
  came_a = never_back w.lost_a (arrival_a w.a n) (frame_a sent w n line) never_a;
  came_b = never_back w.lost_b (arrival_b w.b n) (frame_b sent w n line) never_b;
}

meets : (sent : Sent) (w : Weather) (n : ℕ) (line later : List ControllerState) (ps : List Packet)
    (a b : Option Packet) → length line ≡ n → is_circulating sent.b ≡ false → AreControllers line
    → IsHistory line ps later → AreOfTrip a b ps → Copy_a sent w n a → Copy_b sent w n b
    → Meets sent w n line a b later
meets sent w n line later ps None None size still controllers history are is_a is_b =
    neither sent w n line later size controllers is_a is_b (no_copy line later ps history are)
meets sent w n line later ps None (Some q) size still controllers history are is_a is_b =
    b_alone sent w n line later q size still is_a is_b (copy_b_alone line later q ps history are)
meets sent w n line later ps (Some p) None size still controllers history are is_a is_b =
    a_alone sent w n line later p size is_a is_b (copy_a_alone line later p ps history are)
meets sent w n line later ps (Some p) (Some q) size still controllers history are is_a is_b =
    elim (both_came line later p q ps history are) [
      | inl both ↦ a_then_b sent w n line later p q size still is_a is_b both
      | inr both ↦ b_then_a sent w n line later p q size still is_a is_b both
    ]

-- ---- the visits of a trip

pub record Visited (sent : Sent) (w : Weather) (n : ℕ) (line : List ControllerState) (got : Traffic)
    (later : List ControllerState) (vs : List Visit) : Type 0 where
  pub before : befores vs ≡ line
  pub left : laters vs ≡ later
  pub met : AreMetOn got vs
  pub controllers_a : AreControllers (when_a vs)
  pub controllers_b : AreControllers (when_b vs)
  pub moves : AllMove vs (left_a sent w n (when_a vs)) (left_b sent w n (when_b vs))
  pub came_a : came_from w.lost_a got.a ≡ back_as w.lost_a (arrival_a w.a n) (frame_a sent w n (when_a vs))
  pub came_b : came_from w.lost_b got.b ≡ back_as w.lost_b (arrival_b w.b n) (frame_b sent w n (when_b vs))

met_as : (o : Option Packet) (x y : List ControllerState) → x ≡ y → IfSome o (λ p. y ≡ p.met)
    → IfSome o (λ p. x ≡ p.met)
met_as None x y same is = tt
met_as (Some p) x y same is = same ∙ is

visited : (sent : Sent) (w : Weather) (n : ℕ) (line later : List ControllerState) (got : Traffic)
    → Meets sent w n line got.a got.b later → (vs : List Visit) × Visited sent w n line got later vs
visited sent w n line later got m =
    let a : List ControllerState = m.met_a in
    let b : List ControllerState = m.met_b in
    let vs : List Visit = visits line a b later in
    let between : Between line a (left_a sent w n a) b (left_b sent w n b) later = record {
      size_a = length-front_pass (front w.a n) a sent.a;
      size_b = length-back_pass (back w.b n) b (starts w.b n sent.b);
      moved = m.moved;
    } in
    let is : AreVisits vs line a (left_a sent w n a) b (left_b sent w n b) later =
    visits_are line a (left_a sent w n a) b (left_b sent w n b) later between in (
      vs,
      record {
        before = is.before;
        left = is.left;
        met = record {
          a = met_as got.a (when_a vs) a is.at_a m.is_a;
          b = met_as got.b (when_b vs) b is.at_b m.is_b;
        };
        controllers_a = subst AreControllers (sym is.at_a) m.controllers_a;
        controllers_b = subst AreControllers (sym is.at_b) m.controllers_b;
        moves = subst
            (λ (x : List ControllerState). AllMove vs (left_a sent w n x) (left_b sent w n (when_b vs)))
            (sym is.at_a)
            (subst (λ (x : List ControllerState). AllMove vs (left_a sent w n a) (left_b sent w n x))
            (sym is.at_b) is.moves);
        came_a = m.came_a
            ∙ ap (λ (x : List ControllerState). back_as w.lost_a (arrival_a w.a n) (frame_a sent w n x))
            (sym is.at_a);
        came_b = m.came_b
            ∙ ap (λ (x : List ControllerState). back_as w.lost_b (arrival_b w.b n) (frame_b sent w n x))
            (sym is.at_b);
      },
    )

-- what came to a line on a trip visits its slaves so
pub trip_visited : (sent : Sent) (w : Weather) (line later : List ControllerState) (got : Traffic)
    → is_circulating sent.b ≡ false → IsServedTrip sent w line got later
    → (vs : List Visit) × Visited sent w (length line) line got later vs
trip_visited sent w line later got still trip =
    visited sent w (length line) line later got
    (meets sent w (length line) line later got.packets got.a got.b refl still trip.controllers trip.history
    trip.copies trip.a trip.b)
