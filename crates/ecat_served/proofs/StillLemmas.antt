-- A line at which nobody acts and to which nobody else speaks is a served one: each trip of a ring is one on
-- it.
use Rattle.std.specs.Prelude.{◌≡◌, ℕ, Bool, true, false, ◌&&◌, if◌then◌else◌}
use Rattle.std.specs.Prelude.{List, [], ◌∷◌, length, take, drop, Some, None, refl}
use Rattle.std.proofs.Common.{inl, inr}
use Rattle.ec_regs.proofs.Laws.{each-append, each-drop, each-take}
use Rattle.ec_wire.specs.Datagram.{DatagramRecord}
use Rattle.ec_esc.specs.Pass.{frame_pass}
use Rattle.ec_esc.specs.State.{ControllerState, IsController}
use Rattle.ec_esc.proofs.Laws.{frame_is}
use Rattle.ec_line.specs.After.{Entry}
use Rattle.ec_line.specs.Answered.{sent_of}
use Rattle.ec_line.specs.Trip.{line_pass}
use Rattle.ec_ring.specs.Reach.{back, front, turns}
use Rattle.ec_ring.specs.Travel.{Travelled, travelled, with_a_first, with_b_first}
use Rattle.ec_ring.specs.Walk.{Walked, is_circulating, walked_from_a, walked_from_b}
use Rattle.ec_ring.specs.declared.links.Links.{Links}
use Rattle.ec_ring.specs.declared.port.Port.TheVariants.{A, B}
use Rattle.ec_ring.specs.declared.weather.Weather.{Weather}
use Rattle.ecat_served.specs.History.{AreControllers, Packet, walk_of}
use Rattle.ecat_served.specs.Trips.{IsServedTrip, Traffic, came_served, plain}
use Rattle.ecat_served.proofs.CopyLemmas.{starts}
use Rattle.ecat_served.proofs.MovedLemmas.{all_moved-refl}

-- ---- controllers behind a walk are controllers

line_is : (line : List ControllerState) (ds : List DatagramRecord) → AreControllers line
    → AreControllers (line_pass line ds).line
unfolding line_pass
line_is [] ds all = tt
line_is (x ∷ xs) ds all = (frame_is x ds all.0, line_is xs (frame_pass x ds).frame all.1)

pub behind_a : (links : Links) (ds : List DatagramRecord) (line : List ControllerState) → AreControllers line
    → AreControllers (walked_from_a links ds line).line
unfolding walked_from_a
behind_a links ds line all =
    let n : ℕ = front links (length line) in
    each-append IsController (line_pass (take n line) ds).line (drop n line)
    (line_is (take n line) ds (each-take IsController n line all)) (each-drop IsController n line all)

either_is : (gone : Bool) (line : List ControllerState) (w : Walked) → AreControllers line
    → AreControllers w.line
    → AreControllers (if gone then record { arrived = None; line = line } else w).line
either_is true line w all behind = all
either_is false line w all behind = behind

pub behind_b : (links : Links) (ds : List DatagramRecord) (line : List ControllerState) → AreControllers line
    → AreControllers (walked_from_b links ds line).line
unfolding walked_from_b
behind_b links ds line all =
    let n : ℕ = back links (length line) in
    let begins : List DatagramRecord = starts links (length line) ds in
    either_is (turns links (length line) && is_circulating ds) line _ all
    (each-append IsController (take n line) (line_pass (drop n line) begins).line
    (each-take IsController n line all) (line_is (drop n line) begins (each-drop IsController n line all)))

-- ---- a trip of a ring

-- what comes to a line on which nobody acts
record IsStillTrip (f : List Entry) (w : Weather) (line : List ControllerState) (t : Travelled) : Type 0 where
  got : Traffic
  trip : IsServedTrip (plain f) w line got t.line
  came : came_served w got ≡ t.came

still_a : (f : List Entry) (w : Weather) (line : List ControllerState) → AreControllers line
    → IsStillTrip f w line (with_a_first w (sent_of f) line)
still_a f w line all =
    let p : Packet = record { from = A; links = w.a; frame = sent_of f; met = line } in
    let q : Packet = record { from = B; links = w.b; frame = sent_of f; met = (walk_of p).line } in
    record {
      got = record { packets = p ∷ q ∷ []; a = Some p; b = Some q };
      trip = record {
        controllers = all;
        history = (
          all_moved-refl line,
          all,
          (
            all_moved-refl (walk_of p).line,
            behind_a w.a (sent_of f) line all,
            all_moved-refl (walk_of q).line,
          ),
        );
        copies = inr (inl (refl, inr (inr (refl, (refl, refl)))));
        a = (refl, refl, refl);
        b = (refl, refl, refl);
      };
      came = refl;
    }

still_b : (f : List Entry) (w : Weather) (line : List ControllerState) → AreControllers line
    → IsStillTrip f w line (with_b_first w (sent_of f) line)
still_b f w line all =
    let q : Packet = record { from = B; links = w.b; frame = sent_of f; met = line } in
    let p : Packet = record { from = A; links = w.a; frame = sent_of f; met = (walk_of q).line } in
    record {
      got = record { packets = q ∷ p ∷ []; a = Some p; b = Some q };
      trip = record {
        controllers = all;
        history = (
          all_moved-refl line,
          all,
          (
            all_moved-refl (walk_of q).line,
            behind_b w.b (sent_of f) line all,
            all_moved-refl (walk_of p).line,
          ),
        );
        copies = inr (inr (refl, inr (inl (refl, (refl, refl)))));
        a = (refl, refl, refl);
        b = (refl, refl, refl);
      };
      came = refl;
    }

pub still_trip : (f : List Entry) (w : Weather) (line : List ControllerState) → AreControllers line
    → (got : Traffic) × IsServedTrip (plain f) w line got (travelled w (sent_of f) line).line
    × (came_served w got ≡ (travelled w (sent_of f) line).came)
unfolding travelled
still_trip f w line all =
    let P : Bool → Type 0 = λ first.
    IsStillTrip f w line
    (if first then with_b_first w (sent_of f) line else with_a_first w (sent_of f) line) in
    let is = elim w.b_first as P [ true ↦ still_b f w line all | false ↦ still_a f w line all ] in
    (is.got, is.trip, is.came)
