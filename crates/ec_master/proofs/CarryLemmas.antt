-- A frame of items travels over a ring as a trip over pieces of its line, and its copies are no strangers.
use Rattle.std.proofs.Common.{◌≡◌, ℕ, Bool, true, false, cond, ◌∙◌, ap, sym, refl, subst, List, [], ◌∷◌}
use Rattle.std.proofs.Common.{length, Option, None, Some, unwrap_or, arith}
use Rattle.std.specs.List.{AllByRecursion}
use Rattle.ec_wire.specs.Datagram.{DatagramRecord}
use Rattle.std.proofs.lemmas.Bool.Decides.{nat_tests}
use Rattle.ec_merge.specs.Frames.{IsOwn, joined_frame}
use Rattle.ec_esc.specs.State.{ControllerState}
use Rattle.ec_line.specs.After.{Entry}
use Rattle.ec_line.specs.Answered.{sent_of}
use Rattle.ec_line.specs.Trip.{Trip, Passed, passed, joined_of}
use Rattle.ec_line.proofs.Laws.{own_a, own_b}
use Rattle.ec_ring.specs.Travel.{Travelled, travelled, trip_of, as_trip}
use Rattle.ec_ring.specs.Ring.{RingState, line_of, with_line}
use Rattle.ec_ring.specs.Walk.{is_circulating}
use Rattle.ec_ring.specs.declared.weather.Weather.{Weather}
use Rattle.ec_ring.proofs.Laws.{travelled-trip, length-controllers}
use Rattle.ec_master.specs.Cut.{IsFrameOf}

still : (es : List Entry) → AllByRecursion (λ e. e.sent.circulating ≡ false) es
    → is_circulating (sent_of es) ≡ false
still [] calm = refl
still (e ∷ es) calm = calm.0

-- what came back and the line behind
pub travelled-frame : (w : Weather) (es : List Entry) (sent : List DatagramRecord)
    (line : List ControllerState) → IsFrameOf es sent
    → let t = trip_of w es (length line) in travelled w sent line ≡ as_trip t (passed t line)
travelled-frame w es sent line frame =
    ap (λ (s : List DatagramRecord). travelled w s line) frame.datagrams
    ∙ travelled-trip w es line (still es frame.not_circulating)

-- the copies that stand for what came back
came_or : (lost : Bool) (sent copy : List DatagramRecord) → unwrap_or (cond lost None (Some copy)) sent
    ≡ cond lost sent copy
came_or true sent copy = refl
came_or false sent copy = refl

-- what holds of both holds of the one that stands
pub either : (P : List DatagramRecord → Type 0) (lost : Bool) (sent copy : List DatagramRecord) → P sent
    → P copy → P (cond lost sent copy)
either P true sent copy itself own = itself
either P false sent copy itself own = own

pub own_itself : (s : List DatagramRecord) → IsOwn s s
own_itself s = record { count = refl; each = λ k inside. grind (arith, nat_tests) }

-- where the copies that came back of a trip are joined, they are no strangers, and what they make is the
-- trip's
pub record IsCarried (sent : List DatagramRecord) (t : Trip) (p : Passed)
    (a b : Option (List DatagramRecord)) : Type 0 where
  pub own_a : IsOwn sent (unwrap_or a sent)
  pub own_b : IsOwn sent (unwrap_or b sent)
  pub joined : joined_frame sent (unwrap_or a sent) (unwrap_or b sent) ≡ joined_of t p

pub carried : (w : Weather) (es : List Entry) (sent : List DatagramRecord) (line : List ControllerState)
    (a b : Option (List DatagramRecord))
    → IsFrameOf es sent → a ≡ (travelled w sent line).came.a → b ≡ (travelled w sent line).came.b
    → let t = trip_of w es (length line) in IsCarried sent t (passed t line) a b
carried w es sent line a b frame is_a is_b =
    let t : Trip = trip_of w es (length line) in
    let p : Passed = passed t line in
    let way = travelled-frame w es sent line frame in
    let came_a : unwrap_or a sent ≡ cond t.lost_a sent p.a
    = ap (λ (c : Option (List DatagramRecord)). unwrap_or c sent)
    (is_a ∙ ap (λ (x : Travelled). x.came.a) way) ∙ came_or t.lost_a sent p.a in
    let came_b : unwrap_or b sent ≡ cond t.lost_b sent p.b
    = ap (λ (c : Option (List DatagramRecord)). unwrap_or c sent)
    (is_b ∙ ap (λ (x : Travelled). x.came.b) way) ∙ came_or t.lost_b sent p.b in
    record {
      own_a = subst (IsOwn sent) (sym came_a)
          (either (IsOwn sent) t.lost_a sent p.a (own_itself sent)
          (subst (λ s. IsOwn s p.a) (sym frame.datagrams) (own_a t line frame.way)));
      own_b = subst (IsOwn sent) (sym came_b)
          (either (IsOwn sent) t.lost_b sent p.b (own_itself sent)
          (subst (λ s. IsOwn s p.b) (sym frame.datagrams) (own_b t line frame.way)));
      joined =
          ap (λ (x : List DatagramRecord). joined_frame sent x (unwrap_or b sent)) came_a
          ∙ ap (λ (y : List DatagramRecord). joined_frame sent (cond t.lost_a sent p.a) y) came_b
          ∙ ap (λ (s : List DatagramRecord). joined_frame s (cond t.lost_a s p.a) (cond t.lost_b s p.b))
          frame.datagrams;
    }

-- the ring behind a frame
pub ring_carried : (r : RingState) (w : Weather) (es : List Entry) (sent : List DatagramRecord)
    → IsFrameOf es sent
    → let t = trip_of w es (length r.slaves) in with_line r (travelled w sent (line_of r)).line
    ≡ with_line r (passed t (line_of r)).line
ring_carried r w es sent frame =
    ap (λ (x : Travelled). with_line r x.line) (travelled-frame w es sent (line_of r) frame)
    ∙ ap (λ (n : ℕ). with_line r (passed (trip_of w es n) (line_of r)).line) (length-controllers r.slaves)
