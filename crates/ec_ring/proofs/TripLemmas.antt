-- A trip of a frame that does not circulate yet, as one over pieces of the line.
use Rattle.std.specs.Prelude.{◌≡◌, Bool, true, false, ◌||◌, if◌then◌else◌, refl}
use Rattle.std.specs.Prelude.{List, length, Option, None, Some, is_none}
use Rattle.std.proofs.Common.{ap, sym, ◌∙◌}
use Rattle.ec_esc.specs.State.{ControllerState}
use Rattle.ec_line.specs.After.{Entry}
use Rattle.ec_line.specs.Answered.{sent_of}
use Rattle.ec_line.specs.Trip.{Trip, PassedLine, Passed, passed, passed_by_a_first, passed_by_b_first}
use Rattle.ec_line.specs.Trip.{front_pass, back_pass, sent_b}
use Rattle.ec_ring.specs.Reach.{arrival_a, arrival_b, turns}
use Rattle.ec_ring.specs.Travel.{Travelled, travelled, with_a_first, with_b_first, came_of, trip_of, as_trip}
use Rattle.ec_ring.specs.Walk.{Walked, walked_from_a, walked_from_b, is_circulating}
use Rattle.ec_ring.specs.declared.port.Port.{Port}
use Rattle.ec_ring.specs.declared.weather.Weather.{Weather}
use Rattle.ec_ring.proofs.TravelLemmas.{length-front_pass, length-back_pass}
use Rattle.ec_ring.proofs.WalkLemmas.{way, way-of-a, way-of-b, start-still}
use Rattle.ec_wire.specs.Datagram.{DatagramRecord}

-- what came back of a copy that passed a piece
came-way : (lost : Bool) (p : PassedLine) (o : Option Port)
    → came_of lost (way p o) ≡ (if lost || is_none o then None else Some p.frame)
came-way true p o = refl
came-way false p None = refl
came-way false p (Some port) = refl

-- both, in either order
a-first : (w : Weather) (es : List Entry) (line : List ControllerState) → is_circulating (sent_of es) ≡ false
    → with_a_first w (sent_of es) line
    ≡ as_trip (trip_of w es (length line)) (passed_by_a_first (trip_of w es (length line)) line)
a-first w es line still =
    let n = length line in
    let sent : List DatagramRecord = sent_of es in
    let t : Trip = trip_of w es n in
    let a : PassedLine = front_pass t.front line sent in
    let b : PassedLine = back_pass t.back a.line (sent_b t) in
    let still_b = start-still (turns w.b n) sent still in
    let behind : Walked → Travelled = λ v. let u = walked_from_b w.b sent v.line in
    record { came = record { a = came_of w.lost_a v; b = came_of w.lost_b u }; line = u.line } in
    let after : Walked → Travelled = λ u.
    record {
      came = record { a = came_of w.lost_a (way a (arrival_a w.a n)); b = came_of w.lost_b u };
      line = u.line;
    } in
    let size : n ≡ length a.line = sym (length-front_pass t.front line sent) in
    ap behind (way-of-a w.a n line sent refl)
    ∙ ap after (way-of-b w.b n a.line sent (sent_b t) size still_b)
    ∙ rw (came-way w.lost_a a (arrival_a w.a n), came-way w.lost_b b (arrival_b w.b n)) refl

b-first : (w : Weather) (es : List Entry) (line : List ControllerState) → is_circulating (sent_of es) ≡ false
    → with_b_first w (sent_of es) line
    ≡ as_trip (trip_of w es (length line)) (passed_by_b_first (trip_of w es (length line)) line)
b-first w es line still =
    let n = length line in
    let sent : List DatagramRecord = sent_of es in
    let t : Trip = trip_of w es n in
    let b : PassedLine = back_pass t.back line (sent_b t) in
    let a : PassedLine = front_pass t.front b.line sent in
    let still_b = start-still (turns w.b n) sent still in
    let behind : Walked → Travelled = λ u. let v = walked_from_a w.a sent u.line in
    record { came = record { a = came_of w.lost_a v; b = came_of w.lost_b u }; line = v.line } in
    let after : Walked → Travelled = λ v.
    record {
      came = record { a = came_of w.lost_a v; b = came_of w.lost_b (way b (arrival_b w.b n)) };
      line = v.line;
    } in
    let size : n ≡ length b.line = sym (length-back_pass t.back line (sent_b t)) in
    ap behind (way-of-b w.b n line sent (sent_b t) refl still_b)
    ∙ ap after (way-of-a w.a n b.line sent size)
    ∙ rw (came-way w.lost_a a (arrival_a w.a n), came-way w.lost_b b (arrival_b w.b n)) refl

by-order : (first : Bool) (t : Trip) (u v : Travelled) (p q : Passed) → u ≡ as_trip t p → v ≡ as_trip t q
    → (if first then u else v) ≡ as_trip t (if first then p else q)
by-order true t u v p q b a = b
by-order false t u v p q b a = a

pub travelled-trip : (w : Weather) (es : List Entry) (line : List ControllerState)
    → is_circulating (sent_of es) ≡ false → let t = trip_of w es (length line)
    in travelled w (sent_of es) line ≡ as_trip t (passed t line)
unfolding travelled passed
travelled-trip w es line still =
    let t : Trip = trip_of w es (length line) in
    by-order w.b_first t (with_b_first w (sent_of es) line) (with_a_first w (sent_of es) line)
    (passed_by_b_first t line) (passed_by_a_first t line) (b-first w es line still) (a-first w es line still)
