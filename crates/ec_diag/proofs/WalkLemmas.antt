-- A broadcast read that goes over a line alone in a frame is heard as the links have it.
use Rattle.std.specs.Prelude.{if◌then◌else◌}
use Rattle.std.proofs.Common.{◌≡◌, ℕ, ◌+◌, ◌-◌, ◌%◌, ◌<◌, ◌≤◌, Bool, true, false, ◌&&◌, not, List, [], ◌∷◌}
use Rattle.std.proofs.Common.{Option, None, Some, length, take, drop, cond, arith, refl, sym, ap, subst, ◌∙◌}
use Rattle.std.specs.Option.{option_map, option_and_then}
use Rattle.std.proofs.lemmas.Bool.{eq-eqb}
use Rattle.std.proofs.lemmas.List.{length-take-le, length-drop}
use Rattle.ec_wire.specs.Datagram.{DatagramRecord, ado, nth}
use Rattle.ec_merge.specs.Rule.{distance}
use Rattle.ec_esc.specs.State.{ControllerState}
use Rattle.ec_esc.specs.declared.counting.TheConstants.{MOST_CONTROLLERS}
use Rattle.ec_line.specs.Trip.{line_pass, circulated}
use Rattle.ec_ring.specs.Reach.{front, back, arrival_a, arrival_b, turns}
use Rattle.ec_ring.specs.Walk.{walked_from_a, walked_from_b}
use Rattle.ec_ring.specs.declared.links.Links.{Links}
use Rattle.ec_ring.specs.declared.port.Port.{Port}
use Rattle.ec_diag.specs.Heard.{IsProbe, is_broadcast_read, is_told_by, heard_of, heard_walk}
use Rattle.ec_diag.specs.Heard.{heard_a, heard_b}
use Rattle.ec_diag.specs.declared.heard.Heard.{Heard}
use Rattle.ec_diag.proofs.CableLemmas.{front_inside, back_inside}
use Rattle.ec_diag.proofs.PassLemmas.{IsRead, IsCounted, IsCountedFrame, line_counts}

-- ---- a datagram that came back

abbrev pub heard_as : ℕ → Bool → Port → Heard
heard_as count turned port = record { at = port; count = count; turned = turned }

-- the probe as it starts to be processed
abbrev pub started : DatagramRecord → Bool → DatagramRecord
started d turned = record d { circulating = turned }

pub came_told : (d e : DatagramRecord) (turned : Bool) (n : ℕ) → IsProbe d → IsCounted (started d turned) e n
    → is_told_by d e ≡ true
came_told d e turned n probe counted =
    let sent : is_broadcast_read d.command ≡ true = ap is_broadcast_read probe.command in
    let came : is_broadcast_read e.command ≡ true = ap is_broadcast_read counted.command in
    let index = eq-eqb e.index d.index counted.index in
    let place = eq-eqb (ado e) (ado d) counted.ado_is in
    let size = eq-eqb (length e.payload) (length d.payload) counted.size in
    let still : not d.circulating ≡ true = ap not probe.still in
    rw (sent, came, index, place, size, still) refl

pub came_heard : (d e : DatagramRecord) (turned : Bool) (n : ℕ) (port : Port) → IsProbe d → n < 65536
    → IsCounted (started d turned) e n
    → heard_of d e port ≡ Some (heard_as n turned port)
came_heard d e turned n port probe room counted =
    let told : is_told_by d e ≡ true = came_told d e turned n probe counted in
    let moved : e.counter ≡ (d.counter + n) % 65536 = counted.counter in
    let start : d.counter < 65536 = probe.counter in
    let count : distance d.counter e.counter ≡ n = omega arith in
    ap (λ (b : Bool). cond b (Some (heard_as (distance d.counter e.counter) e.circulating port)) None) told
    ∙ ap (λ (k : ℕ). Some (heard_as k e.circulating port)) count
    ∙ ap (λ (t : Bool). Some (heard_as n t port)) counted.circulating

-- ---- a copy that arrives, if it does

way_heard : (d : DatagramRecord) (frame : List DatagramRecord) (turned : Bool) (n : ℕ) (o : Option Port)
    → IsProbe d → n < 65536
    → IsCountedFrame (started d turned) frame n
    → option_and_then (λ (x : List DatagramRecord × Port). heard_of d (nth x.0 0) x.1)
    (option_map (λ (port : Port). (frame, port)) o)
    ≡ option_map (heard_as n turned) o
way_heard d frame turned n None probe room came = refl
way_heard d frame turned n (Some port) probe room came =
    ap (λ (f : List DatagramRecord). heard_of d (nth f 0) port) came.frame
    ∙ came_heard d came.came turned n port probe room came.counted

read_of : (d : DatagramRecord) (turned : Bool) → IsProbe d → IsRead (started d turned)
read_of d turned probe = record {
  command = probe.command;
  some = probe.some;
  registers = probe.registers;
  counter = probe.counter;
}

read_as : (d : DatagramRecord) → IsProbe d → IsRead d
read_as d probe = record {
  command = probe.command;
  some = probe.some;
  registers = probe.registers;
  counter = probe.counter;
}

and_false : (b : Bool) → (b && false) ≡ false
and_false true = refl
and_false false = refl

-- ---- copy A

pub walk_heard_a : (links : Links) (line : List ControllerState) (d : DatagramRecord)
    → length line ≤ MOST_CONTROLLERS → IsProbe d
    → heard_walk d (walked_from_a links (d ∷ []) line) ≡ heard_a links (length line)
unfolding walked_from_a
walk_heard_a links line d room probe =
    let n : ℕ = length line in
    let inside : front links n ≤ n = front_inside links n in
    let size : length (take (front links n) line) ≡ front links n =
    length-take-le (front links n) line inside in
    let start : started d false ≡ d = ap (λ (b : Bool). record d { circulating = b }) (sym probe.still) in
    let frame : List DatagramRecord = (line_pass (take (front links n) line) (d ∷ [])).frame in
    let P : DatagramRecord → ℕ → Type 0 = λ x k. IsCountedFrame x frame k in
    let read : IsRead d = read_as d probe in
    let counted : IsCountedFrame d frame (length (take (front links n) line)) =
    line_counts (take (front links n) line) d read in
    let came : IsCountedFrame (started d false) frame (front links n) =
    subst (λ (x : DatagramRecord). P x (front links n)) (sym start)
    (subst (λ (k : ℕ). P d k) size counted) in
    way_heard d frame false (front links n) (arrival_a links n) probe (omega arith) came

-- ---- copy B

-- the frame of the probe as it starts to be processed
start_of : (d : DatagramRecord) (turned : Bool) → IsProbe d
    → (if turned then circulated (d ∷ []) else (d ∷ [])) ≡ started d turned ∷ []
start_of d true probe = refl
start_of d false probe = ap (λ (b : Bool). record d { circulating = b } ∷ []) probe.still

pub walk_heard_b : (links : Links) (line : List ControllerState) (d : DatagramRecord)
    → length line ≤ MOST_CONTROLLERS → IsProbe d
    → heard_walk d (walked_from_b links (d ∷ []) line) ≡ heard_b links (length line)
unfolding walked_from_b
walk_heard_b links line d room probe =
    let n : ℕ = length line in
    let turned : Bool = turns links n in
    let inside : back links n ≤ n = back_inside links n in
    let size : length (drop (back links n) line) ≡ n - back links n = length-drop (back links n) line in
    let kept : (turned && d.circulating) ≡ false = rw probe.still (and_false turned) in
    let start = start_of d turned probe in
    let frame : List DatagramRecord =
    (line_pass (drop (back links n) line) (started d turned ∷ [])).frame in
    let counted : IsCountedFrame (started d turned) frame (length (drop (back links n) line)) =
    line_counts (drop (back links n) line) (started d turned) (read_of d turned probe) in
    let came : IsCountedFrame (started d turned) frame (n - back links n) =
    subst (λ (k : ℕ). IsCountedFrame (started d turned) frame k) size counted in
    rw (kept, start)
    (way_heard d frame turned (n - back links n) (arrival_b links n) probe (omega arith) came)
