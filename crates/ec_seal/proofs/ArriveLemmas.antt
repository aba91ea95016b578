-- What arrives of a frame came of it, whatever the links are.
use Rattle.std.specs.Prelude.{ℕ, ◌+◌, ◌*◌, Bool, true, false, ◌&&◌, if◌then◌else◌}
use Rattle.std.specs.Prelude.{List, length, take, drop, Option, None, Some, IfSome}
use Rattle.std.proofs.Common.{arith}
use Rattle.std.proofs.lemmas.List.{length-take, length-drop}
use Rattle.ec_wire.specs.Datagram.{DatagramRecord}
use Rattle.ec_esc.specs.State.{ControllerState}
use Rattle.ec_line.specs.Trip.{PassedLine, line_pass, front_pass, back_pass, circulated}
use Rattle.ec_ring.specs.Reach.{front, back, arrival_a, arrival_b, turns}
use Rattle.ec_ring.specs.Walk.{Walked, walked, walked_from_a, walked_from_b, is_circulating}
use Rattle.ec_ring.specs.declared.links.Links.{Links}
use Rattle.ec_ring.specs.declared.port.Port.{Port}
use Rattle.ec_ring.specs.declared.port.Port.TheVariants.{A, B}
use Rattle.ec_seal.specs.Trips.{CountersFit}
use Rattle.ec_seal.proofs.ComesLemmas.{FrameComes, sent_comes, start_comes, line_comes, weaker}
use Rattle.ec_seal.proofs.WalkLemmas.{way}

-- what arrives of a copy that passed some controllers
arrives : (n : ℕ) (ss : List DatagramRecord) (p : PassedLine) (o : Option Port) → FrameComes n ss p.frame
    → IfSome (way p o).arrived (λ (x : List DatagramRecord × Port). FrameComes n ss x.0)
arrives n ss p None comes = tt
arrives n ss p (Some port) comes = comes

pub from_a_comes : (links : Links) (ds : List DatagramRecord) (line : List ControllerState) → CountersFit ds
    → IfSome (walked_from_a links ds line).arrived
    (λ (x : List DatagramRecord × Port). FrameComes (3 * length line) ds x.0)
unfolding walked_from_a
from_a_comes links ds line fit =
    let n = length line in
    let piece : List ControllerState = take (front links n) line in
    arrives (3 * n) ds (front_pass (front links n) line ds) (arrival_a links n)
    (weaker (0 + 3 * length piece) (3 * n) ds (line_pass piece ds).frame
    (omega (arith, length-take (front links n) line))
    (line_comes 0 piece ds ds (sent_comes ds fit)))

-- what holds of what arrives holds where the copy was destroyed
either_arrives : (n : ℕ) (ss : List DatagramRecord) (gone : Bool) (line : List ControllerState) (w : Walked)
    → IfSome w.arrived (λ (x : List DatagramRecord × Port). FrameComes n ss x.0)
    → IfSome (if gone then record { arrived = None; line = line } else w).arrived
    (λ (x : List DatagramRecord × Port). FrameComes n ss x.0)
either_arrives n ss true line w comes = tt
either_arrives n ss false line w comes = comes

pub from_b_comes : (links : Links) (ds : List DatagramRecord) (line : List ControllerState) → CountersFit ds
    → IfSome (walked_from_b links ds line).arrived
    (λ (x : List DatagramRecord × Port). FrameComes (3 * length line) ds x.0)
unfolding walked_from_b
from_b_comes links ds line fit =
    let n = length line in
    let turned : Bool = turns links n in
    let piece : List ControllerState = drop (back links n) line in
    let begins : List DatagramRecord = if turned then circulated ds else ds in
    either_arrives (3 * n) ds (turned && is_circulating ds) line
    (way (back_pass (back links n) line begins) (arrival_b links n))
    (arrives (3 * n) ds (back_pass (back links n) line begins) (arrival_b links n)
    (weaker (0 + 3 * length piece) (3 * n) ds (line_pass piece begins).frame
    (omega (arith, length-drop (back links n) line))
    (line_comes 0 piece ds begins (start_comes turned ds ds (sent_comes ds fit)))))

pub from_comes : (from : Port) (links : Links) (ds : List DatagramRecord) (line : List ControllerState)
    → CountersFit ds
    → IfSome (walked from links ds line).arrived
    (λ (x : List DatagramRecord × Port). FrameComes (3 * length line) ds x.0)
from_comes A links ds line fit = from_a_comes links ds line fit
from_comes B links ds line fit = from_b_comes links ds line fit
