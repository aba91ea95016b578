-- One copy's way over a line, which starts at port A or at port B under a set of links.
use Rattle.std.specs.Prelude.{ℕ, ◌-◌, Bool, false, ◌&&◌, if◌then◌else◌, Option, None}
use Rattle.std.specs.Prelude.{List, [], ◌∷◌, ◌++◌, length, take, drop}
use Rattle.std.specs.Option.{option_map}
use Rattle.ec_wire.specs.Datagram.{DatagramRecord}
use Rattle.ec_esc.specs.State.{ControllerState}
use Rattle.ec_line.specs.Trip.{PassedLine, line_pass, front_pass, back_pass, circulated}
use Rattle.ec_ring.specs.Reach.{front, back, arrival_a, arrival_b, turns}
use Rattle.ec_ring.specs.declared.links.Links.{Links}
use Rattle.ec_ring.specs.declared.port.Port.{Port}
use Rattle.ec_ring.specs.declared.port.Port.TheVariants.{A, B}

-- the controllers of a piece of the line are passed: those from one number on and below another
abbrev pub piece_pass : ℕ → ℕ → List ControllerState → List DatagramRecord → PassedLine
piece_pass from to line frame =
    let passed = line_pass (take (to - from) (drop from line)) frame in
    record { frame = passed.frame; line = take from line ++ passed.line ++ drop to line }

-- the copy as it arrives and its port, nothing where it was lost; and the controllers behind it
pub record Walked : Type 0 where
  pub arrived : Option (List DatagramRecord × Port)
  pub line : List ControllerState

-- does a frame's first datagram have the circulating bit
abbrev pub is_circulating : List DatagramRecord → Bool
is_circulating [] = false
is_circulating (d ∷ ds) = d.circulating

-- from port A
unfoldable pub walked_from_a : Links → List DatagramRecord → List ControllerState → Walked
walked_from_a links frame line =
    let n = length line in
    let passed = front_pass (front links n) line frame in
    record { arrived = option_map (λ port. (passed.frame, port)) (arrival_a links n); line = passed.line }

-- from port B: where it would turn round at a closed port 0, it is destroyed if it is circulating already,
-- and else circulates from there on
unfoldable pub walked_from_b : Links → List DatagramRecord → List ControllerState → Walked
walked_from_b links frame line =
    let n = length line in
    let turned = turns links n in
    let passed = back_pass (back links n) line (if turned then circulated frame else frame) in
    if turned && is_circulating frame then record { arrived = None; line = line } else
    record { arrived = option_map (λ port. (passed.frame, port)) (arrival_b links n); line = passed.line }

abbrev pub walked : Port → Links → List DatagramRecord → List ControllerState → Walked
walked A links frame line = walked_from_a links frame line
walked B links frame line = walked_from_b links frame line
