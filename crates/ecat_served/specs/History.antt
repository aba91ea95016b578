-- A line that is served: packets come in at its two ends, one after the other, and each walks as far as the
-- links go, while no slave acts; between them each slave acts as its application may.
use Rattle.std.specs.Prelude.{List, [], ◌∷◌}
use Rattle.std.specs.List.{AllByRecursion}
use Rattle.ec_wire.specs.Datagram.{DatagramRecord}
use Rattle.ec_esc.specs.State.{ControllerState, IsController}
use Rattle.ec_line.specs.Moving.{HasMoved}
use Rattle.ec_ring.specs.Walk.{Walked, walked}
use Rattle.ec_ring.specs.declared.links.Links.{Links}
use Rattle.ec_ring.specs.declared.port.Port.{Port}

-- a packet that came in: at which end, under which links, as which frame, and the line that it met
pub record Packet : Type 0 where
  pub from : Port
  pub links : Links
  pub frame : List DatagramRecord
  pub met : List ControllerState

-- what became of it, and the line behind it
abbrev pub walk_of : Packet → Walked
walk_of p = walked p.from p.links p.frame p.met

abbrev pub AreControllers : List ControllerState → Type 0
AreControllers line = AllByRecursion IsController line

-- each slave has moved as its application may move it
abbrev pub AllHaveMoved : List ControllerState → List ControllerState → Type 0
AllHaveMoved [] [] = Unit {0}
AllHaveMoved (x ∷ xs) (y ∷ ys) = HasMoved x y × AllHaveMoved xs ys
AllHaveMoved _ _ = ⊥

-- these packets came to a line, in this order, and left that one: each met the line that the one before left,
-- once its slaves had acted
abbrev pub IsHistory : List ControllerState → List Packet → List ControllerState → Type 0
IsHistory line [] later = AllHaveMoved line later
IsHistory line (p ∷ ps) later =
    AllHaveMoved line p.met × AreControllers p.met × IsHistory (walk_of p).line ps later
