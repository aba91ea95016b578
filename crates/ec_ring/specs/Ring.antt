-- A ring seen from outside: its slaves in their order on the line, and which links are up.
use Rattle.std.specs.Prelude.{ℕ, List, ◌∷◌, map, slice_set}
use Rattle.ec_app.specs.Lending.{with_controller}
use Rattle.ec_app.specs.Slave.{step}
use Rattle.ec_app.specs.State.{SlaveState}
use Rattle.ec_esc.specs.State.{ControllerState}
use Rattle.ec_ring.specs.declared.links.Links.{Links}

pub record RingState : Type 0 where
  pub slaves : List SlaveState
  pub links : Links

-- the controllers of slaves
abbrev pub controllers : List SlaveState → List ControllerState
controllers slaves = map (λ (s : SlaveState). s.controller) slaves

-- those on a ring's line
abbrev pub line_of : RingState → List ControllerState
line_of r = controllers r.slaves

-- these slaves with other controllers, their applications as before
abbrev pub with_controllers : List SlaveState → List ControllerState → List SlaveState
with_controllers (s ∷ ss) (c ∷ cs) = with_controller s c ∷ with_controllers ss cs
with_controllers slaves _ = slaves

-- this ring with other controllers on its line
abbrev pub with_line : RingState → List ControllerState → RingState
with_line r line = record r { slaves = with_controllers r.slaves line }

-- this ring once each slave has taken its step
abbrev pub stepped : RingState → RingState
stepped r = record r { slaves = map step r.slaves }

-- this ring with another slave at a place
abbrev pub with_slave : RingState → ℕ → SlaveState → RingState
with_slave r k s = record r { slaves = slice_set r.slaves k s }
