-- A controller after an item, and after all items of a frame: memory bits take the data that were sent, and
-- the areas of outputs whose last byte was reached are shown anew.
use Rattle.std.specs.Prelude.{ℕ, Option, List, [], ◌∷◌}
use Rattle.ec_regs.specs.Bits.{with_bits}
use Rattle.ec_wire.specs.Datagram.{DatagramRecord}
use Rattle.ec_areas.specs.Records.{sync_managers_of}
use Rattle.ec_esc.specs.State.{ControllerState}
use Rattle.ec_esc.specs.Writing.{shown_after}
use Rattle.ec_esc.specs.Pass.{touches}
use Rattle.ec_line.specs.Request.{Request}
use Rattle.ec_line.specs.Claims.{taken}

-- the controller whose memory bits took data bits from these places
unfoldable pub written_through : (ℕ → Option ℕ) → List ℕ → ControllerState → ControllerState
written_through places payload c =
    let managers = sync_managers_of c.memory in
    let memory = with_bits c.memory payload places
    in record c { memory = memory; shown = shown_after (touches places) managers managers memory c.shown }

-- the controller after a request with these data
abbrev pub after : Request → List ℕ → ControllerState → ControllerState
after r payload c = written_through (taken r c) payload c

-- a request and its datagram as it was sent
pub record Entry : Type 0 where
  pub request : Request
  pub sent : DatagramRecord

-- the controller after all entries of a frame, in their order
unfoldable pub after_frame : List Entry → ControllerState → ControllerState
after_frame [] c = c
after_frame (e ∷ es) c = after_frame es (after e.request e.sent.payload c)
