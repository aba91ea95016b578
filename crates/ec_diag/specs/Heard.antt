-- What one copy of a frame tells that came back: where it arrived, how far its broadcast read was counted up,
-- and whether it turned round at a closed port 0 (IEC 61158-4-12, the ports of a slave, the circulating bit).
use Rattle.std.specs.Prelude.{◌≡◌, ℕ, ◌+◌, ◌-◌, ◌≤◌, ◌<◌, Bool, false, not, ◌==◌, ◌&&◌, ◌⊎◌}
use Rattle.std.specs.Prelude.{if◌then◌else◌, Option, None, Some, List, length, option_map, option_and_then}
use Rattle.ec_regs.specs.declared.registers.TheConstants.{PROCESS_MEMORY}
use Rattle.ec_wire.specs.Datagram.{DatagramRecord, ado, nth, code_of}
use Rattle.ec_wire.specs.declared.command.Command.{Command}
use Rattle.ec_wire.specs.declared.command.Command.TheVariants.{Brd}
use Rattle.ec_merge.specs.Rule.{distance}
use Rattle.ec_ring.specs.Reach.{front, back, arrival_a, arrival_b, turns}
use Rattle.ec_ring.specs.Walk.{Walked}
use Rattle.ec_ring.specs.declared.links.Links.{Links}
use Rattle.ec_ring.specs.declared.port.Port.{Port}
use Rattle.ec_diag.specs.declared.heard.Heard.{Heard}

-- ---- under a set of links, over n slaves

-- copy A passed the slaves before the first link that is down, and never turns at a port 0
abbrev pub heard_a : Links → ℕ → Option Heard
heard_a links n =
    option_map (λ (port : Port). record { at = port; count = front links n; turned = false })
    (arrival_a links n)

-- copy B passed the slaves behind the last link that is down, and turned at a port 0 where there is one
abbrev pub heard_b : Links → ℕ → Option Heard
heard_b links n =
    option_map (λ (port : Port). record { at = port; count = n - back links n; turned = turns links n })
    (arrival_b links n)

-- one of the two copies is heard so
abbrev pub CanBeHeard : Links → ℕ → Heard → Type 0
CanBeHeard links n h = (heard_a links n ≡ Some h) ⊎ (heard_b links n ≡ Some h)

-- ---- of datagrams

-- is the command a broadcast read
abbrev pub is_broadcast_read : Command → Bool
is_broadcast_read command = code_of command == 7

-- has a datagram come back of a broadcast read that was sent and did not circulate yet: the index, the ADO
-- and the data length are those that were sent
abbrev pub is_told_by : DatagramRecord → DatagramRecord → Bool
is_told_by sent came =
    is_broadcast_read sent.command && is_broadcast_read came.command && (came.index == sent.index)
    && (ado came == ado sent) && (length came.payload == length sent.payload) && not sent.circulating

-- what the datagram tells that came back to a port
abbrev pub heard_of : DatagramRecord → DatagramRecord → Port → Option Heard
heard_of sent came port =
    if is_told_by sent came
    then Some (record { at = port; count = distance sent.counter came.counter; turned = came.circulating })
    else None

-- ---- of a copy's way

-- a broadcast read of at least one byte, all of it in the registers, as it is sent
pub record IsProbe (d : DatagramRecord) : Type 0 where
  pub command : d.command ≡ Brd
  pub some : 1 ≤ length d.payload
  pub registers : ado d + length d.payload ≤ PROCESS_MEMORY
  pub still : d.circulating ≡ false
  pub counter : d.counter < 65536

-- what is heard of the copy where it arrives, by its first datagram
abbrev pub heard_walk : DatagramRecord → Walked → Option Heard
heard_walk sent w =
    option_and_then (λ (x : List DatagramRecord × Port). heard_of sent (nth x.0 0) x.1) w.arrived
