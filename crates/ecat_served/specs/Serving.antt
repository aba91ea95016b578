-- What `ecat_serve` does with a packet, as a packet of a line's history.
use Rattle.std.specs.Prelude.{List, All}
use Rattle.ec_regs.specs.Bits.{AreBytes}
use Rattle.ec_wire.specs.Datagram.{DatagramRecord}
use Rattle.ec_ring.specs.Ring.{RingState, line_of, stepped, with_line}
use Rattle.ec_ring.specs.declared.links.Links.{Links}
use Rattle.ec_ring.specs.declared.port.Port.{Port}
use Rattle.ec_applications.specs.declared.eeproms.PlacedEeprom.{PlacedEeprom}
use Rattle.ecat_serve.specs.State.{ServedState}
use Rattle.ecat_served.specs.History.{AreControllers, Packet, walk_of}

-- a frame that comes in at an end walks under these links over the line as it is
abbrev pub packet_at : ServedState → Port → List DatagramRecord → Links → Packet
packet_at s from frame links = record { from = from; links = links; frame = frame; met = line_of s.ring }

-- the ring behind its walk, before any slave acts
abbrev pub ring_walked : ServedState → Packet → RingState
ring_walked s p = with_line s.ring (walk_of p).line

-- a line of controllers, whose EEPROMs are bytes, is one of controllers once the slaves of this ring have
-- stepped, as those of every ring are
pub record IsSound (before : ServedState) (ring : RingState) : Type 0 where
  pub line : AreControllers (line_of before.ring)
  pub stepped_is : AreControllers (line_of (stepped ring))
  pub eeproms : All (λ (one : PlacedEeprom). AreBytes one.eeprom) before.applications.eeproms
