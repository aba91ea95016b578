-- Which way a packet went, and what tells it: the first rule that fits (IEC 61158-4-12, frames over Ethernet
-- and over UDP).
use Rattle.std.specs.Prelude.{◌==◌, ◌&&◌, ◌||◌, Bool, true, false, not, if◌then◌else◌}
use Rattle.std.specs.Prelude.{Option, None, Some, List, [], ◌∷◌}
use Rattle.std.specs.List.{list_any}
use Rattle.ec_wire.specs.Datagram.{DatagramRecord}
use Rattle.ecat_trips.specs.declared.packet.Outline.{Outline}
use Rattle.ecat_trips.specs.declared.packet.Ports.{Ports}
use Rattle.ecat_trips.specs.declared.trip.Trip.{Trip}
use Rattle.ecat_trips.specs.declared.marks.Marks.{Marks}
use Rattle.ecat_trips.specs.declared.way.Told.{Told}
use Rattle.ecat_trips.specs.declared.way.Way.TheVariants.{Sent, Returned}
use Rattle.ecat_trips.specs.declared.way.By.{By}
use Rattle.ecat_trips.specs.declared.way.By.TheVariants.{Port, Place, Mark, Counters}
use Rattle.ecat_trips.specs.Bases.{is_marking}
use Rattle.ecat_trips.specs.Alike.{same_frame, is_still, has_counted}

-- what is told by something: that the packet is on its way back, or that it was sent
abbrev pub told_by : By → Bool → Told
told_by by back = record { way = if back then Returned else Sent; by = by }

-- rule 1, where UDP ports differ: from port 34980 it returned, to it it was sent
abbrev pub by_port : Option Ports → Option Told
by_port None = None
by_port (Some ports) = if ports.from == ports.to then None else Some (told_by Port (ports.from == 34980))

-- a packet is the second sent copy of a trip over again, as it comes out of a ring that is closed: from the
-- same port's address, but on another interface where the capture tells them apart
abbrev pub is_over_again : Marks → Outline → List DatagramRecord → Trip → Option Outline → Bool
is_over_again m p frame t None = false
is_over_again m p frame t (Some second) =
    p.source.base == second.source.base && not (m.interfaces && p.interface == second.interface)
    && same_frame t.sent.frame frame

-- rule 2, of a master with two ports: the copy that no slave processed came back
abbrev pub by_place : Marks → Outline → List DatagramRecord → Option Trip → Option Told
by_place m p frame None = None
by_place m p frame (Some t) =
    if m.two && not p.source.marked && is_over_again m p frame t t.second then Some (told_by Place true)
    else None

-- rule 3, where the master's addresses are known to lack the mark
abbrev pub by_mark : Marks → Outline → Option Told
by_mark m p =
    if m.two || list_any (is_marking p.source.base) m.bases.told.items
    then Some (told_by Mark p.source.marked)
    else None

-- rule 4, where a trip of its key is on the way: it returned if some counter or ADP has moved
abbrev pub by_trip : List DatagramRecord → Option Trip → Option Told
by_trip frame None = None
by_trip frame (Some t) = Some (told_by Counters (not (is_still t.sent.frame frame)))

-- rule 5: it returned if some counter is not 0
abbrev pub by_counters : List DatagramRecord → Told
by_counters frame = told_by Counters (has_counted frame)

-- the first rule that fits
abbrev pub first_of : List (Option Told) → Told → Told
first_of [] last = last
first_of (None ∷ rules) last = first_of rules last
first_of (Some told ∷ rules) last = told

-- what tells the way of a packet, by the trip of its key that is on the way, if there is one
abbrev pub told : Marks → Outline → List DatagramRecord → Option Trip → Told
told m p frame trip =
    first_of (by_port p.ports ∷ by_place m p frame trip ∷ by_mark m p ∷ by_trip frame trip ∷ [])
    (by_counters frame)
