-- Which of two UDP sockets, between which frames go, is the end of a line (IEC 61158-4-12, frames over UDP):
-- the one at port 34980; else the one from which counters came that are not 0; else the one whose port is
-- beside that of another end; else the one to which the first packet went, since a master begins.
use Rattle.std.specs.Prelude.{ℕ, ◌%◌, ◌==◌, ◌&&◌, ◌||◌, Bool, true, false, not, if◌then◌else◌}
use Rattle.std.specs.Prelude.{List, Option, None, Some, find}
use Rattle.ecat_trips.specs.declared.packet.Outline.{Outline}
use Rattle.ecat_trips.specs.declared.packet.Ports.{Ports}
use Rattle.ecat_frames.specs.declared.ends.Pair.{Pair}
use Rattle.ecat_frames.specs.declared.ends.Peers.{Peers}

-- the port of a peer
abbrev pub port_in : ℕ → ℕ
port_in peer = peer % 65536

-- the first packet of a pair came from the end of a line
abbrev pub begins_behind : Pair → Bool
begins_behind pair =
    if (port_in pair.peers.from == 34980) || (port_in pair.peers.to == 34980)
    then port_in pair.peers.from == 34980
    else (pair.counted && not pair.counted_back) || pair.is_beside

-- a packet of it comes from there
abbrev pub is_from_line : Pair → Peers → Bool
is_from_line pair peers =
    if peers.from == pair.peers.from then begins_behind pair else not (begins_behind pair)

-- the end of a line that it has
abbrev pub end_in : Pair → ℕ
end_in pair = if begins_behind pair then pair.peers.from else pair.peers.to

-- the ports, where that of the end counts as EtherCAT's own
abbrev pub ports_at : Bool → ℕ → Ports
ports_at is_back other =
    if is_back then (record { from = 34980; to = other }) else (record { from = other; to = 34980 })

-- what is told of a packet that comes from an end of a line, or goes to it
abbrev pub told_at : Outline → ℕ → Bool → ℕ → Outline
told_at outline end is_back other = record outline {
  source = record { base = end; marked = is_back };
  ports = Some (ports_at is_back other);
}

-- a packet with these peers is of a pair: it goes as its first packet, or the other way
abbrev pub is_of : Peers → Pair → Bool
is_of peers pair =
    (pair.peers.from == peers.from && pair.peers.to == peers.to)
    || (pair.peers.from == peers.to && pair.peers.to == peers.from)

-- what is told of a packet by whether it comes from the line
abbrev pub told_by_way : Outline → Peers → Bool → Outline
told_by_way outline peers true = told_at outline peers.from true (port_in peers.to)
told_by_way outline peers false = told_at outline peers.to false (port_in peers.from)

-- of a pair that was not looked at, EtherCAT's own port tells the line's end, and other ports tell nothing
abbrev pub told_alone : Outline → Peers → Outline
told_alone outline peers =
    if (port_in peers.from == 34980) || (port_in peers.to == 34980)
    then told_by_way outline peers (port_in peers.from == 34980)
    else (record outline { ports = None })

abbrev pub told_by : Outline → Peers → Option Pair → Outline
told_by outline peers (Some pair) = told_by_way outline peers (is_from_line pair peers)
told_by outline peers None = told_alone outline peers

-- what is told of a packet by the pairs of a capture; where both peers are at EtherCAT's own port, nothing
-- but its frame
abbrev pub told_of : List Pair → Outline → Peers → Outline
told_of pairs outline peers =
    if (port_in peers.from == 34980) && (port_in peers.to == 34980) then outline
    else told_by outline peers (find (is_of peers) pairs)
