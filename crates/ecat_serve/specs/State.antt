-- A line that is served: its ring and the applications of its slaves, who spoke last at each of its ends, if
-- anybody did, and how many of the copies that arrive at each end are still to be lost.
use Rattle.std.specs.Prelude.{ℕ, ◌==◌, Bool, ◌&&◌, not, if◌then◌else◌, Option, None, Some, is_none, length}
use Rattle.std.specs.declared.net.socket_addr.SocketAddr.{SocketAddr}
use Rattle.ec_applications.specs.Behind.{applications_behind, line_behind}
use Rattle.ec_applications.specs.Links.{all_told}
use Rattle.ec_applications.specs.State.{ApplicationsState}
use Rattle.ec_ring.specs.Links.{is_up}
use Rattle.ec_ring.specs.Ring.{RingState, stepped}
use Rattle.ec_ring.specs.declared.port.Port.{Port}
use Rattle.ec_ring.specs.declared.port.Port.TheVariants.{A, B}

pub record ServedState : Type 0 where
  pub ring : RingState
  pub applications : ApplicationsState
  pub peer_a : Option SocketAddr
  pub peer_b : Option SocketAddr
  pub to_lose_a : ℕ
  pub to_lose_b : ℕ

-- who spoke last at an end
abbrev pub peer_at : ServedState → Port → Option SocketAddr
peer_at s A = s.peer_a
peer_at s B = s.peer_b

-- the links under which frames walk are the ring's, but the last one is down while nobody has ever spoken to
-- end B: it is the last port of a real line, and empty
abbrev pub serves_link : ServedState → ℕ → Bool
serves_link s k = is_up s.ring.links k && not (is_none s.peer_b && (k == length s.ring.slaves))

-- the same line, each slave of which that tells of itself tells of these links
abbrev pub linked : ServedState → ServedState
linked s = record s { ring = all_told (serves_link s) s.ring }

-- the same line, where now this one spoke last at an end; the first one at end B is a link
abbrev pub spoken_at_b : ServedState → SocketAddr → ServedState
spoken_at_b s peer = record s { peer_b = Some peer }

abbrev pub spoken : ServedState → Port → SocketAddr → ServedState
spoken s A peer = record s { peer_a = Some peer }
spoken s B peer = if is_none s.peer_b then linked (spoken_at_b s peer) else spoken_at_b s peer

-- the same line, where nobody has spoken at an end
abbrev pub unplugged : ServedState → Port → ServedState
unplugged s A = record s { peer_a = None }
unplugged s B = linked (record s { peer_b = None })

-- how many copies that arrive at an end are still to be lost
abbrev pub to_lose_at : ServedState → Port → ℕ
to_lose_at s A = s.to_lose_a
to_lose_at s B = s.to_lose_b

-- the same line, where so many are
abbrev pub losing : ServedState → Port → ℕ → ServedState
losing s A count = record s { to_lose_a = count }
losing s B count = record s { to_lose_b = count }

-- the same line, of whose ring, which by then is this one, each slave has taken its step, then each
-- application has acted, and then each EEPROM has answered
abbrev pub moved_on : ServedState → RingState → ServedState
moved_on s ring = record s {
  ring = line_behind s.applications (stepped ring);
  applications = applications_behind s.applications (stepped ring);
}
