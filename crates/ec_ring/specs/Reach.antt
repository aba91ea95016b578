-- How far each of two copies gets on a line of n slaves, and where it arrives. A slave forwards a frame to
-- its next port whose link is up (IEC 61158-4-12, the ports of a slave); so a copy turns round before the
-- first link that is down.
use Rattle.std.specs.Prelude.{ℕ, ◌+◌, Bool, not, ◌&&◌, if◌then◌else◌, Option, None, Some, unwrap_or}
use Rattle.ec_ring.specs.Links.{is_up, AreUp, SomeDown, first_down, last_down, is_whole}
use Rattle.ec_ring.specs.declared.links.Links.{Links}
use Rattle.ec_ring.specs.declared.port.Port.{Port}
use Rattle.ec_ring.specs.declared.port.Port.TheVariants.{A, B}

-- ---- as pieces of the line

-- copy A is processed by the slaves below this number: those before the first link that is down
abbrev pub front : Links → ℕ → ℕ
front links n = unwrap_or (first_down links (n + 1)) n

-- copy B is processed by the slaves from this number on: those behind the last link that is down; by none
-- where no link is down
abbrev pub back : Links → ℕ → ℕ
back links n = unwrap_or (last_down links (n + 1)) n

-- ---- as links

-- copy A reaches a slave over links that are up
abbrev pub ReachesA : Links → ℕ → Type 0
ReachesA links x = AreUp links 0 x

-- copy B reaches a slave's port 1 over links that are up, and is processed once it comes back from a closed
-- port 0
abbrev pub ReachesB : Links → ℕ → ℕ → Type 0
ReachesB links n x = AreUp links (x + 1) n × SomeDown links x

-- ---- arrivals

-- copy A cannot start over a link 0 that is down; it goes through to port B, or turns round
abbrev pub arrival_a : Links → ℕ → Option Port
arrival_a links n = if is_up links 0 then Some (if is_whole links n then B else A) else None

-- copy B cannot start over a link n that is down; it goes through to port A, or turns round
abbrev pub arrival_b : Links → ℕ → Option Port
arrival_b links n = if is_up links n then Some (if is_whole links n then A else B) else None

-- does copy B turn round, which it does at a closed port 0
abbrev pub turns : Links → ℕ → Bool
turns links n = is_up links n && not (is_whole links n)
