-- Slaves that were brought to a state over a ring (IEC 61158-6-12, AL management).
use Rattle.std.specs.Prelude.{◌≡◌, ◌<◌, ◌≤◌, ℕ, false, List}
use Rattle.std.specs.List.{AllByRecursion}
use Rattle.ec_regs.specs.declared.al.AlState.{AlState}
use Rattle.ec_regs.specs.declared.registers.TheConstants.{PROCESS_MEMORY}
use Rattle.ec_esc.specs.Application.{al_status}
use Rattle.ec_app.specs.State.{SlaveState}
use Rattle.ec_ring.specs.Ring.{RingState}
use Rattle.ec_master.specs.Travelled.{AtMostOneDown}
use Rattle.ec_services.specs.declared.mailbox.Peer.{Peer}
use Rattle.ec_run.specs.declared.wanted.Wanted.{Wanted}
use Rattle.ec_over_ring.specs.States.{HasStation}
use Rattle.ec_over_ring.specs.Stations.{HasSlaves}

-- a ring whose slaves are all reached: at most one link is down. They may have any stations and whatever to
-- do
pub record ReachesAll (r : RingState) : Type 0 where
  pub down : AtMostOneDown r
  pub slaves : HasSlaves r

-- one slave of a ring alone has a station; it is in this state, has no error, and is asked for no other state
pub record IsAloneIn (state : AlState) (station : ℕ) (r : RingState) : Type 0 where
  pub before : List SlaveState
  pub slave : SlaveState
  pub behind : List SlaveState
  pub has : HasStation station r before slave behind
  pub status : al_status slave.controller ≡ record { state = state; error = false }
  pub unasked : slave.controller.written ≡ false

-- the slaves of a line are wanted with station addresses, of 16 bits
abbrev pub HaveAddresses : List Wanted → Type 0
HaveAddresses line = AllByRecursion (λ (wanted : Wanted). wanted.station < 65536) line

-- each of these slaves is there, alone with its station address, in a state without an error
abbrev pub AreAllIn : AlState → List Wanted → RingState → Type 0
AreAllIn state line r = AllByRecursion (λ (wanted : Wanted). IsAloneIn state wanted.station r) line

-- a peer with a station address of 16 bits whose areas lie in process memory, as those of all mailboxes do
pub record HasAreas (peer : Peer) : Type 0 where
  pub station : peer.station < 65536
  pub to : PROCESS_MEMORY ≤ peer.to.start
  pub from : PROCESS_MEMORY ≤ peer.from.start
