-- One question over a ring: a datagram that names its slave by station address goes out alone in a frame,
-- and one slave alone may have that station (IEC 61158-4-12, configured station addressing).
use Rattle.std.specs.Prelude.{◌≡◌, ◌≢◌, ◌<◌, false, List, ◌∷◌, ◌++◌, length, Ok, Err}
use Rattle.std.specs.List.{AllByRecursion}
use Rattle.ec_regs.specs.Bits.{AreBytes}
use Rattle.ec_regs.specs.declared.registers.TheConstants.{STATION_ADDRESS}
use Rattle.ec_wire.specs.Command.{addressing}
use Rattle.ec_wire.specs.Datagram.{DatagramRecord, adp, nth}
use Rattle.ec_wire.specs.declared.command.Addressing.TheVariants.{ConfiguredStation}
use Rattle.ec_esc.specs.State.{ControllerState, IsController, word_at}
use Rattle.ec_esc.specs.Pass.{pass}
use Rattle.ec_app.specs.Lending.{with_controller}
use Rattle.ec_app.specs.State.{SlaveState}
use Rattle.ec_ring.specs.Ring.{RingState, stepped}
use Rattle.ec_master.specs.Travelled.{AtMostOneDown}
use Rattle.ec_services.specs.Ask.{Answer}

-- ---- who is asked

-- a datagram that names its slave by station, and does not circulate
pub record IsByStation (d : DatagramRecord) : Type 0 where
  pub station : addressing d.command ≡ ConfiguredStation
  pub circulating : d.circulating ≡ false
  pub payload : AreBytes d.payload
  pub counter : d.counter < 65536

-- a controller whose station is not the one that a datagram names
pub record IsOther (d : DatagramRecord) (c : ControllerState) : Type 0 where
  pub controller : IsController c
  pub station : adp d ≢ word_at c.memory STATION_ADDRESS

-- a slave of a ring, between those before it and those behind it, alone may have the station
pub record IsAlone (d : DatagramRecord) (r : RingState) (before : List SlaveState) (s : SlaveState)
    (behind : List SlaveState) : Type 0 where
  pub slaves : r.slaves ≡ before ++ s ∷ behind
  pub others_before : AllByRecursion (λ (x : SlaveState). IsOther d x.controller) before
  pub others_behind : AllByRecursion (λ (x : SlaveState). IsOther d x.controller) behind

-- a datagram reaches one slave of a ring alone, with at most one link down
pub record ReachesOne (d : DatagramRecord) (r : RingState) (before : List SlaveState) (s : SlaveState)
    (behind : List SlaveState) : Type 0 where
  pub down : AtMostOneDown r
  pub asked : IsByStation d
  pub alone : IsAlone d r before s behind

-- ---- what it answers

-- a frame of one datagram, with the data and the working counter of this one
pub record Carries (told : DatagramRecord) (frame : List DatagramRecord) : Type 0 where
  pub one : length frame ≡ 1
  pub payload : (nth frame 0).payload ≡ told.payload
  pub counter : (nth frame 0).counter ≡ told.counter

-- there is an answer, and it carries this datagram
abbrev pub Tells : DatagramRecord → Answer → Type 0
Tells told (Err fault) = ⊥
Tells told (Ok back) = Carries told back.joined

-- a slave once a datagram has passed it
abbrev pub after_question : DatagramRecord → SlaveState → SlaveState
after_question d s = with_controller s (pass s.controller d).state

-- the ring once one slave has been passed and each has taken its step
abbrev pub ring_after : DatagramRecord → RingState → List SlaveState → SlaveState → List SlaveState
    → RingState
ring_after d r before s behind = stepped (record r { slaves = before ++ after_question d s ∷ behind })
