-- A look at the state of one slave (IEC 61158-6-12, AL status): one frame, and what is seen by what came of
-- it.
use Rattle.std.specs.Prelude.{◌≡◌, ℕ, List, Option, Result}
use Rattle.ec_wire.specs.Datagram.{DatagramRecord}
use Rattle.ec_ring.specs.declared.weather.Came.{Came}
use Rattle.ec_run.specs.Recovery.{IsLookedAt}
use Rattle.ec_run.specs.declared.recovery.Seen.{Seen}
use Rattle.ec_services.specs.declared.fault.MasterFault.{MasterFault}
use Rattle.ec_turns.specs.Held.{HeldState, HeldTrips, giving, nothing}

abbrev pub IsLookFrame : ℕ → Option (List DatagramRecord) → Type 0
IsLookFrame station sent =
    (seen : Result Seen MasterFault) × (later : HeldState)
    × IsLookedAt HeldTrips (giving nothing) station seen later
    × (sent ≡ later.sent)

abbrev pub IsLook : ℕ → Came → Result Seen MasterFault → Type 0
IsLook station came seen = (later : HeldState) × IsLookedAt HeldTrips (giving came) station seen later
