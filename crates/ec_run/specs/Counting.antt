-- The slaves are counted that a frame reaches, by a broadcast read of AL status (IEC 61158-4-12, broadcast
-- addressing).
use Rattle.std.specs.Prelude.{◌≡◌, ℕ, List, Result, Ok, Err}
use Rattle.ec_wire.specs.Datagram.{DatagramRecord, nth}
use Rattle.ec_master.specs.Ports.{Trips}
use Rattle.ec_services.specs.Stations.{status_broadcast}
use Rattle.ec_services.specs.declared.fault.MasterFault.{MasterFault}
use Rattle.ec_run.specs.Ask.{IsPut}

-- as many slaves as counted in both copies together
abbrev pub count_of : Result (List DatagramRecord) MasterFault → Result ℕ MasterFault
count_of (Err fault) = Err fault
count_of (Ok joined) = Ok (nth joined 0).counter

-- the broadcast read goes out, and tells this number
pub record IsCounted {P : Type 0} (trips : Trips P) (before : P) (count : Result ℕ MasterFault) (later : P)
    : Type 0 where
  pub joined : Result (List DatagramRecord) MasterFault
  pub puts : IsPut trips before status_broadcast joined later
  pub tells : count ≡ count_of joined
