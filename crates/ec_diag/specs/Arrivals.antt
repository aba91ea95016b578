-- What the copies of one frame tell, and the frame that a master sends to be told.
use Rattle.std.specs.Prelude.{◌≡◌, ℕ, false, Option, List, [], ◌∷◌, Result, Ok, Err}
use Rattle.std.specs.Option.{option_and_then}
use Rattle.ec_wire.specs.Datagram.{DatagramRecord, address_of, nth}
use Rattle.ec_wire.specs.declared.command.Command.TheVariants.{Brd}
use Rattle.ec_regs.specs.declared.registers.TheConstants.{AL_STATUS}
use Rattle.ec_ring.specs.declared.arrivals.Arrival.{Arrival}
use Rattle.ec_ring.specs.declared.arrivals.Arrivals.{Arrivals}
use Rattle.ec_ring.specs.declared.port.PortFault.{PortFault}
use Rattle.ec_diag.specs.Heard.{heard_of}
use Rattle.ec_diag.specs.Join.{with_heard}
use Rattle.ec_diag.specs.declared.heard.Heard.{Heard}
use Rattle.ec_diag.specs.declared.located.Located.{Located}
use Rattle.ec_diag.specs.declared.located.Located.TheVariants.{Unknown}

-- what is heard of a copy of a frame, by its first datagram; nothing where it was lost
abbrev pub heard_arrival : List DatagramRecord → Option Arrival → Option Heard
heard_arrival sent copy =
    option_and_then (λ (x : Arrival). heard_of (nth sent 0) (nth x.frame 0) x.at) copy

-- what is known by both copies of a frame besides
abbrev pub with_arrivals : ℕ → Located → List DatagramRecord → Arrivals → Located
with_arrivals n x sent came =
    with_heard n (with_heard n x (heard_arrival sent came.a)) (heard_arrival sent came.b)

-- a broadcast read of the low byte of AL status (IEC 61158-6-12, AL status), which every slave counts
abbrev pub probe : DatagramRecord
probe = record {
  command = Brd;
  index = 0;
  address = address_of 0 AL_STATUS;
  circulating = false;
  irq = 0;
  payload = 0 ∷ [];
  counter = 0;
}

-- what is known after a trip of the probe; or the trip failed
abbrev pub located_of : ℕ → Result Arrivals PortFault → Result Located PortFault
located_of n (Err fault) = Err fault
located_of n (Ok came) = Ok (with_arrivals n Unknown (probe ∷ []) came)

-- ports before and after one trip of the probe, and what is known by it
pub record IsLocated {P : Type 0}
    (trips : P → List DatagramRecord → Result Arrivals PortFault → P → Type 0) (before : P) (n : ℕ)
    (result : Result Located PortFault) (later : P) : Type 0 where
  pub came : Result Arrivals PortFault
  pub made : trips before (probe ∷ []) came later
  pub located : result ≡ located_of n came
