-- Each slave of a line gets its station address by its place (IEC 61158-4-12, configured station address and
-- auto-increment addressing): a broadcast read counts the slaves, and then each is written to.
use Rattle.std.specs.Prelude.{◌≡◌, ℕ, zero, suc, ◌+◌, ◌-◌, ◌%◌, ◌==◌, nat_lt, Bool, ◌&&◌, ◌||◌, Option}
use Rattle.std.specs.Prelude.{None, Some}
use Rattle.std.specs.Prelude.{List, [], ◌∷◌, Result, Ok, Err, is_none}
use Rattle.std.specs.Int.{w16, to_le_bytes}
use Rattle.ec_wire.specs.Datagram.{DatagramRecord, address_of, nth}
use Rattle.ec_wire.specs.declared.command.Command.TheVariants.{Apwr, Brd}
use Rattle.ec_regs.specs.declared.registers.TheConstants.{STATION_ADDRESS, AL_STATUS}
use Rattle.ec_app.specs.Table.{first_fitting}
use Rattle.ec_ring.specs.declared.links.TheConstants.{MAX_SLAVES}
use Rattle.ec_ring.specs.declared.weather.Came.{Came}
use Rattle.ec_master.specs.Ports.{Trips}
use Rattle.ec_services.specs.Ask.{request, Answer, told_by, Asks, Question, Talks, write}
use Rattle.ec_services.specs.declared.fault.MasterFault.{MasterFault}
use Rattle.ec_services.specs.declared.fault.MasterFault.TheVariants.{NoSlave, BadAnswer, Broken}

-- ---- counting

-- the broadcast read of AL status
abbrev pub status_broadcast : DatagramRecord
status_broadcast = request Brd (address_of 0 AL_STATUS) (0 ∷ 0 ∷ [])

-- how many slaves counted on a copy; none on one that is missing
abbrev pub counted_on : Option (List DatagramRecord) → ℕ
counted_on None = 0
counted_on (Some frame) = (nth frame 0).counter

-- is the cable broken: a copy is missing, or slaves counted on both
abbrev pub is_broken : Came → Bool
is_broken came =
    is_none came.a || is_none came.b || (nat_lt 0 (counted_on came.a) && nat_lt 0 (counted_on came.b))

-- how many slaves there are, by the answer to the broadcast read
abbrev pub slave_count : Answer → Result ℕ MasterFault
slave_count (Err fault) = Err fault
slave_count (Ok back) =
    let count = (told_by back).counter in
    first_fitting
    ((is_broken back.came, Err Broken)
    ∷ (count == 0, Err NoSlave)
    ∷ (nat_lt MAX_SLAVES count, Err BadAnswer)
    ∷ []) (Ok count)

-- the broadcast read goes out, and its answer tells how many slaves there are
pub record IsCounted {P : Type 0} (trips : Trips P) (before : P) (count : Result ℕ MasterFault) (later : P)
    : Type 0 where
  pub answer : Answer
  pub asks : Asks trips before status_broadcast answer later
  pub tells : count ≡ slave_count answer

-- ---- writing

-- the ADP by which the slave at a place finds that it is meant: each slave before it adds 1, and it sees 0
abbrev pub adp_of_place : ℕ → ℕ
adp_of_place place = (65536 - place) % 65536

-- the slave at a place is given a station address
abbrev pub station_write : ℕ → ℕ → DatagramRecord
station_write place station =
    request Apwr (address_of (adp_of_place place) STATION_ADDRESS) (to_le_bytes w16 station)

-- so many slaves from a place on are given rising addresses
abbrev pub station_writes : ℕ → ℕ → ℕ → List (Question ℕ)
station_writes place station zero = []
station_writes place station (suc n) =
    write (station_write place station) ∷ station_writes (place + 1) (station + 1) n

-- ---- the service

-- unless counting failed, the slaves get their addresses
abbrev pub ThenAssigns : {P : Type 0} → Trips P → P → ℕ → Result ℕ MasterFault → Result ℕ MasterFault → P
    → Type 0
ThenAssigns trips between first (Err fault) result later = (result ≡ Err fault) × (later ≡ between)
ThenAssigns trips between first (Ok count) result later =
    Talks trips between (station_writes 0 first count) (Ok count) result later

-- the slaves are counted, and each gets an address, the first one `first`; the result is their number
pub record AreAssigned {P : Type 0} (trips : Trips P) (before : P) (first : ℕ) (result : Result ℕ MasterFault)
    (later : P) : Type 0 where
  pub count : Result ℕ MasterFault
  pub between : P
  pub counting : IsCounted trips before count between
  pub writing : ThenAssigns trips between first count result later
