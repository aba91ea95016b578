-- What stands on a line: how often its slaves are counted, how the slave at a place is reached and read
-- (IEC 61158-4-12, auto-increment addressing), and when a scan has read all of them.
use Rattle.std.specs.Prelude.{◌≡◌, ◌≢◌, ℕ, zero, suc, ◌-◌, ◌*◌, ◌==◌, ◌||◌, max, nat_lt, Bool, true, false}
use Rattle.std.specs.Prelude.{if◌then◌else◌, Option, None, Some, List, [], ◌∷◌, ◌++◌, length, replicate}
use Rattle.std.specs.Prelude.{Result, Ok, Err}
use Rattle.std.specs.List.{list_all}
use Rattle.ec_diag.specs.declared.located.Located.{Located}
use Rattle.ec_diag.specs.declared.located.Located.TheVariants.{Unknown, One}
use Rattle.ec_master.specs.Ports.{Trips}
use Rattle.ec_regs.specs.declared.registers.TheConstants.{STATION_ADDRESS, AL_STATUS, FMMU_BASE, FMMU_COUNT}
use Rattle.ec_regs.specs.declared.registers.TheConstants.{SYNC_MANAGER_BASE, SYNC_MANAGER_COUNT}
use Rattle.ec_ring.specs.declared.port.Port.TheVariants as port
use Rattle.ec_run.specs.Ask.{IsPut, one_counted}
use Rattle.ec_run.specs.Counting.{IsCounted}
use Rattle.ec_run.specs.Tally.{came_at}
use Rattle.ec_run.specs.Watched.{WatchedState, WatchedTrips, untold}
use Rattle.ec_services.specs.Stations.{adp_of_place}
use Rattle.ec_services.specs.declared.fault.MasterFault.{MasterFault}
use Rattle.ec_wire.specs.Datagram.{DatagramRecord, address_of, nth}
use Rattle.ec_wire.specs.declared.command.Command.TheVariants.{Aprd}
use Rattle.ecat_master.specs.Course.{HeardTrips, IsLookedOver}
use Rattle.ecat_master.specs.declared.scanning.TheConstants.{ASKS, COUNTS, FMMU_BYTES, MANAGER_BYTES}
use Rattle.ecat_master.specs.declared.scanning.TheConstants.{STATUS_BYTES}
use Rattle.ecat_master.specs.declared.scanning.Way.{Way}

-- ---- counts

-- the greater of a count and of another one, if there is one
abbrev pub greater : Option ℕ → ℕ → ℕ
greater None count = count
greater (Some other) count = max other count

-- the greatest of these counts and of one that was found before them, if any was
abbrev pub greatest_from : Option ℕ → List ℕ → Option ℕ
greatest_from found [] = found
greatest_from found (count ∷ rest) = greatest_from (Some (greater found count)) rest

-- the greatest of these counts; nothing where there is none
abbrev pub greatest : List ℕ → Option ℕ
greatest counts = greatest_from None counts

-- are all the first one
abbrev pub are_alike : List ℕ → Bool
are_alike [] = true
are_alike (first ∷ rest) = list_all (λ count. count == first) (first ∷ rest)

-- ---- how they are counted

-- a count, where a copy of it came
abbrev pub heard_count : Bool → Result ℕ MasterFault → Result (Option ℕ) MasterFault
heard_count came (Err fault) = Err fault
heard_count came (Ok count) = Ok (if came then Some count else None)

-- what was told is forgotten, and the slaves are counted; a count of which no copy came is none
pub record IsAsk {P : Type 0} (heard : HeardTrips P) (before : WatchedState P)
    (told : Result (Option ℕ) MasterFault) (later : WatchedState P) : Type 0 where
  pub count : Result ℕ MasterFault
  pub counting : IsCounted (WatchedTrips heard) (untold before.ports) count later
  pub tells : told ≡ heard_count (came_at port.A later.tally || came_at port.B later.tally) count

-- one count more, where there is one
abbrev pub with_count : List ℕ → Option ℕ → List ℕ
with_count counts None = counts
with_count counts (Some count) = counts ++ count ∷ []

-- are there as many counts as are wanted
abbrev pub is_enough : List ℕ → Bool
is_enough counts = length counts == COUNTS

-- behind these counts the slaves are asked for, until a port fails or there are counts enough, so often at
-- the most
unfoldable pub AreAsked : {P : Type 0} → HeardTrips P → WatchedState P → ℕ → List ℕ
    → Result (List ℕ) MasterFault → WatchedState P → Type 0
AreAsked heard before zero counts result later = (result ≡ Ok counts) × (later ≡ before)
AreAsked {P} heard before (suc more) counts result later =
    (told : Result (Option ℕ) MasterFault) × (between : WatchedState P) × IsAsk heard before told between
    × (elim told [
      | Err fault ↦ (result ≡ Err fault) × (later ≡ between)
      | Ok count ↦ elim (is_enough (with_count counts count)) [
        | true ↦ (result ≡ Ok (with_count counts count)) × (later ≡ between)
        | false ↦ AreAsked heard between more (with_count counts count) result later
      ]
    ])

-- ---- a slave by its place

-- how the slave at a place is reached. Over a cable that is broken at one link each side is processed from
-- its own end: a slave behind the link is so far from it, and one before it is the only one that takes a
-- frame which circulates.
abbrev pub way_to : ℕ → Located → Way
way_to place (One link) =
    if nat_lt place link then record { distance = place; circulating = true }
    else record { distance = place - link; circulating = false }
way_to place _ = record { distance = place; circulating = false }

-- the read of so many bytes of a slave, from a register on
abbrev pub register_read : Way → ℕ → ℕ → DatagramRecord
register_read way ado size = record {
  command = Aprd;
  index = 0;
  address = address_of (adp_of_place way.distance) ado;
  circulating = way.circulating;
  irq = 0;
  payload = replicate size 0;
  counter = 0;
}

-- an answer, unless a test of it told a fault
abbrev pub unless_failed : Result (Unit {0}) MasterFault → Result (List DatagramRecord) MasterFault
    → Result (List DatagramRecord) MasterFault
unless_failed (Err fault) joined = Err fault
unless_failed (Ok _) joined = joined

-- registers are read, and the answer is good only where exactly one slave counted
pub record IsReadAt {P : Type 0} (trips : Trips P) (before : P) (way : Way) (ado size : ℕ)
    (result : Result (List DatagramRecord) MasterFault) (later : P) : Type 0 where
  pub joined : Result (List DatagramRecord) MasterFault
  pub puts : IsPut trips before (register_read way ado size) joined later
  pub tells : result ≡ unless_failed (one_counted joined) joined

-- registers were read, and exactly one slave counted
pub record IsRunRead {P : Type 0} (trips : Trips P) (before : P) (way : Way) (ado size : ℕ) (later : P)
    : Type 0 where
  pub joined : List DatagramRecord
  pub puts : IsPut trips before (register_read way ado size) (Ok joined) later
  pub one : (nth joined 0).counter ≡ 1

-- its station address, its AL status and code, its sync managers and its FMMUs were read, one after the other
pub record IsLookedThrough {P : Type 0} (trips : Trips P) (before : P) (way : Way) (later : P) : Type 0 where
  pub addressed : P
  pub station : IsRunRead trips before way STATION_ADDRESS 2 addressed
  pub told : P
  pub status : IsRunRead trips addressed way AL_STATUS STATUS_BYTES told
  pub managed : P
  pub managers : IsRunRead trips told way SYNC_MANAGER_BASE (MANAGER_BYTES * SYNC_MANAGER_COUNT) managed
  pub fmmus : IsRunRead trips managed way FMMU_BASE (FMMU_BYTES * FMMU_COUNT) later

-- ---- the whole line

-- the slave at a place was read so; of the trips behind that, by which it is asked who it is, nothing is said
pub record IsPlaceRead {P : Type 0} (heard : HeardTrips P) (before : WatchedState P) (cable : Located)
    (place : ℕ) (later : WatchedState P) : Type 0 where
  pub between : WatchedState P
  pub looks : IsLookedThrough (WatchedTrips heard) before (way_to place cable) between

-- so many slaves were, from the first place on
unfoldable pub ArePlacesRead : {P : Type 0} → HeardTrips P → WatchedState P → Located → ℕ → WatchedState P
    → Type 0
ArePlacesRead heard before cable zero later = later ≡ before
ArePlacesRead {P} heard before cable (suc place) later =
    (now : WatchedState P) × ArePlacesRead heard before cable place now
    × IsPlaceRead heard now cable place later

-- copies of counts came, which were all alike; by the looks something is known of the cable; and as many
-- slaves as counted were read, one after the other
pub record IsScanned {P : Type 0} (heard : HeardTrips P) (before later : WatchedState P) : Type 0 where
  pub counts : List ℕ
  pub counted : WatchedState P
  pub asks : AreAsked heard before ASKS [] (Ok counts) counted
  pub count : ℕ
  pub greatest_is : greatest counts ≡ Some count
  pub alike : are_alike counts ≡ true
  pub cable : Located
  pub looked : WatchedState P
  pub looks : IsLookedOver heard counted count (Some cable) looked
  pub known : cable ≢ Unknown
  pub reads : ArePlacesRead heard looked cable count later
