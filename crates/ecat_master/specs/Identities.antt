-- The slaves of a line are asked who they are (IEC 61158-6-12, identity object): of one after the other those
-- entries are read of which a value is wanted, in their order, up to the first that is another.
use Rattle.std.specs.Prelude.{◌≡◌, ◌≢◌, ℕ, ◌+◌, ◌*◌, Option, None, Some, List, [], ◌∷◌, length, Result, Ok}
use Rattle.std.specs.Prelude.{Err, slice_get}
use Rattle.ec_app.specs.declared.roles.TheConstants.{ANSWER_MAILBOX, REQUEST_MAILBOX}
use Rattle.ec_app.specs.declared.value.Value.{Value}
use Rattle.ec_master.specs.Ports.{Trips}
use Rattle.ec_run.specs.StartupObjects.{peer_by}
use Rattle.ec_run.specs.declared.wanted.Wanted.{Wanted}
use Rattle.ec_services.specs.Surely.{IsSure}
use Rattle.ec_services.specs.Transfer.{uploading}
use Rattle.ec_services.specs.declared.fault.MasterFault.{MasterFault}
use Rattle.ec_services.specs.declared.mailbox.Peer.{Peer}
use Rattle.ecat_master.specs.declared.identity.OtherSlave.{OtherSlave}
use Rattle.ecat_master.specs.declared.identity.TheConstants.{ENTRY_TRIPS, IDENTITY}

-- what the entries of a slave's identity are to be, from entry 1 on; nothing where any value will do
abbrev pub WantedIdentity : Type 0
WantedIdentity = List (Option Value)

-- ---- an entry

-- an entry of a slave's identity, with the place and the station address of the slave
pub record IdentityEntry : Type 0 where
  pub place : ℕ
  pub station : ℕ
  pub number : ℕ

abbrev pub entry_at : ℕ → ℕ → ℕ → IdentityEntry
entry_at place station number = record { place = place; station = station; number = number }

-- the next one of the same slave
abbrev pub next_entry : IdentityEntry → IdentityEntry
next_entry entry = record entry { number = entry.number + 1 }

-- what was found of an entry is what is wanted; or it is not, and the slave is told as another one, by its
-- place, its station address, that entry and both
abbrev pub EntryComesTo : IdentityEntry → Value → Result Value MasterFault → Result (Unit {0}) OtherSlave
    → Type 0
EntryComesTo entry wanted found (Ok _) = found ≡ Ok wanted
EntryComesTo entry wanted found (Err other) =
    (found ≢ Ok wanted)
    × (other ≡ record {
      place = entry.place;
      station = entry.station;
      entry = entry.number;
      wanted = wanted;
      found = found;
    })

-- an entry is read surely, and compared
pub record IsEntryRead {P : Type 0} (trips : Trips P) (before : P) (entry : IdentityEntry) (peer : Peer)
    (wanted : Value) (result : Result (Unit {0}) OtherSlave) (peer_later : Peer) (later : P) : Type 0 where
  pub found : Result Value MasterFault
  pub reads : IsSure trips before peer (uploading IDENTITY entry.number) ENTRY_TRIPS found peer_later later
  pub comes_to : EntryComesTo entry wanted found result

-- unless any value will do
abbrev pub IsEntryCompared : {P : Type 0} → Trips P → P → IdentityEntry → Peer → Option Value
    → Result (Unit {0}) OtherSlave → Peer → P → Type 0
IsEntryCompared trips before entry peer None result peer_later later =
    (result ≡ Ok tt) × (peer_later ≡ peer) × (later ≡ before)
IsEntryCompared trips before entry peer (Some wanted) result peer_later later =
    IsEntryRead trips before entry peer wanted result peer_later later

-- ---- a slave

-- its entries are compared one after the other, from this one on, until one is another
unfoldable pub AreEntriesCompared : {P : Type 0} → Trips P → P → IdentityEntry → Peer → WantedIdentity
    → Result (Unit {0}) OtherSlave → P → Type 0
AreEntriesCompared trips before entry peer [] result later = (result ≡ Ok tt) × (later ≡ before)
AreEntriesCompared {P} trips before entry peer (wanted ∷ rest) result later =
    (did : Result (Unit {0}) OtherSlave) × (peer_later : Peer) × (between : P)
    × IsEntryCompared trips before entry peer wanted did peer_later between
    × (elim did [
      | Err other ↦ (result ≡ Err other) × (later ≡ between)
      | Ok _ ↦ AreEntriesCompared trips between (next_entry entry) peer_later rest result later
    ])

-- from entry 1 on, of a slave to which mails go; of one without both mailboxes nothing is read
abbrev pub IsPeerCompared : {P : Type 0} → Trips P → P → ℕ → ℕ → Option Peer → WantedIdentity
    → Result (Unit {0}) OtherSlave → P → Type 0
IsPeerCompared trips before place station None identity result later = (result ≡ Ok tt) × (later ≡ before)
IsPeerCompared trips before place station (Some peer) identity result later =
    AreEntriesCompared trips before (entry_at place station 1) peer identity result later

-- the slave at a place, if two of its records are its mailboxes; the first mail to it has the counter 1
abbrev pub IsIdentityCompared : {P : Type 0} → Trips P → P → ℕ → Wanted → WantedIdentity
    → Result (Unit {0}) OtherSlave → P → Type 0
IsIdentityCompared trips before place wanted identity result later =
    IsPeerCompared trips before place wanted.station
    (peer_by wanted.station (slice_get wanted.managers REQUEST_MAILBOX)
    (slice_get wanted.managers ANSWER_MAILBOX) 1) identity result later

-- ---- a line

-- slaves are compared one after the other, the first of them at this place, as far as identities are wanted,
-- until one is another
unfoldable pub AreIdentitiesCompared : {P : Type 0} → Trips P → P → ℕ → List Wanted → List WantedIdentity
    → Result (Unit {0}) OtherSlave → P → Type 0
AreIdentitiesCompared trips before place [] identities result later = (result ≡ Ok tt) × (later ≡ before)
AreIdentitiesCompared trips before place (wanted ∷ rest) [] result later =
    (result ≡ Ok tt) × (later ≡ before)
AreIdentitiesCompared {P} trips before place (wanted ∷ rest) (identity ∷ others) result later =
    (did : Result (Unit {0}) OtherSlave) × (between : P)
    × IsIdentityCompared trips before place wanted identity did between
    × (elim did [
      | Err other ↦ (result ≡ Err other) × (later ≡ between)
      | Ok _ ↦ AreIdentitiesCompared trips between (place + 1) rest others result later
    ])

-- the most trips by which that is done: so many for each entry
abbrev pub identities_trips : List WantedIdentity → ℕ
identities_trips [] = 0
identities_trips (identity ∷ rest) = length identity * ENTRY_TRIPS + identities_trips rest
