-- The identities of a line's slaves are read in Pre-Op as they were found: where each slave is the one that
-- is wanted, none is another, and all stay as the next phase needs them.
use Rattle.std.proofs.Common.{◌≡◌, ◌<◌, ℕ, ◌+◌, List, [], ◌∷◌, drop, get_or, length, map, Option, None, Some}
use Rattle.std.proofs.Common.{Result, Ok, Err, refl, sym, ap, ◌∙◌, subst, arith, inl, inr}
use Rattle.std.specs.Prelude.{◌≢◌, ◌⊎◌, slice_get}
use Rattle.std.specs.List.{AllByRecursion}
use Rattle.ec_app.specs.Objects.{object_at}
use Rattle.ec_app.specs.State.{SlaveState}
use Rattle.ec_app.specs.declared.objects.Entry.{Entry}
use Rattle.ec_app.specs.declared.sdo.Sdo.TheVariants.{Upload}
use Rattle.ec_app.specs.declared.value.Rights.TheVariants.{ReadOnly}
use Rattle.ec_app.specs.declared.value.Value.{Value}
use Rattle.ec_master.specs.RingTrips.{RingTrips}
use Rattle.ec_ring.specs.Ring.{RingState}
use Rattle.ec_run.specs.StartupObjects.{peer_by}
use Rattle.ec_run.specs.Watched.{WatchedState, WatchedTrips}
use Rattle.ec_run.specs.declared.wanted.Wanted.{Wanted}
use Rattle.ec_run.proofs.Laws.{sure_of}
use Rattle.ec_services.specs.Surely.{IsSure}
use Rattle.ec_services.specs.Transfer.{uploaded_by, uploading}
use Rattle.ec_services.specs.declared.fault.MasterFault.{MasterFault}
use Rattle.ec_services.specs.declared.mailbox.Peer.{Peer}
use Rattle.ec_over_ring.specs.Heard.{HeardRing}
use Rattle.ec_over_ring.specs.Started.{AreWanted, IsWanted}
use Rattle.ec_over_ring.specs.Stations.{station_of}
use Rattle.ec_over_ring.proofs.Laws.{AreAsFound, AreFree, Endures, Goes, HasSuch, HoldsFixed, IsRead}
use Rattle.ec_over_ring.proofs.Laws.{IsReadyFor, IsServed, IsSuch, first_served, fixed_read, found_so}
use Rattle.ec_over_ring.proofs.Laws.{free_still}
use Rattle.ec_over_ring.proofs.Laws.{others_apart, read_keeps, read_leaves, ready_line, such_as, such_one}
use Rattle.ec_over_ring.proofs.Laws.{watched_ring}
use Rattle.ecat_master.specs.Identities.{AreEntriesCompared, AreIdentitiesCompared, EntryComesTo}
use Rattle.ecat_master.specs.Identities.{IdentityEntry, IsEntryCompared, IsPeerCompared, WantedIdentity}
use Rattle.ecat_master.specs.Identities.{entry_at, next_entry}
use Rattle.ecat_master.specs.declared.identity.OtherSlave.{OtherSlave}
use Rattle.ecat_master.specs.declared.identity.TheConstants.{IDENTITY}
use Rattle.ecat_started.specs.Startable.{HasIdentity, HaveIdentities, HoldsEntries, IsUnasked}
use Rattle.ecat_started.specs.Startable.{TellsIdentity}

pub never_err : {A E : Type 0} (x : A) (e : E) → Err e ≡ (let fine : Result A E = Ok x in fine) → ⊥
never_err {A} {E} x e is = absurd (cc (is))

-- ---- a slave that is the one that is wanted

entries_still : (es fs : List Entry) (number : ℕ) (identity : WantedIdentity)
    → ((i j : ℕ) (v : Value) → object_at i j es ≡ Some (ReadOnly, v)
    → object_at i j fs ≡ Some (ReadOnly, v)) → HoldsEntries es number identity
    → HoldsEntries fs number identity
entries_still es fs number [] fixed holds = tt
entries_still es fs number (None ∷ rest) fixed holds = entries_still es fs (number + 1) rest fixed holds
entries_still es fs number (Some value ∷ rest) fixed holds = (
  holds.0,
  fixed IDENTITY number value holds.1,
  entries_still es fs (number + 1) rest fixed holds.2,
)

abbrev HoldsFrom : ℕ → WantedIdentity → SlaveState → Type 0
HoldsFrom number identity s = HoldsEntries s.application.objects number identity

entries_endure : (number : ℕ) (identity : WantedIdentity) → Endures (HoldsFrom number identity)
unfolding Endures
entries_endure number identity s t left holds =
    entries_still s.application.objects t.application.objects number identity left.fixed holds

identity_endures : (wanted : Wanted) (identity : WantedIdentity) → Endures (HasIdentity wanted identity)
unfolding Endures
identity_endures wanted identity s t left (inl unasked) = inl unasked
identity_endures wanted identity s t left (inr tells) = inr (record {
  entries = entries_still s.application.objects t.application.objects 1 identity left.fixed tells.entries;
  paired = tells.paired;
  requests = free_still s.controller.memory t.controller.memory (slice_get wanted.managers 0) left.areas
      tells.requests;
  answers = free_still s.controller.memory t.controller.memory (slice_get wanted.managers 1) left.areas
      tells.answers;
})

-- ---- those of a line

-- each slave is the one that is wanted, by its station address
abbrev pub AreTelling : List WantedIdentity → List Wanted → List SlaveState → Type 0
AreTelling [] line ss = Unit {0}
AreTelling (identity ∷ identities) [] ss = Unit {0}
AreTelling (identity ∷ identities) (wanted ∷ line) ss =
    HasSuch (HasIdentity wanted identity) wanted.station ss × AreTelling identities line ss

pub still_telling : (identities : List WantedIdentity) (line : List Wanted) (ss ts : List SlaveState)
    → ((P : SlaveState → Type 0) (station : ℕ) → Endures P → HasSuch P station ss → HasSuch P station ts)
    → AreTelling identities line ss → AreTelling identities line ts
still_telling [] line ss ts keeps tell = tt
still_telling (identity ∷ identities) [] ss ts keeps tell = tt
still_telling (identity ∷ identities) (wanted ∷ line) ss ts keeps tell = (
  keeps (HasIdentity wanted identity) wanted.station (identity_endures wanted identity) tell.0,
  still_telling identities line ss ts keeps tell.1,
)

more_telling : (station : ℕ) (s : SlaveState) (identities : List WantedIdentity) (line : List Wanted)
    (ss : List SlaveState) → station_of s ≡ station
    → AllByRecursion (λ (other : Wanted). other.station ≢ station) line → AreTelling identities line ss
    → AreTelling identities line (s ∷ ss)
unfolding HasSuch
more_telling station s [] line ss is differ tell = tt
more_telling station s (identity ∷ identities) [] ss is differ tell = tt
more_telling station s (identity ∷ identities) (w ∷ ws) ss is differ tell = (
  inr ((λ same. differ.0 (sym same ∙ is)), tell.0),
  more_telling station s identities ws ss is differ.1 tell.1,
)

-- they were so by their places when they were found
pub first_telling : (identities : List WantedIdentity) (line : List Wanted) (ss ts : List SlaveState)
    → map station_of ts ≡ map (λ (w : Wanted). w.station) line → AreWanted line → AreAsFound ss ts
    → HaveIdentities identities line ss → AreTelling identities line ts
unfolding HasSuch AreAsFound Endures
first_telling [] line ss ts same are found have = tt
first_telling (identity ∷ identities) [] ss ts same are found have = tt
first_telling (identity ∷ identities) (w ∷ ws) (s ∷ ss) (t ∷ ts) same are found have =
    let own : station_of t ≡ w.station = ap (λ (xs : List ℕ). get_or xs 0 0) same in
    let rest : map station_of ts ≡ map (λ (v : Wanted). v.station) ws =
    ap (λ (xs : List ℕ). drop 1 xs) same in (
      inl (
        own,
        identity_endures w identity s t (found_so s t found.0) have.0,
        others_apart w.station ws ts rest are.1,
      ),
      more_telling w.station t identities ws ts own are.1
          (first_telling identities ws ss ts rest are.2 found.1 have.1),
    )
first_telling (identity ∷ identities) (w ∷ ws) [] [] same are found have =
    absurd (omega (arith, ap (λ (xs : List ℕ). length xs) same))
first_telling (identity ∷ identities) (w ∷ ws) [] (t ∷ ts) same are found have = absurd found
first_telling (identity ∷ identities) (w ∷ ws) (s ∷ ss) [] same are found have = absurd found

-- ---- an entry

-- a ring of a line while identities are compared: it is ready for its startup objects, and each of the slaves
-- that come yet is the one that is wanted
pub record IsOn (line : List Wanted) (identities : List WantedIdentity) (some : List Wanted) (r : RingState)
    : Type 0 where
  pub ready : IsReadyFor line r
  pub left : IsReadyFor some r
  pub tell : AreTelling identities some r.slaves

-- and one of them is read, from an entry on
record IsAt (line : List Wanted) (identities : List WantedIdentity) (some : List Wanted)
    (station number : ℕ) (identity : WantedIdentity) (peer : Peer) (r : RingState) : Type 0 where
  on : IsOn line identities some r
  served : IsServed station peer r
  holds : HasSuch (HoldsFrom number identity) station r.slaves

came_so : (entry : IdentityEntry) (value : Value) (found : Result Value MasterFault)
    (did : Result (Unit {0}) OtherSlave) → found ≡ Ok value → EntryComesTo entry value found did
    → did ≡ Ok tt
came_so entry value found (Ok did) is comes = refl
came_so entry value found (Err other) is comes = absurd (comes.0 is)

abbrev IsAtNext : List Wanted → List WantedIdentity → List Wanted → ℕ → ℕ → WantedIdentity → Peer
    → Result (Unit {0}) OtherSlave → WatchedState RingState → Type 0
IsAtNext line identities some station number identity peer did later =
    (did ≡ Ok tt) × IsAt line identities some station (number + 1) identity peer later.ports

entry_so : (line : List Wanted) (identities : List WantedIdentity) (some : List Wanted) (station : ℕ)
    (entry : IdentityEntry) (peer peer_later : Peer) (value : Option Value) (rest : WantedIdentity)
    (did : Result (Unit {0}) OtherSlave) (before later : WatchedState RingState)
    → IsAt line identities some station entry.number (value ∷ rest) peer before.ports
    → IsEntryCompared (WatchedTrips HeardRing) before entry peer value did peer_later later
    → IsAtNext line identities some station entry.number rest peer_later did later
entry_so line identities some station entry peer peer_later None rest did before later at
    (is, same, still) = (
      is,
      subst (λ (p : Peer). IsAt line identities some station (entry.number + 1) rest p later.ports) (sym same)
          (subst (λ (w : WatchedState RingState).
          IsAt line identities some station (entry.number + 1) rest peer w.ports) (sym still)
          (record { on = at.on; served = at.served; holds = at.holds })),
    )
entry_so line identities some station entry peer peer_later (Some value) rest did before later at compared =
    let r : RingState = before.ports in
    let n : ℕ = entry.number in
    let found : Result Value MasterFault = compared.found in
    let sure : IsSure RingTrips r peer (uploading IDENTITY n) 64 found peer_later later.ports =
    sure_of (λ (w : WatchedState RingState). w.ports) (WatchedTrips HeardRing) RingTrips watched_ring before
    later peer peer_later (Upload IDENTITY n) _ uploaded_by found compared.reads in
    let P : SlaveState → Type 0 = HoldsFrom n (Some value ∷ rest) in
    let is : IsSuch P station r.slaves = such_one P station r.slaves at.holds in
    let small : n < 256 = is.such.0 in
    let read : IsRead station value found peer_later later.ports =
    fixed_read station peer peer_later IDENTITY n value found r later.ports at.served
    (omega arith, small)
    (such_as P (HoldsFixed IDENTITY n value) station r.slaves (λ s so. so.1) at.holds) sure in (
      came_so entry value found did read.came compared.comes_to,
      record {
        on = record {
          ready = read_leaves line station peer peer_later IDENTITY n found r later.ports at.served sure
              at.on.ready;
          left = read_leaves some station peer peer_later IDENTITY n found r later.ports at.served sure
              at.on.left;
          tell = still_telling identities some r.slaves later.ports.slaves
              (λ Q other endures has.
              read_keeps Q other station peer peer_later IDENTITY n found r later.ports at.served endures sure
              has)
              at.on.tell;
        };
        served = read.served;
        holds = read_keeps (HoldsFrom (n + 1) rest) station station peer peer_later IDENTITY n found r
            later.ports at.served (entries_endure (n + 1) rest) sure
            (such_as P (HoldsFrom (n + 1) rest) station r.slaves (λ s so. so.2) at.holds);
      },
    )

-- ---- a slave

abbrev GoesOn : List Wanted → List WantedIdentity → List Wanted → Result (Unit {0}) OtherSlave
    → WatchedState RingState → Type 0
GoesOn line identities some result later =
    Goes (λ (w : WatchedState RingState). IsOn line identities some w.ports) result later

entries_so : (line : List Wanted) (identities : List WantedIdentity) (some : List Wanted) (station : ℕ)
    (entry : IdentityEntry) (peer : Peer) (identity : WantedIdentity) (result : Result (Unit {0}) OtherSlave)
    (before later : WatchedState RingState)
    → IsAt line identities some station entry.number identity peer before.ports
    → AreEntriesCompared (WatchedTrips HeardRing) before entry peer identity result later
    → GoesOn line identities some result later
unfolding AreEntriesCompared
entries_so line identities some station entry peer [] result before later at (is, same) = record {
  came = is;
  so = subst (λ (w : WatchedState RingState). IsOn line identities some w.ports) (sym same) at.on;
}
entries_so line identities some station entry peer (value ∷ rest) result before later at
    (Err other, peer_later, between, one, left) =
    absurd (never_err tt other
    (entry_so line identities some station entry peer peer_later value rest (Err other) before between at
    one).0)
entries_so line identities some station entry peer (value ∷ rest) result before later at
    (Ok did, peer_later, between, one, left) =
    entries_so line identities some station (next_entry entry) peer_later rest result between later
    (entry_so line identities some station entry peer peer_later value rest (Ok did) before between at one).1
    left

-- of one of which nothing is wanted nothing is read
none_read : (entry : IdentityEntry) (peer peer_later : Peer) (value : Option Value)
    (did : Result (Unit {0}) OtherSlave) (before later : WatchedState RingState) → value ≡ None
    → IsEntryCompared (WatchedTrips HeardRing) before entry peer value did peer_later later
    → (did ≡ Ok tt) × (later ≡ before)
none_read entry peer peer_later None did before later none (is, same, still) = (is, still)
none_read entry peer peer_later (Some value) did before later none compared = absurd (cc (none))

nothing_read : (entry : IdentityEntry) (peer : Peer) (identity : WantedIdentity)
    (result : Result (Unit {0}) OtherSlave) (before later : WatchedState RingState)
    → AllByRecursion (λ (value : Option Value). value ≡ None) identity
    → AreEntriesCompared (WatchedTrips HeardRing) before entry peer identity result later
    → (result ≡ Ok tt) × (later ≡ before)
unfolding AreEntriesCompared
nothing_read entry peer [] result before later none (is, same) = (is, same)
nothing_read entry peer (value ∷ rest) result before later none (Err other, peer_later, between, one, left) =
    absurd (never_err tt other
    (none_read entry peer peer_later value (Err other) before between none.0 one).0)
nothing_read entry peer (value ∷ rest) result before later none (Ok did, peer_later, between, one, left) =
    let all = nothing_read (next_entry entry) peer_later rest result between later none.1 left in
    (all.0, all.1 ∙ (none_read entry peer peer_later value (Ok did) before between none.0 one).1)

-- and of one that is not a peer
stays_on : (line : List Wanted) (identities : List WantedIdentity) (some : List Wanted)
    (result : Result (Unit {0}) OtherSlave) (before later : WatchedState RingState)
    → IsOn line identities some before.ports → (result ≡ Ok tt) × (later ≡ before)
    → GoesOn line identities some result later
stays_on line identities some result before later on (is, same) = record {
  came = is;
  so = subst (λ (w : WatchedState RingState). IsOn line identities some w.ports) (sym same) on;
}

any_will_do : (line : List Wanted) (identities : List WantedIdentity) (some : List Wanted)
    (place station : ℕ) (to : Option Peer) (identity : WantedIdentity)
    (result : Result (Unit {0}) OtherSlave) (before later : WatchedState RingState)
    → IsOn line identities some before.ports
    → AllByRecursion (λ (value : Option Value). value ≡ None) identity
    → IsPeerCompared (WatchedTrips HeardRing) before place station to identity result later
    → GoesOn line identities some result later
any_will_do line identities some place station None identity result before later on none compared =
    stays_on line identities some result before later on compared
any_will_do line identities some place station (Some peer) identity result before later on none compared =
    stays_on line identities some result before later on
    (nothing_read (entry_at place station 1) peer identity result before later none compared)

nobody_asked : (line : List Wanted) (identities : List WantedIdentity) (some : List Wanted)
    (place station : ℕ) (to : Option Peer) (identity : WantedIdentity)
    (result : Result (Unit {0}) OtherSlave) (before later : WatchedState RingState)
    → IsOn line identities some before.ports → to ≡ None
    → IsPeerCompared (WatchedTrips HeardRing) before place station to identity result later
    → GoesOn line identities some result later
nobody_asked line identities some place station None identity result before later on none compared =
    stays_on line identities some result before later on compared
nobody_asked line identities some place station (Some peer) identity result before later on none compared =
    absurd (cc (none))

peer_so : (line : List Wanted) (identities : List WantedIdentity) (some : List Wanted) (place : ℕ)
    (wanted : Wanted) (to : Option Peer) (identity : WantedIdentity)
    (result : Result (Unit {0}) OtherSlave) (before later : WatchedState RingState)
    → IsOn line identities some before.ports
    → ((peer : Peer) → to ≡ Some peer → IsServed wanted.station peer before.ports)
    → HasSuch (HoldsFrom 1 identity) wanted.station before.ports.slaves
    → IsPeerCompared (WatchedTrips HeardRing) before place wanted.station to identity result later
    → GoesOn line identities some result later
peer_so line identities some place wanted None identity result before later on serves holds compared =
    stays_on line identities some result before later on compared
peer_so line identities some place wanted (Some peer) identity result before later on serves holds compared =
    entries_so line identities some wanted.station (entry_at place wanted.station 1) peer identity result
    before later (record { on = on; served = serves peer refl; holds = holds }) compared

-- nobody is asked, or the slave tells it
such_tells : (wanted : Wanted) (identity : WantedIdentity) (station : ℕ) (ss : List SlaveState)
    → HasSuch (HasIdentity wanted identity) station ss
    → IsUnasked wanted identity ⊎ HasSuch (TellsIdentity wanted identity) station ss
unfolding HasSuch
such_tells wanted identity station [] has = absurd has
such_tells wanted identity station (s ∷ ss) (inl (is, inl unasked, others)) = inl unasked
such_tells wanted identity station (s ∷ ss) (inl (is, inr tells, others)) = inr (inl (is, tells, others))
such_tells wanted identity station (s ∷ ss) (inr (other, rest)) =
    elim (such_tells wanted identity station ss rest) [
      | inl unasked ↦ inl unasked
      | inr tells ↦ inr (inr (other, tells))
    ]

-- whom mails go to, if it has two mailboxes
abbrev peer_of : Wanted → Option Peer
peer_of wanted = peer_by wanted.station (slice_get wanted.managers 0) (slice_get wanted.managers 1) 1

slave_so : (line : List Wanted) (identities : List WantedIdentity) (some : List Wanted) (place : ℕ)
    (wanted : Wanted) (identity : WantedIdentity) (result : Result (Unit {0}) OtherSlave)
    (before later : WatchedState RingState) → IsWanted wanted → IsReadyFor (wanted ∷ some) before.ports
    → IsOn line identities some before.ports
    → IsUnasked wanted identity ⊎ HasSuch (TellsIdentity wanted identity) wanted.station before.ports.slaves
    → IsPeerCompared (WatchedTrips HeardRing) before place wanted.station (peer_of wanted) identity result
    later
    → GoesOn line identities some result later
slave_so line identities some place wanted identity result before later wants ready on (inl (inl none))
    compared =
    any_will_do line identities some place wanted.station (peer_of wanted) identity result before later on
    none compared
slave_so line identities some place wanted identity result before later wants ready on (inl (inr none))
    compared =
    nobody_asked line identities some place wanted.station (peer_of wanted) identity result before later on
    none compared
slave_so line identities some place wanted identity result before later wants ready on (inr tells) compared =
    let r : RingState = before.ports in
    let T : SlaveState → Type 0 = TellsIdentity wanted identity in
    let is : IsSuch T wanted.station r.slaves = such_one T wanted.station r.slaves tells in
    peer_so line identities some place wanted (peer_of wanted) identity result before later on
    (λ peer to.
    first_served wanted 1 peer r ready.stage.ring wants (omega arith) (omega arith)
    (ready_line (wanted ∷ some) r ready).0 is.such.paired
    (such_as T (AreFree wanted) wanted.station r.slaves (λ s so. (so.requests, so.answers)) tells) to)
    (such_as T (HoldsFrom 1 identity) wanted.station r.slaves (λ s so. so.entries) tells) compared

-- ---- a line

rest_ready : (wanted : Wanted) (rest : List Wanted) (r : RingState) → IsReadyFor (wanted ∷ rest) r
    → IsReadyFor rest r
rest_ready wanted rest r is = record {
  stage = record { ring = is.stage.ring; so_far = is.stage.so_far.1; boxes = is.stage.boxes.1 };
  willing = is.willing.1;
}

-- no slave is another, and the line is ready for its startup objects
pub identities_so : (line some : List Wanted) (identities : List WantedIdentity) (place : ℕ)
    (result : Result (Unit {0}) OtherSlave) (before later : WatchedState RingState) → AreWanted some
    → IsOn line identities some before.ports
    → AreIdentitiesCompared (WatchedTrips HeardRing) before place some identities result later
    → Goes (λ (w : WatchedState RingState). IsReadyFor line w.ports) result later
unfolding AreIdentitiesCompared
identities_so line [] identities place result before later are on (is, same) = record {
  came = is;
  so = subst (λ (w : WatchedState RingState). IsReadyFor line w.ports) (sym same) on.ready;
}
identities_so line (wanted ∷ rest) [] place result before later are on (is, same) = record {
  came = is;
  so = subst (λ (w : WatchedState RingState). IsReadyFor line w.ports) (sym same) on.ready;
}
identities_so line (wanted ∷ rest) (identity ∷ others) place result before later are on
    (Err other, between, one, left) =
    absurd (never_err tt other
    (slave_so line others rest place wanted identity (Err other) before between are.0 on.left
    (record { ready = on.ready; left = rest_ready wanted rest before.ports on.left; tell = on.tell.1 })
    (such_tells wanted identity wanted.station before.ports.slaves on.tell.0) one).came)
identities_so line (wanted ∷ rest) (identity ∷ others) place result before later are on
    (Ok did, between, one, left) =
    identities_so line rest others (place + 1) result between later are.2
    (slave_so line others rest place wanted identity (Ok did) before between are.0 on.left
    (record { ready = on.ready; left = rest_ready wanted rest before.ports on.left; tell = on.tell.1 })
    (such_tells wanted identity wanted.station before.ports.slaves on.tell.0) one).so left
