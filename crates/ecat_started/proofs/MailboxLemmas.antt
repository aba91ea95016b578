-- Sync managers 0 and 1 behind a start: each was read back when it was set, and nothing undoes it, neither
-- the reads of identities nor a phase above Pre-Op.
use Rattle.std.proofs.Common.{◌≡◌, ◌<◌, ℕ, ◌+◌, List, [], ◌∷◌, Option, None, Some, Ok, Err, refl, subst, sym}
use Rattle.std.specs.Prelude.{slice_get}
use Rattle.std.specs.List.{AllByRecursion}
use Rattle.ec_app.specs.declared.sdo.Sdo.TheVariants.{Upload}
use Rattle.ec_app.specs.declared.value.Value.{Value}
use Rattle.ec_diag.specs.declared.located.Located.{Located}
use Rattle.ec_master.specs.RingTrips.{RingTrips}
use Rattle.ec_regs.specs.declared.sync_man.SyncMan.{SyncMan}
use Rattle.ec_ring.specs.Ring.{RingState}
use Rattle.ec_run.specs.Phase.{Brings, steps_of}
use Rattle.ec_run.specs.StartupObjects.{peer_by}
use Rattle.ec_run.specs.Watched.{WatchedState, WatchedTrips}
use Rattle.ec_run.specs.declared.phase.Phase.{Phase}
use Rattle.ec_run.specs.declared.phase.Phase.TheVariants.{Init, PreOp, Startup, SafeOp, Op}
use Rattle.ec_run.specs.declared.wanted.Wanted.{Wanted}
use Rattle.ec_run.proofs.Laws.{brings_within, sure_of}
use Rattle.ec_services.specs.Transfer.{uploaded_by}
use Rattle.ec_services.specs.declared.mailbox.Peer.{Peer}
use Rattle.ec_over_ring.specs.Brought.{HasAreas, ReachesAll}
use Rattle.ec_over_ring.specs.Fit.{HasMailboxes}
use Rattle.ec_over_ring.specs.Heard.{HeardRing}
use Rattle.ec_over_ring.specs.Started.{AreWanted}
use Rattle.ec_over_ring.proofs.Laws.{AreRead, boxes_last, boxes_read, boxes_set, peer_high, watched_ring}
use Rattle.ec_over_ring.proofs.Laws.{within_there}
use Rattle.ecat_master.specs.Identities.{AreEntriesCompared, AreIdentitiesCompared, IdentityEntry}
use Rattle.ecat_master.specs.Identities.{IsEntryCompared, IsPeerCompared, WantedIdentity, entry_at}
use Rattle.ecat_master.specs.Identities.{next_entry}
use Rattle.ecat_master.specs.Start.{IsStarted}
use Rattle.ecat_master.specs.declared.identity.TheConstants.{IDENTITY}
use Rattle.ecat_started.proofs.PhaseLemmas.{ThenThrough, then_through, through_nothing}
use Rattle.ecat_started.proofs.ThereLemmas.{addressed_there}

-- ---- reads of identities

-- both mailboxes of each slave of a line stand
record AreStanding (line : List Wanted) (r : RingState) : Type 0 where
  ring : ReachesAll r
  boxes : AllByRecursion (HasMailboxes r) line

-- and then the next entry can be read
record IsNext (line : List Wanted) (peer_later : Peer) (later : RingState) : Type 0 where
  areas : HasAreas peer_later
  stand : AreStanding line later

entry_stands : (line : List Wanted) (entry : IdentityEntry) (peer peer_later : Peer) (wanted : Option Value)
    (did : Unit {0}) (before later : WatchedState RingState) → AreWanted line → HasAreas peer
    → AreStanding line before.ports
    → IsEntryCompared (WatchedTrips HeardRing) before entry peer wanted (Ok did) peer_later later
    → IsNext line peer_later later.ports
entry_stands line entry peer peer_later None did before later are areas stand (is, same, still) = record {
  areas = subst HasAreas (sym same) areas;
  stand = subst (λ (w : WatchedState RingState). AreStanding line w.ports) (sym still) stand;
}
entry_stands line entry peer peer_later (Some value) did before later are areas stand compared =
    let read : AreRead line peer_later later.ports =
    boxes_read peer peer_later IDENTITY entry.number _ compared.found line before.ports later.ports
    stand.ring are areas
    (sure_of (λ (w : WatchedState RingState). w.ports) (WatchedTrips HeardRing) RingTrips watched_ring before
    later peer peer_later (Upload IDENTITY entry.number) _ uploaded_by compared.found compared.reads)
    stand.boxes in
    record { areas = read.areas; stand = record { ring = read.ring; boxes = read.boxes } }

entries_stand : (line : List Wanted) (entry : IdentityEntry) (peer : Peer) (identity : WantedIdentity)
    (before later : WatchedState RingState) → AreWanted line → HasAreas peer
    → AreStanding line before.ports
    → AreEntriesCompared (WatchedTrips HeardRing) before entry peer identity (Ok tt) later
    → AreStanding line later.ports
unfolding AreEntriesCompared
entries_stand line entry peer [] before later are areas stand (is, same) =
    subst (λ (w : WatchedState RingState). AreStanding line w.ports) (sym same) stand
entries_stand line entry peer (wanted ∷ rest) before later are areas stand
    (Err other, peer_later, between, one, (is, same)) =
    absurd (cc)
entries_stand line entry peer (wanted ∷ rest) before later are areas stand
    (Ok did, peer_later, between, one, left) =
    let next : IsNext line peer_later between.ports =
    entry_stands line entry peer peer_later wanted did before between are areas stand one in
    entries_stand line (next_entry entry) peer_later rest between later are next.areas next.stand left

peer_stands : (line : List Wanted) (place station : ℕ) (requests answers : Option SyncMan) (to : Option Peer)
    (identity : WantedIdentity) (before later : WatchedState RingState) → AreWanted line → station < 65536
    → peer_by station requests answers 1 ≡ to → AreStanding line before.ports
    → IsPeerCompared (WatchedTrips HeardRing) before place station to identity (Ok tt) later
    → AreStanding line later.ports
peer_stands line place station requests answers None identity before later are address is stand (done, same) =
    subst (λ (w : WatchedState RingState). AreStanding line w.ports) (sym same) stand
peer_stands line place station requests answers (Some peer) identity before later are address is stand
    compared =
    entries_stand line (entry_at place station 1) peer identity before later are
    (peer_high station 1 requests answers peer address is) stand compared

identities_stand : (line some : List Wanted) (identities : List WantedIdentity) (place : ℕ)
    (before later : WatchedState RingState) → AreWanted line → AreWanted some
    → AreStanding line before.ports
    → AreIdentitiesCompared (WatchedTrips HeardRing) before place some identities (Ok tt) later
    → AreStanding line later.ports
unfolding AreIdentitiesCompared
identities_stand line [] identities place before later are each stand (is, same) =
    subst (λ (w : WatchedState RingState). AreStanding line w.ports) (sym same) stand
identities_stand line (wanted ∷ rest) [] place before later are each stand (is, same) =
    subst (λ (w : WatchedState RingState). AreStanding line w.ports) (sym same) stand
identities_stand line (wanted ∷ rest) (identity ∷ others) place before later are each stand
    (Err other, between, one, (is, same)) =
    absurd (cc)
identities_stand line (wanted ∷ rest) (identity ∷ others) place before later are each stand
    (Ok did, between, one, left) =
    identities_stand line rest others (place + 1) between later are each.2
    (peer_stands line place wanted.station (slice_get wanted.managers 0) (slice_get wanted.managers 1)
    (peer_by wanted.station (slice_get wanted.managers 0) (slice_get wanted.managers 1) 1) identity before
    between are each.0.station refl stand one) left

-- ---- the start

reached : (line : List Wanted) (phase : Phase) (r later : RingState) → ReachesAll r
    → Brings RingTrips r 0 line (steps_of phase) (Ok tt) later → ReachesAll later
reached line phase r later ring brings =
    (within_there _ r later ring
    (brings_within RingTrips r later 0 line (steps_of phase) (Ok tt) brings)).ring

pub mailboxes : (line : List Wanted) (identities : List WantedIdentity) (cable : Located)
    (before later : WatchedState RingState) → ReachesAll before.ports → AreWanted line
    → IsStarted HeardRing before line identities cable later
    → AllByRecursion (HasMailboxes later.ports) line
mailboxes line identities cable before later ring are started =
    let below = started.below.below in
    let given : WatchedState RingState = below.given in
    let in_pre_op : WatchedState RingState = started.below.in_pre_op in
    let recognized : WatchedState RingState = started.recognized in
    let there : ReachesAll given.ports =
    (addressed_there before given line cable ring below.addressed).ring in
    let init : ThenThrough given line Init (PreOp ∷ []) in_pre_op =
    then_through given in_pre_op line Init (PreOp ∷ []) below.brought in
    let pre_op : ThenThrough init.between line PreOp [] in_pre_op =
    then_through init.between in_pre_op line PreOp [] init.left in
    let ready : in_pre_op ≡ pre_op.between =
    through_nothing pre_op.between in_pre_op line pre_op.left in
    let in_init : ReachesAll init.between.ports =
    reached line Init given.ports init.between.ports there init.brings in
    let set : AreStanding line pre_op.between.ports = record {
      ring = reached line PreOp init.between.ports pre_op.between.ports in_init pre_op.brings;
      boxes = boxes_set line init.between.ports pre_op.between.ports in_init are pre_op.brings;
    } in
    let known : AreStanding line recognized.ports =
    identities_stand line line identities 0 in_pre_op recognized are are
    (subst (λ (w : WatchedState RingState). AreStanding line w.ports) (sym ready) set)
    started.below.compared in
    let told = then_through recognized later line Startup (SafeOp ∷ Op ∷ []) started.brought in
    let areas = then_through told.between later line SafeOp (Op ∷ []) told.left in
    let asked = then_through areas.between later line Op [] areas.left in
    let last : later ≡ asked.between = through_nothing asked.between later line asked.left in
    boxes_last line recognized.ports told.between.ports areas.between.ports later.ports known.ring are
    told.brings areas.brings
    (subst (λ (w : WatchedState RingState). Brings RingTrips areas.between.ports 0 line (steps_of Op) (Ok tt)
    w.ports) (sym last) asked.brings) known.boxes
