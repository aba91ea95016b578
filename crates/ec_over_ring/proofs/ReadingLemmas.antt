-- Objects that may only be read are read over a ring as they were found, whatever mails stand in the
-- mailboxes; and each slave stays as the next phase needs it.
use Rattle.std.proofs.Common.{◌≡◌, ℕ, ◌≤◌, Bool, cond, List, ◌∷◌, length, Option, None, Some}
use Rattle.std.proofs.Common.{[], Result, Ok, refl, sym, ap, ◌∙◌, arith, subst}
use Rattle.std.specs.Prelude.{slice_get}
use Rattle.std.specs.List.{AllByRecursion}
use Rattle.std.proofs.lemmas.Bool.{and_from}
use Rattle.ec_regs.specs.declared.al.AlState.TheVariants as state
use Rattle.ec_regs.specs.declared.al.AlStatus.{AlStatus}
use Rattle.ec_regs.specs.declared.sync_man.SyncMan.{SyncMan}
use Rattle.ec_areas.specs.Records.{sync_manager_at}
use Rattle.ec_app.specs.MailStep.{has_mail}
use Rattle.ec_app.specs.State.{SlaveState}
use Rattle.ec_app.specs.declared.sdo.Sdo.TheVariants.{Upload}
use Rattle.ec_app.specs.declared.value.Rights.TheVariants.{ReadOnly}
use Rattle.ec_app.specs.declared.value.Value.{Value}
use Rattle.ec_ring.specs.Ring.{RingState}
use Rattle.ec_master.specs.RingTrips.{RingTrips}
use Rattle.ec_services.specs.Mailbox.{IsPeer}
use Rattle.ec_services.specs.Surely.{IsSure, begun}
use Rattle.ec_services.specs.Transfer.{uploaded_by, uploading}
use Rattle.ec_services.specs.declared.fault.MasterFault.{MasterFault}
use Rattle.ec_services.specs.declared.mailbox.Peer.{Peer}
use Rattle.ec_run.specs.StartupObjects.{peer_by}
use Rattle.ec_run.specs.declared.wanted.Wanted.{Wanted}
use Rattle.ec_over_ring.specs.Brought.{ReachesAll}
use Rattle.ec_over_ring.specs.Fit.{ArePaired, IsFitFor, IsFree}
use Rattle.ec_over_ring.specs.Recovery.{HasSlave, IsOfPeer, TakesMail, slave_at}
use Rattle.ec_over_ring.specs.Started.{HoldsManager, IsWanted}
use Rattle.ec_over_ring.specs.States.{HasStation, IsElsewhere}
use Rattle.ec_over_ring.specs.Transfers.{IsRequest, IsSlave}
use Rattle.ec_over_ring.proofs.BroughtLemmas.{has_one}
use Rattle.ec_over_ring.proofs.CalmRingLemmas.{IsStillOfPeer, ring_answers_upload, still_of_peer}
use Rattle.ec_over_ring.proofs.FixedLemmas.{HoldsFixed}
use Rattle.ec_over_ring.proofs.LineBroughtLemmas.{IsThere}
use Rattle.ec_over_ring.proofs.MailedLemmas.{LiesHigh, Outlasts, mailed_there, runs_outlasted}
use Rattle.ec_over_ring.proofs.MailedLemmas.{runs_reach}
use Rattle.ec_over_ring.proofs.ObjectLemmas.{readable}
use Rattle.ec_over_ring.proofs.RequestLemmas.{fits_at}
use Rattle.ec_over_ring.proofs.SetsLemmas.{Fits}
use Rattle.ec_over_ring.proofs.SparedLemmas.{HasSuch, IsSuch, such_as, such_between, such_both, such_one}
use Rattle.ec_over_ring.proofs.StagesLemmas.{InPreOp}
use Rattle.ec_over_ring.proofs.StationLemmas.{station_of}
use Rattle.ec_over_ring.proofs.SucceedLemmas.{boxes_still, now_ready, still_so_far}
use Rattle.ec_over_ring.proofs.TakingLemmas.{AreReady, AreWilling, Endures, HasReady, IsBox, IsReady}
use Rattle.ec_over_ring.proofs.TakingLemmas.{IsWilling, answer_box, endures_outlasts, of_peer, peer_with}
use Rattle.ec_over_ring.proofs.TakingLemmas.{ready_outlasts, request_box, still_ready, such_at}
use Rattle.ec_over_ring.proofs.TransferLemmas.{one_of}

-- ---- whose objects are read

-- one slave of a ring alone has this station address, is the peer's of that address, and is in Pre-Op
pub record IsServed (station : ℕ) (peer : Peer) (r : RingState) : Type 0 where
  pub ring : ReachesAll r
  pub peer_is : IsPeer peer
  pub named : peer.station ≡ station
  pub before : List SlaveState
  pub slave : SlaveState
  pub behind : List SlaveState
  pub has : HasSlave peer r before slave behind
  pub there : IsThere state.PreOp slave

-- both areas of its wanted mailboxes are free of process data
abbrev pub AreFree : Wanted → SlaveState → Type 0
AreFree wanted s =
    IsFree s.controller.memory (slice_get wanted.managers 0)
    × IsFree s.controller.memory (slice_get wanted.managers 1)

-- a slave that is ready behind Pre-Op is the peer's of its mailboxes
ready_served : (station counter : ℕ) (requests answers : Option SyncMan) (peer : Peer) (r : RingState)
    (before : List SlaveState) (s : SlaveState) (behind : List SlaveState) → ReachesAll r → 1 ≤ counter
    → counter ≤ 7 → HasStation station r before s behind → IsThere state.PreOp s → Fits requests
    → Fits answers → ArePaired requests answers → HoldsManager s.controller.memory 0 requests
    → HoldsManager s.controller.memory 1 answers → IsFree s.controller.memory requests
    → IsFree s.controller.memory answers → peer_by station requests answers counter ≡ Some peer
    → IsServed station peer r
ready_served station counter None answers peer r before s behind ring least most has there fit fits paired
    held holds free frees is =
    absurd paired
ready_served station counter (Some a) None peer r before s behind ring least most has there fit fits paired
    held holds free frees is =
    absurd paired
ready_served station counter (Some a) (Some b) peer r before s behind ring least most has there fit fits
    paired held holds free frees is =
    let own : Peer = peer_with station a b counter in
    let found : Some own ≡ Some peer =
    sym (ap (λ (t : Bool). cond t (Some own) None) (and_from _ _ paired.0 paired.1)) ∙ is in
    let same : own ≡ peer = cc (found) in
    let a_box : IsBox a = request_box a paired.0 in
    let b_box : IsBox b = answer_box b paired.1 in
    let slave : IsSlave s =
    one_of before s behind (subst (λ (ss : List SlaveState). AllByRecursion IsSlave ss) has.slaves
    ring.slaves.each) in
    subst (λ (p : Peer). IsServed station p r) same
    (record {
      ring = ring;
      named = refl;
      peer_is = record {
        to = (a_box.least, a_box.most);
        from = (b_box.least, b_box.most);
        least = least;
        most = most;
      };
      before = before;
      slave = s;
      behind = behind;
      has = record {
        slaves = has.slaves;
        all = ring.slaves.each;
        others_before = has.others_before;
        others_behind = has.others_behind;
        own = of_peer station counter a b s slave has.address there.unasked a_box b_box fit fits paired held
            holds free frees has.station_is;
      };
      there = there;
    })

pub first_served : (wanted : Wanted) (counter : ℕ) (peer : Peer) (r : RingState) → ReachesAll r
    → IsWanted wanted → 1 ≤ counter → counter ≤ 7 → HasReady wanted r
    → ArePaired (slice_get wanted.managers 0) (slice_get wanted.managers 1)
    → HasSuch (AreFree wanted) wanted.station r.slaves
    → peer_by wanted.station (slice_get wanted.managers 0) (slice_get wanted.managers 1) counter ≡ Some peer
    → IsServed wanted.station peer r
first_served wanted counter peer r ring wants least most has paired free is =
    let P : SlaveState → Type 0 = λ s. IsReady wanted s × AreFree wanted s in
    let such : IsSuch P wanted.station r.slaves =
    such_one P wanted.station r.slaves
    (such_both (IsReady wanted) (AreFree wanted) wanted.station r.slaves has free) in
    let ready : IsReady wanted such.one.slave = such.such.0 in
    let fits : IsFitFor wanted such.one.slave = ready.stage.fits in
    ready_served wanted.station counter (slice_get wanted.managers 0) (slice_get wanted.managers 1) peer r
    such.one.before such.one.slave such.one.behind ring least most
    (has_one wanted.station r ring wants.station such.one) ready.stage.is
    (fits_at 0 wanted.managers fits.records.managers) (fits_at 1 wanted.managers fits.records.managers) paired
    ready.requests ready.answers such.such.1.0 such.such.1.1 is

-- ---- what a read leaves

-- both areas of a peer that a slave has lie in process memory
lies_high : (peer : Peer) (s : SlaveState) → IsOfPeer peer s → LiesHigh peer.station (begun peer)
lies_high peer s is =
    let m : List ℕ = s.controller.memory in
    let a_box : IsBox (sync_manager_at m 0) = request_box (sync_manager_at m 0) is.requests in
    let b_box : IsBox (sync_manager_at m 1) = answer_box (sync_manager_at m 1) is.answers in
    record {
      named = refl;
      station = is.address;
      to = subst (λ (n : ℕ). 4096 ≤ n) is.to.start a_box.low;
      from = subst (λ (n : ℕ). 4096 ≤ n) is.from.start b_box.low;
    }

abbrev IsUpload : Peer → Peer → ℕ → ℕ → Result Value MasterFault → RingState → RingState → Type 0
IsUpload peer peer_later i j found r later =
    IsSure RingTrips r peer (uploading i j) 64 found peer_later later

read_outlasts : (P : SlaveState → Type 0) (other station : ℕ) (peer peer_later : Peer) (i j : ℕ)
    (found : Result Value MasterFault) (r later : RingState) → IsServed station peer r
    → Outlasts P other peer.station → IsUpload peer peer_later i j found r later
    → HasSuch P other r.slaves → HasSuch P other later.slaves
read_outlasts P other station peer peer_later i j found r later served lasts sure has =
    runs_outlasted P other peer.station 64 (Upload i j) (begun peer) sure.last r later sure.answer lasts
    (lies_high peer served.slave served.has.own) served.ring sure.runs has

-- whatever endures the phases up to Pre-Op endures it
pub read_keeps : (P : SlaveState → Type 0) (other station : ℕ) (peer peer_later : Peer) (i j : ℕ)
    (found : Result Value MasterFault) (r later : RingState) → IsServed station peer r → Endures P
    → IsUpload peer peer_later i j found r later → HasSuch P other r.slaves → HasSuch P other later.slaves
read_keeps P other station peer peer_later i j found r later served endures sure has =
    read_outlasts P other station peer peer_later i j found r later served
    (endures_outlasts P other peer.station endures) sure has

willing_ready : (line : List Wanted) (r : RingState) → AreReady line r → AreWilling line r
willing_ready [] r ready = tt
willing_ready (wanted ∷ rest) r ready = (
  such_as (IsReady wanted) (IsWilling wanted) wanted.station r.slaves (λ s so. so.stores) ready.0,
  willing_ready rest r ready.1,
)

-- a ring that is ready for its startup objects
pub record IsReadyFor (line : List Wanted) (r : RingState) : Type 0 where
  pub stage : InPreOp line r
  pub willing : AreWilling line r

pub ready_line : (line : List Wanted) (r : RingState) → IsReadyFor line r → AreReady line r
ready_line line r is = now_ready line r is.stage.so_far is.stage.boxes is.willing

-- is so behind a read
pub read_leaves : (line : List Wanted) (station : ℕ) (peer peer_later : Peer) (i j : ℕ)
    (found : Result Value MasterFault) (r later : RingState) → IsServed station peer r
    → IsUpload peer peer_later i j found r later → IsReadyFor line r → IsReadyFor line later
read_leaves line station peer peer_later i j found r later served sure is =
    let still : AreReady line later =
    still_ready line r later
    (λ wanted so.
    read_outlasts (IsReady wanted) wanted.station station peer peer_later i j found r later served
    (ready_outlasts wanted peer.station) sure so)
    (ready_line line r is) in
    record {
      stage = record {
        ring = runs_reach 64 (Upload i j) (begun peer) sure.last r later sure.answer served.ring sure.runs;
        so_far = still_so_far line later still;
        boxes = boxes_still line later still;
      };
      willing = willing_ready line later still;
    }

-- ---- what it comes to

there_outlasts : (station to : ℕ) → Outlasts (IsThere state.PreOp) station to
unfolding Outlasts
there_outlasts station to s t is mailed so = mailed_there state.PreOp to s t mailed so

fixed_endures : (i j : ℕ) (v : Value) → Endures (HoldsFixed i j v)
unfolding Endures
fixed_endures i j v s t left at = left.fixed i j v at

served_there : (station : ℕ) (peer : Peer) (r : RingState) → IsServed station peer r
    → HasSuch (IsThere state.PreOp) station r.slaves
served_there station peer r served =
    let P : SlaveState → Type 0 = IsThere state.PreOp in
    subst (λ (n : ℕ). HasSuch P n r.slaves) served.named
    (subst (λ (ss : List SlaveState). HasSuch P peer.station ss) (sym served.has.slaves)
    (such_between P peer.station served.before served.slave served.behind served.has.others_before
    served.has.own.station served.there served.has.others_behind))

-- the object was read as it was, and the next one can be read
pub record IsRead (station : ℕ) (v : Value) (found : Result Value MasterFault) (peer_later : Peer)
    (later : RingState) : Type 0 where
  pub came : found ≡ Ok v
  pub served : IsServed station peer_later later

pub fixed_read : (station : ℕ) (peer peer_later : Peer) (i j : ℕ) (v : Value)
    (found : Result Value MasterFault) (r later : RingState) → IsServed station peer r
    → IsRequest (Upload i j) → HasSuch (HoldsFixed i j v) station r.slaves
    → IsUpload peer peer_later i j found r later → IsRead station v found peer_later later
fixed_read station peer peer_later i j v found r later served fits holds sure =
    let s : SlaveState = served.slave in
    let takes : TakesMail s = ap (λ (x : AlStatus). has_mail x.state) served.there.status in
    let still : IsStillOfPeer peer peer_later (length served.before) s later =
    still_of_peer peer peer_later (Upload i j) 64 uploaded_by r served.before served.behind s found later
    served.peer_is served.has served.ring.down fits sure in
    let x : SlaveState = slave_at (length served.before) s later in
    let named : peer_later.station ≡ station = still.station ∙ served.named in
    let own : station_of x ≡ station = still.has.own.station ∙ named in
    let others = subst (λ (n : ℕ). AllByRecursion (IsElsewhere n) still.before) named
    still.has.others_before in
    let at : HoldsFixed i j v x =
    such_at (HoldsFixed i j v) station later.slaves still.before x still.behind still.has.slaves own others
    (read_keeps (HoldsFixed i j v) station station peer peer_later i j found r later served
    (fixed_endures i j v) sure holds) in
    record {
      came = ring_answers_upload peer peer_later i j 64 r served.before served.behind s found later
          served.peer_is served.has served.ring.down takes fits (omega arith) sure
          ∙ readable i j x.application.objects ReadOnly v at refl;
      served = record {
        ring = runs_reach 64 (Upload i j) (begun peer) sure.last r later sure.answer served.ring sure.runs;
        peer_is = still.peer_is;
        named = named;
        before = still.before;
        slave = x;
        behind = still.behind;
        has = still.has;
        there = such_at (IsThere state.PreOp) station later.slaves still.before x still.behind
            still.has.slaves own others
            (read_outlasts (IsThere state.PreOp) station station peer peer_later i j found r later served
            (there_outlasts station peer.station) sure (served_there station peer r served));
      };
    }
