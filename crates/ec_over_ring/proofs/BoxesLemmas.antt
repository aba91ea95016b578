-- Sync managers 0 and 1 of a line stand behind the phase that sets them, and behind all that a start does
-- then: calls to mailboxes, startup objects, and the phases above Pre-Op.
use Rattle.std.proofs.Common.{◌≡◌, ℕ, zero, suc, ◌+◌, ◌%◌, ◌<◌, Bool, true, false, cond, List, [], ◌∷◌, ◌&&◌}
use Rattle.std.proofs.Common.{Option, None, Some, Result, Ok, Err, refl, sym, ap, ◌∙◌, subst, ⊎_elim}
use Rattle.std.specs.Prelude.{slice_get}
use Rattle.std.specs.List.{AllByRecursion}
use Rattle.std.proofs.lemmas.Bool.{and_parts, cases_Bool}
use Rattle.ec_regs.specs.declared.sync_man.SyncMan.{SyncMan}
use Rattle.ec_regs.specs.SyncMan.{is_active, is_mailbox, master_reads, master_writes}
use Rattle.ec_areas.proofs.Laws.{active_place}
use Rattle.ec_app.specs.Roles.{is_answer_mailbox, is_request_mailbox}
use Rattle.ec_app.specs.State.{SlaveState}
use Rattle.ec_app.specs.declared.mail.Mail.{Mail}
use Rattle.ec_app.specs.declared.sdo.Sdo.{Sdo}
use Rattle.ec_app.specs.declared.sdo.Sdo.TheVariants.{Download, Upload}
use Rattle.ec_app.specs.declared.value.Value.{Value}
use Rattle.ec_ring.specs.Ring.{RingState}
use Rattle.ec_master.specs.RingTrips.{RingTrips}
use Rattle.ec_services.specs.Course.{Runs}
use Rattle.ec_services.specs.Progress.{Known}
use Rattle.ec_services.specs.Surely.{IsSure, asking, begun}
use Rattle.ec_services.specs.Transfer.{downloaded_by, service_of, uploaded_by, uploading}
use Rattle.ec_services.specs.declared.fault.MasterFault.{MasterFault}
use Rattle.ec_services.specs.declared.mailbox.Peer.{Peer}
use Rattle.ec_run.specs.Phase.{AreDone, Brings, steps_of}
use Rattle.ec_run.specs.StartupObjects.{WritesObject, WritesStartup, area_of, peer_by}
use Rattle.ec_run.specs.Step.{IsDone, IsTried, is_answered, startup_number}
use Rattle.ec_run.specs.declared.phase.Phase.TheVariants.{PreOp, Startup as StartupPhase, SafeOp, Op}
use Rattle.ec_run.specs.declared.phase.StepFault.{StepFault}
use Rattle.ec_run.specs.declared.step.Step.{Step}
use Rattle.ec_run.specs.declared.step.Step.TheVariants.{SyncManager, Startup}
use Rattle.ec_run.specs.declared.wanted.StartupObject.{StartupObject}
use Rattle.ec_run.specs.declared.wanted.Wanted.{Wanted}
use Rattle.ec_run.proofs.Laws.{brings_within, done_within, tried_within}
use Rattle.ec_over_ring.specs.Brought.{HasAreas, ReachesAll}
use Rattle.ec_over_ring.specs.Fit.{HasMailboxes}
use Rattle.ec_over_ring.specs.Started.{AreWanted, HoldsSet, IsWanted}
use Rattle.ec_over_ring.proofs.MailedLemmas.{LiesHigh, Outlasts, mailed_set, runs_outlasted, runs_reach}
use Rattle.ec_over_ring.proofs.MailedLemmas.{stays_high}
use Rattle.ec_over_ring.proofs.SparedLemmas.{HasSuch, such_between}
use Rattle.ec_over_ring.proofs.StartedLemmas.{LineStands, Stands, line_stands, line_stays, steps_reach}
use Rattle.ec_over_ring.proofs.SucceedLemmas.{boxes_of, boxes_stay, have_mailboxes, mailbox_records}
use Rattle.ec_over_ring.proofs.SucceedLemmas.{mailboxes_clear, pre_op_clear}
use Rattle.ec_over_ring.proofs.TripKeepsLemmas.{within_keeps}

-- ---- a call leaves each record

set_outlasts : (wanted : Wanted) (x : Step) (to : ℕ) → IsWanted wanted
    → Outlasts (λ (s : SlaveState). HoldsSet wanted s.controller.memory x) wanted.station to
unfolding Outlasts
set_outlasts wanted x to wants s t is mailed held = mailed_set to s t wanted x wants mailed held

call_stands : {A : Type 0} (asked : Sdo) (limit : ℕ) (comes_to : Mail → Result A MasterFault)
    (peer peer_later : Peer) (result : Result A MasterFault) (wanted : Wanted) (x : Step)
    (r later : RingState) → ReachesAll r → IsWanted wanted → HasAreas peer
    → IsSure RingTrips r peer (service_of asked comes_to) limit result peer_later later
    → Stands wanted x r → Stands wanted x later
call_stands asked limit comes_to peer peer_later result wanted x r later ring wants areas sure stands =
    runs_outlasted (λ (s : SlaveState). HoldsSet wanted s.controller.memory x) wanted.station peer.station
    limit asked (begun peer) sure.last r later sure.answer (set_outlasts wanted x peer.station wants)
    (record { named = refl; station = areas.station; to = areas.to; from = areas.from }) ring sure.runs stands

-- whom mails go to by its records has both areas in process memory
peer_with : ℕ → SyncMan → SyncMan → ℕ → Peer
peer_with station a b counter =
    record { station = station; to = area_of a; from = area_of b; counter = counter }

pub peer_high : (station counter : ℕ) (requests answers : Option SyncMan) (peer : Peer) → station < 65536
    → peer_by station requests answers counter ≡ Some peer → HasAreas peer
unfolding peer_with
peer_high station counter None answers peer address is = absurd (cc (is))
peer_high station counter (Some a) None peer address is = absurd (cc (is))
peer_high station counter (Some a) (Some b) peer address is =
    ⊎_elim
    (λ (both : (is_request_mailbox a && is_answer_mailbox b) ≡ true).
    let parts = and_parts (is_request_mailbox a) (is_answer_mailbox b) both in
    let first = and_parts (is_active a && is_mailbox a) (master_writes a) parts.0 in
    let second = and_parts (is_active b && is_mailbox b) (master_reads b) parts.1 in
    let a_active = (and_parts (is_active a) (is_mailbox a) first.0).0 in
    let b_active = (and_parts (is_active b) (is_mailbox b) second.0).0 in
    let found : Some (peer_with station a b counter) ≡ Some peer =
    sym (ap (λ (t : Bool). cond t (Some (peer_with station a b counter)) None) both) ∙ is in
    let same : peer_with station a b counter ≡ peer = cc (found) in
    subst HasAreas same
    (record { station = address; to = (active_place a a_active).0; from = (active_place b b_active).0 }))
    (λ (none : (is_request_mailbox a && is_answer_mailbox b) ≡ false).
    let found : ◌≡◌ {A = Option Peer} None (Some peer) =
    sym (ap (λ (t : Bool). cond t (Some (peer_with station a b counter)) None) none) ∙ is in
    absurd (cc (found)))
    (cases_Bool (is_request_mailbox a && is_answer_mailbox b))

-- ---- a step that keeps what holds of a ring

unfoldable KeepsDone : (RingState → Type 0) → ℕ → Wanted → Step → Type 0
KeepsDone K place wanted y =
    (result : Result (Unit {0}) MasterFault) (r later : RingState) → ReachesAll r
    → IsDone RingTrips r place wanted y result later → K r → K later

tried_so : (K : RingState → Type 0) (more place : ℕ) (wanted : Wanted) (y : Step)
    (result : Result (Unit {0}) MasterFault) (r later : RingState) → ReachesAll r
    → KeepsDone K place wanted y → IsTried RingTrips r place wanted y more result later → K r → K later
unfolding IsTried KeepsDone
tried_so K zero place wanted y result r later ring keeps done so = keeps result r later ring done so
tried_so K (suc more) place wanted y result r later ring keeps (first, between, done, rest) so =
    let reached : ReachesAll between =
    within_keeps _ r between ring (done_within RingTrips r between place wanted y first done) in
    let now : K between = keeps first r between ring done so in
    either (is_answered first) rest now (λ again.
    tried_so K more place wanted y result between later reached keeps again now)
  where
    either : (b : Bool)
        → (elim b as (λ (x : Bool). Type 0) [
          | true ↦ (result ≡ first) × (later ≡ between)
          | false ↦ IsTried RingTrips between place wanted y more result later
        ])
        → K between → (IsTried RingTrips between place wanted y more result later → K later) → K later
    either true (same_result, same) now on = subst K (sym same) now
    either false again now on = on again

done_so : (K : RingState → Type 0) (place : ℕ) (wanted : Wanted) (ys : List Step)
    (result : Result (Unit {0}) StepFault) (r later : RingState) → ReachesAll r
    → AllByRecursion (KeepsDone K place wanted) ys → AreDone RingTrips r place wanted ys result later → K r
    → K later
unfolding AreDone
done_so K place wanted [] result r later ring keep (is, same) so = subst K (sym same) so
done_so K place wanted (y ∷ ys) result r later ring keep (Err fault, between, tried, (is, same)) so =
    subst K (sym same) (tried_so K 19 place wanted y (Err fault) r between ring keep.0 tried so)
done_so K place wanted (y ∷ ys) result r later ring keep (Ok did, between, tried, left) so =
    done_so K place wanted ys result between later
    (within_keeps _ r between ring (tried_within RingTrips 19 r between place wanted y (Ok did) tried))
    keep.1 left (tried_so K 19 place wanted y (Ok did) r between ring keep.0 tried so)

brings_so : (K : RingState → Type 0) (place : ℕ) (line : List Wanted) (ys : List Step)
    (result : Result (Unit {0}) StepFault) (r later : RingState) → ReachesAll r
    → AllByRecursion (λ (wanted : Wanted). (p : ℕ) → AllByRecursion (KeepsDone K p wanted) ys) line
    → Brings RingTrips r place line ys result later → K r → K later
unfolding Brings
brings_so K place [] ys result r later ring keep (is, same) so = subst K (sym same) so
brings_so K place (wanted ∷ rest) ys result r later ring keep (Err fault, between, done, (is, same)) so =
    subst K (sym same) (done_so K place wanted ys (Err fault) r between ring (keep.0 place) done so)
brings_so K place (wanted ∷ rest) ys result r later ring keep (Ok did, between, done, left) so =
    brings_so K (place + 1) rest ys result between later
    (steps_reach place wanted ys (Ok did) r between ring done) keep.1 left
    (done_so K place wanted ys (Ok did) r between ring (keep.0 place) done so)

-- ---- startup objects leave each record

object_stands : (wanted : Wanted) (x : Step) (station counter : ℕ) (requests answers : Option SyncMan)
    (to : Option Peer) (o : StartupObject) (result : Result (Unit {0}) MasterFault) (r later : RingState)
    → ReachesAll r → IsWanted wanted → station < 65536 → peer_by station requests answers counter ≡ to
    → WritesObject RingTrips r to o result later → Stands wanted x r → Stands wanted x later
object_stands wanted x station counter requests answers None o result r later ring wants address is
    (none, same) stands =
    subst (λ (y : RingState). Stands wanted x y) (sym same) stands
object_stands wanted x station counter requests answers (Some peer) o result r later ring wants address is
    (peer_later, sure) stands =
    call_stands (Download o.index o.sub o.value) 64 downloaded_by peer peer_later result wanted x r later ring
    wants (peer_high station counter requests answers peer address is) sure stands

startup_stands : (wanted : Wanted) (x : Step) (station counter : ℕ) (requests answers : Option SyncMan)
    (at : Option (Option StartupObject)) (result : Result (Unit {0}) MasterFault) (r later : RingState)
    → ReachesAll r → IsWanted wanted → station < 65536
    → WritesStartup RingTrips r (peer_by station requests answers counter) at result later
    → Stands wanted x r → Stands wanted x later
startup_stands wanted x station counter requests answers None result r later ring wants address writes
    stands =
    absurd writes
startup_stands wanted x station counter requests answers (Some None) result r later ring wants address
    (is, same) stands =
    subst (λ (y : RingState). Stands wanted x y) (sym same) stands
startup_stands wanted x station counter requests answers (Some (Some o)) result r later ring wants address
    writes stands =
    object_stands wanted x station counter requests answers (peer_by station requests answers counter) o
    result r later ring wants address refl writes stands

one_startup : (wanted : Wanted) (x : Step) (place : ℕ) (who : Wanted) (n : ℕ) → IsWanted wanted
    → IsWanted who → KeepsDone (Stands wanted x) place who (Startup n)
unfolding KeepsDone
one_startup wanted x place who n wants is result r later ring done stands =
    startup_stands wanted x who.station (startup_number n % 7 + 1) (slice_get who.managers 0)
    (slice_get who.managers 1) (slice_get who.startup (startup_number n)) result r later ring wants is.station
    done stands

all_startup : (wanted : Wanted) (x : Step) (place : ℕ) (who : Wanted) → IsWanted wanted → IsWanted who
    → AllByRecursion (KeepsDone (Stands wanted x) place who) (steps_of StartupPhase)
all_startup wanted x place who wants is =
    let one : (n : ℕ) → KeepsDone (Stands wanted x) place who (Startup n) =
    λ n. one_startup wanted x place who n wants is in (
      one 0,
      (
        one 1,
        (
          one 2,
          (
            one 3,
            (
              one 4,
              (
                one 5,
                (
                  one 6,
                  (
                    one 7,
                    (
                      one 8,
                      (
                        one 9,
                        (
                          one 10,
                          (
                            one 11,
                            (
                              one 12,
                              (one 13, (one 14, (one 15, tt))),
                            ),
                          ),
                        ),
                      ),
                    ),
                  ),
                ),
              ),
            ),
          ),
        ),
      ),
    )

line_startup : (wanted : Wanted) (x : Step) (line : List Wanted) → IsWanted wanted → AreWanted line
    → AllByRecursion (λ (who : Wanted). (p : ℕ)
    → AllByRecursion (KeepsDone (Stands wanted x) p who) (steps_of StartupPhase)) line
line_startup wanted x [] wants are = tt
line_startup wanted x (who ∷ rest) wants are =
    ((λ p. all_startup wanted x p who wants are.0), line_startup wanted x rest wants are.2)

objects_stay : (some line : List Wanted) (result : Result (Unit {0}) StepFault) (r later : RingState)
    → ReachesAll r → AreWanted line → AreWanted some
    → Brings RingTrips r 0 line (steps_of StartupPhase) result later → LineStands mailbox_records some r
    → LineStands mailbox_records some later
unfolding mailbox_records
objects_stay [] line result r later ring are wants brings stand = tt
objects_stay (wanted ∷ rest) line result r later ring are wants brings stand = (
  (
    brings_so (Stands wanted (SyncManager 0)) 0 line (steps_of StartupPhase) result r later ring
        (line_startup wanted (SyncManager 0) line wants.0 are) brings stand.0.0,
    (
      brings_so (Stands wanted (SyncManager 1)) 0 line (steps_of StartupPhase) result r later ring
          (line_startup wanted (SyncManager 1) line wants.0 are) brings stand.0.1.0,
      tt,
    ),
  ),
  objects_stay rest line result r later ring are wants.2 brings stand.1,
)

-- ---- both mailboxes of a line

-- as records that stand
boxes_stand : (line : List Wanted) (r : RingState) → AllByRecursion (HasMailboxes r) line
    → LineStands mailbox_records line r
unfolding mailbox_records
boxes_stand [] r has = tt
boxes_stand (wanted ∷ rest) r has =
    let one : HasMailboxes r wanted = has.0 in
    let stands : (x : Step) → HoldsSet wanted one.slave.controller.memory x → Stands wanted x r =
    λ x held.
    subst (λ (ss : List SlaveState).
    HasSuch (λ (s : SlaveState). HoldsSet wanted s.controller.memory x) wanted.station ss)
    (sym one.has.slaves)
    (such_between (λ (s : SlaveState). HoldsSet wanted s.controller.memory x) wanted.station one.before
    one.slave one.behind one.has.others_before one.has.station_is held one.has.others_behind) in (
      (stands (SyncManager 0) one.requests, (stands (SyncManager 1) one.answers, tt)),
      boxes_stand rest r has.1,
    )

reached_later : (line : List Wanted) (ys : List Step) (result : Result (Unit {0}) StepFault)
    (r later : RingState) → ReachesAll r → Brings RingTrips r 0 line ys result later → ReachesAll later
reached_later line ys result r later ring brings =
    within_keeps _ r later ring (brings_within RingTrips r later 0 line ys result brings)

read_stand : (peer peer_later : Peer) (index sub limit : ℕ) (result : Result Value MasterFault)
    (some : List Wanted) (r later : RingState) → ReachesAll r → AreWanted some → HasAreas peer
    → IsSure RingTrips r peer (uploading index sub) limit result peer_later later
    → LineStands mailbox_records some r → LineStands mailbox_records some later
unfolding mailbox_records
read_stand peer peer_later index sub limit result [] r later ring wants areas sure stand = tt
read_stand peer peer_later index sub limit result (wanted ∷ rest) r later ring wants areas sure stand = (
  (
    call_stands (Upload index sub) limit uploaded_by peer peer_later result wanted (SyncManager 0) r later
        ring wants.0 areas sure stand.0.0,
    (
      call_stands (Upload index sub) limit uploaded_by peer peer_later result wanted (SyncManager 1) r later
          ring wants.0 areas sure stand.0.1.0,
      tt,
    ),
  ),
  read_stand peer peer_later index sub limit result rest r later ring wants.2 areas sure stand.1,
)

-- they stand behind the phase that sets them, since each was read back
pub boxes_set : (line : List Wanted) (r later : RingState) → ReachesAll r → AreWanted line
    → Brings RingTrips r 0 line (steps_of PreOp) (Ok tt) later → AllByRecursion (HasMailboxes later) line
boxes_set line r later ring are brings =
    have_mailboxes line later (reached_later line (steps_of PreOp) (Ok tt) r later ring brings) are
    (boxes_of line later (line_stands 0 (steps_of PreOp) line r later ring are pre_op_clear brings))

-- the areas of a peer stay where they are while its mails are counted
runs_high : (to n : ℕ) (asked : Sdo) (p last : Known) (r later : RingState) (result : Result Mail MasterFault)
    → LiesHigh to p → Runs RingTrips r (asking asked) p n result last later → LiesHigh to last
unfolding Runs
runs_high to zero asked p last r later result high (result_is, last_is, later_is) =
    subst (LiesHigh to) (sym last_is) high
runs_high to (suc n) asked p last r later result high (Err fault, learned, between, step, left) =
    subst (LiesHigh to) (sym (left.1 ∙ step.learns)) (stays_high to p step.answer high)
runs_high to (suc n) asked p last r later result high (Ok (Some mail), learned, between, step, left) =
    subst (LiesHigh to) (sym (left.1 ∙ step.learns)) (stays_high to p step.answer high)
runs_high to (suc n) asked p last r later result high (Ok None, learned, between, step, left) =
    runs_high to n asked learned last between later result
    (subst (LiesHigh to) (sym step.learns) (stays_high to p step.answer high)) left

-- behind an object that is read surely, of whatever slave, the next one can be read, and they stand
pub record AreRead (line : List Wanted) (peer_later : Peer) (later : RingState) : Type 0 where
  pub ring : ReachesAll later
  pub areas : HasAreas peer_later
  pub boxes : AllByRecursion (HasMailboxes later) line

pub boxes_read : (peer peer_later : Peer) (index sub limit : ℕ) (result : Result Value MasterFault)
    (line : List Wanted) (r later : RingState) → ReachesAll r → AreWanted line → HasAreas peer
    → IsSure RingTrips r peer (uploading index sub) limit result peer_later later
    → AllByRecursion (HasMailboxes r) line → AreRead line peer_later later
boxes_read peer peer_later index sub limit result line r later ring are areas sure has =
    let reached : ReachesAll later =
    runs_reach limit (Upload index sub) (begun peer) sure.last r later sure.answer ring sure.runs in
    let high : LiesHigh peer.station sure.last =
    runs_high peer.station limit (Upload index sub) (begun peer) sure.last r later sure.answer
    (record { named = refl; station = areas.station; to = areas.to; from = areas.from }) sure.runs in
    record {
      ring = reached;
      areas = subst HasAreas (sym sure.peer_is)
          (record { station = high.station; to = high.to; from = high.from });
      boxes = have_mailboxes line later reached are
          (read_stand peer peer_later index sub limit result line r later ring are areas sure
          (boxes_stand line r has));
    }

-- and behind the phases above Pre-Op
pub boxes_last : (line : List Wanted) (r told in_safe_op later : RingState) → ReachesAll r → AreWanted line
    → Brings RingTrips r 0 line (steps_of StartupPhase) (Ok tt) told
    → Brings RingTrips told 0 line (steps_of SafeOp) (Ok tt) in_safe_op
    → Brings RingTrips in_safe_op 0 line (steps_of Op) (Ok tt) later
    → AllByRecursion (HasMailboxes r) line → AllByRecursion (HasMailboxes later) line
boxes_last line r told in_safe_op later ring are writes sets asks has =
    let first : ReachesAll told = reached_later line (steps_of StartupPhase) (Ok tt) r told ring writes in
    let second : ReachesAll in_safe_op =
    reached_later line (steps_of SafeOp) (Ok tt) told in_safe_op first sets in
    let third : ReachesAll later = reached_later line (steps_of Op) (Ok tt) in_safe_op later second asks in
    have_mailboxes line later third are
    (line_stays mailbox_records line line in_safe_op later second are mailboxes_clear are asks
    (boxes_stay line line (Ok tt) told in_safe_op first are are sets
    (objects_stay line line (Ok tt) r told ring are are writes (boxes_stand line r has))))
