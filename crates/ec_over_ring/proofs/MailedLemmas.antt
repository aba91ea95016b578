-- The trips of a call write no register: what they leave of each slave of a ring, whoever is asked and
-- whatever mails are in its mailboxes.
use Rattle.std.proofs.Common.{◌≡◌, ℕ, zero, suc, ◌+◌, ◌*◌, ◌<◌, ◌≤◌, false, List, [], ◌∷◌}
use Rattle.std.proofs.Common.{get_or, Option, None, Some, Result, Ok, Err, refl, sym, ◌∙◌, arith, subst, inl}
use Rattle.std.proofs.Common.{ap, inr, length, ⊎_elim}
use Rattle.std.specs.Prelude.{◌≢◌, slice_get}
use Rattle.std.specs.List.{AllByRecursion}
use Rattle.std.proofs.lemmas.Bool.{cases_lt}
use Rattle.ec_regs.specs.Al.{status_of}
use Rattle.ec_regs.specs.Fmmu.{fmmu_bytes}
use Rattle.ec_regs.specs.SyncMan.{status_address}
use Rattle.ec_regs.specs.declared.al.AlState.{AlState}
use Rattle.ec_regs.specs.declared.al.AlState.TheVariants.{Op}
use Rattle.ec_regs.specs.declared.fmmu.Fmmu.{Fmmu}
use Rattle.ec_regs.specs.declared.sync_man.SyncMan.{SyncMan}
use Rattle.ec_wire.specs.Command.{addressing}
use Rattle.ec_wire.specs.Datagram.{DatagramRecord, ado_of, adp_of}
use Rattle.ec_wire.specs.declared.command.Addressing.TheVariants.{ConfiguredStation}
use Rattle.ec_app.specs.Left.{IsBeside, IsLeft}
use Rattle.ec_app.specs.State.{SlaveState}
use Rattle.ec_app.specs.declared.mail.Mail.{Mail}
use Rattle.ec_app.specs.declared.sdo.Sdo.{Sdo}
use Rattle.ec_app.specs.declared.sdo.Sdo.TheVariants.{Download, Upload}
use Rattle.ec_app.specs.declared.value.Value.{Value}
use Rattle.ec_ring.specs.Ring.{RingState}
use Rattle.ec_ring.specs.declared.port.PortFault.{PortFault}
use Rattle.ec_ring.specs.declared.weather.Came.{Came}
use Rattle.ec_master.specs.RingTrips.{RingTrips}
use Rattle.ec_services.specs.Ask.{Answer}
use Rattle.ec_services.specs.Course.{IsStep, Runs}
use Rattle.ec_services.specs.Progress.{Known, any_known}
use Rattle.ec_services.specs.Surely.{IsSure, asking, begun, next_known, next_sent}
use Rattle.ec_services.specs.Transfer.{downloaded_by, uploaded_by, uploading, downloading, service_of}
use Rattle.ec_services.specs.declared.fault.MasterFault.{MasterFault}
use Rattle.ec_services.specs.declared.mailbox.Peer.{Peer}
use Rattle.ec_run.specs.Phase.{steps_of}
use Rattle.ec_run.specs.Step.{fmmu_number, manager_number}
use Rattle.ec_run.specs.declared.phase.Phase.TheVariants.{SafeOp}
use Rattle.ec_run.specs.declared.step.Step.{Step}
use Rattle.ec_run.specs.declared.step.Step.TheVariants.{Station, StationBehind, StationBefore, Startup}
use Rattle.ec_run.specs.declared.step.Step.TheVariants.{SyncManager, Fmmu as FmmuRecord, State}
use Rattle.ec_run.specs.declared.wanted.Wanted.{Wanted}
use Rattle.ec_over_ring.specs.Brought.{HasAreas, ReachesAll}
use Rattle.ec_over_ring.specs.Recovery.{request_stands}
use Rattle.ec_over_ring.specs.Started.{HoldsFmmu, HoldsManager, HoldsSet, IsSetUp, IsWanted}
use Rattle.ec_over_ring.proofs.BroughtLemmas.{has_one}
use Rattle.ec_over_ring.proofs.FixedLemmas.{HoldsFixed}
use Rattle.ec_over_ring.proofs.LineBroughtLemmas.{IsThere}
use Rattle.ec_over_ring.proofs.NeedsLemmas.{needs}
use Rattle.ec_over_ring.proofs.QuietLemmas.{IsQuiet}
use Rattle.ec_over_ring.proofs.SettingLemmas.{area_registers, fmmu_registers, got, small_number}
use Rattle.ec_over_ring.proofs.SettingLemmas.{switch_registers}
use Rattle.ec_over_ring.proofs.RecordsLemmas.{AreRegisters}
use Rattle.ec_over_ring.proofs.StartedLemmas.{HasAll}
use Rattle.ec_over_ring.proofs.ShapeLemmas.{shape_of}
use Rattle.ec_over_ring.proofs.SparedLemmas.{HasSuch, IsFollowed, IsSpared, ReachesFew}
use Rattle.ec_over_ring.proofs.SparedLemmas.{IsSuch, few_followed, such_between, such_followed, such_one}
use Rattle.ec_over_ring.proofs.StationLemmas.{adp_is, ado_is, station_of}
use Rattle.ec_over_ring.proofs.TripKeepsLemmas.{trip_keeps}

-- ---- a trip that writes no register

-- what one to a station leaves of each slave, which then took a step
pub record IsMailed (to : ℕ) (s t : SlaveState) : Type 0 where
  pub station : station_of t ≡ station_of s
  pub bytes : (a : ℕ) → IsLeft a → ((i : ℕ) → a ≢ status_address i)
      → get_or t.controller.memory a 0 ≡ get_or s.controller.memory a 0
  pub needs_are : needs t ≡ needs s
  pub shapes : (i j : ℕ) → shape_of i j t.application.objects ≡ shape_of i j s.application.objects
  pub fixed : (i j : ℕ) (v : Value) → HoldsFixed i j v s → HoldsFixed i j v t
  pub unasked : t.controller.written ≡ false
  pub status : s.controller.written ≡ false
      → get_or t.controller.memory 304 0 ≡ get_or s.controller.memory 304 0
  pub quiet : to ≢ station_of s → request_stands s ≡ false → IsQuiet s t

-- what holds of the slave with a station outlasts it
unfoldable pub Outlasts : (SlaveState → Type 0) → ℕ → ℕ → Type 0
Outlasts P station to = (s t : SlaveState) → station_of s ≡ station → IsMailed to s t → P s → P t

-- a datagram by station whose range is beside all registers, or that does not write
pub record WritesNone (to : ℕ) (d : DatagramRecord) : Type 0 where
  pub by_station : addressing d.command ≡ ConfiguredStation
  pub named : adp_of d.address ≡ to
  pub n : ℕ
  pub few : ReachesFew d n
  pub beside : (a : ℕ) → a < 4096 → IsBeside (ado_of d.address) n a
  pub above : 310 ≤ ado_of d.address

spares_all : (to : ℕ) (d : DatagramRecord) (none : WritesNone to d) (a : ℕ) → a < 4096
    → ((i : ℕ) → a ≢ status_address i) → IsSpared (ado_of d.address) none.n a
spares_all to d none a low no_status =
    record { register = low; beside = none.beside a low; no_status = no_status }

is_mailed : (to : ℕ) (d : DatagramRecord) (none : WritesNone to d) (s t : SlaveState)
    → IsFollowed d.address none.n s t → IsMailed to s t
is_mailed to d none s t follow = record {
  station = follow.station;
  bytes = λ a left no_status. follow.bytes a left (inr (spares_all to d none a left.register no_status));
  needs_are = follow.needs_are;
  shapes = follow.shapes;
  fixed = follow.fixed;
  unasked = follow.unasked;
  status = λ idle. follow.status idle (inr none.above);
  quiet = λ other. follow.quiet (inl (λ same. other (sym none.named ∙ same)));
}

trip_outlasted : (P : SlaveState → Type 0) (station to : ℕ) (d : DatagramRecord) (r later : RingState)
    (came : Result Came PortFault) → Outlasts P station to → ReachesAll r → WritesNone to d
    → RingTrips r (d ∷ []) came later → HasSuch P station r.slaves → HasSuch P station later.slaves
unfolding Outlasts
trip_outlasted P station to d r later came lasts ring none made has =
    such_followed P d.address none.n station r.slaves later.slaves
    (λ s t is follow such. lasts s t is (is_mailed to d none s t follow) such)
    (few_followed r later d none.n came ring none.by_station none.few
    (record {
      low = spares_all to d none 16 (omega arith) (λ i is. absurd (omega (arith, is)));
      high = spares_all to d none 17 (omega arith) (λ i is. absurd (omega (arith, is)));
    }) made) has

-- ---- the trips of a call

-- both areas of a peer lie in process memory
pub record LiesHigh (to_station : ℕ) (p : Known) : Type 0 where
  pub named : p.peer.station ≡ to_station
  pub station : p.peer.station < 65536
  pub to : 4096 ≤ p.peer.to.start
  pub from : 4096 ≤ p.peer.from.start

abbrev SendsNone : ℕ → Sdo → Known → Type 0
SendsNone to asked p = LiesHigh to p → WritesNone to (next_sent asked p)

either_side : (from a : ℕ) → IsBeside from 0 a
either_side from a =
    ⊎_elim (λ (before : a < from). inl before) (λ (behind : from ≤ a). inr (omega (arith, behind)))
    (cases_lt a from)

sends_none : (to : ℕ) (asked : Sdo) (p : Known) → SendsNone to asked p
sends_none to asked p =
    any_known (SendsNone to asked)
    (λ posted peer high. record {
      by_station = refl;
      named = adp_is peer.station 2048 high.station ∙ high.named;
      n = 0;
      few = inr (refl, refl);
      beside = λ a low. either_side _ a;
      above = let place = ado_is peer.station 2048 high.station in omega (arith, place);
    })
    (λ posted peer high. record {
      by_station = refl;
      named = adp_is peer.station peer.from.start high.station ∙ high.named;
      n = 0;
      few = inr (refl, refl);
      beside = λ a low. either_side _ a;
      above = let place = ado_is peer.station peer.from.start high.station in
          let from : 4096 ≤ peer.from.start = high.from in omega (arith, place, from);
    })
    (λ posted peer high. record {
      by_station = refl;
      named = adp_is peer.station peer.to.start high.station ∙ high.named;
      n = _;
      few = inl refl;
      beside = λ a low.
          let place = ado_is peer.station peer.to.start high.station in
          let to : 4096 ≤ peer.to.start = high.to in inl (omega (arith, place, to, low));
      above = let place = ado_is peer.station peer.to.start high.station in
          let to : 4096 ≤ peer.to.start = high.to in omega (arith, place, to);
    }) p

abbrev StaysHigh : ℕ → Known → Type 0
StaysHigh to p = (answer : Answer) → LiesHigh to p → LiesHigh to (next_known p answer)

pub stays_high : (to : ℕ) (p : Known) → StaysHigh to p
stays_high to p =
    any_known (StaysHigh to)
    (λ posted peer answer high. record {
      named = high.named;
      station = high.station;
      to = high.to;
      from = high.from;
    })
    (λ posted peer answer high. record {
      named = high.named;
      station = high.station;
      to = high.to;
      from = high.from;
    })
    (λ posted peer answer high. record {
      named = high.named;
      station = high.station;
      to = high.to;
      from = high.from;
    }) p

step_outlasted : (P : SlaveState → Type 0) (station to : ℕ) (asked : Sdo) (p learned : Known)
    (r between : RingState) (decided : Result (Option Mail) MasterFault) → Outlasts P station to
    → LiesHigh to p
    → ReachesAll r → IsStep RingTrips r (asking asked) p decided learned between
    → HasSuch P station r.slaves → HasSuch P station between.slaves
step_outlasted P station to asked p learned r between decided lasts high ring step has =
    trip_outlasted P station to (next_sent asked p) r between step.asks.came lasts ring
    (sends_none to asked p high) step.asks.made has

pub runs_outlasted : (P : SlaveState → Type 0) (station to n : ℕ) (asked : Sdo) (p last : Known)
    (r later : RingState) (result : Result Mail MasterFault) → Outlasts P station to → LiesHigh to p
    → ReachesAll r
    → Runs RingTrips r (asking asked) p n result last later → HasSuch P station r.slaves
    → HasSuch P station later.slaves
unfolding Runs
runs_outlasted P station to zero asked p last r later result lasts high ring (result_is, last_is, later_is)
    has =
    subst (λ (x : RingState). HasSuch P station x.slaves) (sym later_is) has
runs_outlasted P station to (suc n) asked p last r later result lasts high ring
    (Err fault, learned, between, step, left) has =
    subst (λ (x : RingState). HasSuch P station x.slaves) (sym left.2)
    (step_outlasted P station to asked p learned r between (Err fault) lasts high ring step has)
runs_outlasted P station to (suc n) asked p last r later result lasts high ring
    (Ok (Some mail), learned, between, step, left) has =
    subst (λ (x : RingState). HasSuch P station x.slaves) (sym left.2)
    (step_outlasted P station to asked p learned r between (Ok (Some mail)) lasts high ring step has)
runs_outlasted P station to (suc n) asked p last r later result lasts high ring
    (Ok None, learned, between, step, left) has =
    runs_outlasted P station to n asked learned last between later result lasts
    (subst (LiesHigh to) (sym step.learns) (stays_high to p step.answer high))
    (trip_keeps r between (next_sent asked p ∷ []) step.asks.came ring step.asks.made) left
    (step_outlasted P station to asked p learned r between (Ok None) lasts high ring step has)

-- behind them each slave is still reached
pub runs_reach : (n : ℕ) (asked : Sdo) (p last : Known) (r later : RingState)
    (result : Result Mail MasterFault)
    → ReachesAll r → Runs RingTrips r (asking asked) p n result last later → ReachesAll later
unfolding Runs
runs_reach zero asked p last r later result ring (result_is, last_is, later_is) =
    subst ReachesAll (sym later_is) ring
runs_reach (suc n) asked p last r later result ring (Err fault, learned, between, step, left) =
    subst ReachesAll (sym left.2)
    (trip_keeps r between (next_sent asked p ∷ []) step.asks.came ring step.asks.made)
runs_reach (suc n) asked p last r later result ring (Ok (Some mail), learned, between, step, left) =
    subst ReachesAll (sym left.2)
    (trip_keeps r between (next_sent asked p ∷ []) step.asks.came ring step.asks.made)
runs_reach (suc n) asked p last r later result ring (Ok None, learned, between, step, left) =
    runs_reach n asked learned last between later result
    (trip_keeps r between (next_sent asked p ∷ []) step.asks.came ring step.asks.made) left

-- ---- what outlasts them

-- the record of a sync manager
pub mailed_manager : (to : ℕ) (s t : SlaveState) (n : ℕ) (o : Option SyncMan) → n < 8 → IsMailed to s t
    → HoldsManager s.controller.memory n o → HoldsManager t.controller.memory n o
mailed_manager to s t n None few mailed held = absurd held
mailed_manager to s t n (Some m) few mailed held = (
  (λ k below. mailed.bytes (2048 + 8 * n + k) ((area_registers n few).left k below)
      ((area_registers n few).no_status k below)
      ∙ held.0 k below),
  (λ k below. mailed.bytes (2048 + 8 * n + 6 + k) ((switch_registers n few).left k below)
      ((switch_registers n few).no_status k below)
      ∙ held.1 k below),
)

-- and that of an FMMU
mailed_fmmu : (to : ℕ) (s t : SlaveState) (n : ℕ) (o : Option Fmmu) → n < 8
    → ((f : Fmmu) → o ≡ Some f → length (fmmu_bytes f) ≡ 16) → IsMailed to s t
    → HoldsFmmu s.controller.memory n o → HoldsFmmu t.controller.memory n o
mailed_fmmu to s t n None few sizes mailed held = absurd held
mailed_fmmu to s t n (Some f) few sizes mailed held = λ k below.
    let registers : AreRegisters (1536 + 16 * n) (length (fmmu_bytes f)) =
    fmmu_registers n (length (fmmu_bytes f)) few (sizes f refl) in
    mailed.bytes (1536 + 16 * n + k) (registers.left k below) (registers.no_status k below) ∙ held k below

pub mailed_set : (to : ℕ) (s t : SlaveState) (wanted : Wanted) (x : Step) → IsWanted wanted → IsMailed to s t
    → HoldsSet wanted s.controller.memory x → HoldsSet wanted t.controller.memory x
mailed_set to s t wanted (SyncManager n) wants mailed held =
    mailed_manager to s t (manager_number n) (slice_get wanted.managers (manager_number n)) (small_number n)
    mailed held
mailed_set to s t wanted (FmmuRecord n) wants mailed held =
    mailed_fmmu to s t (fmmu_number n) (slice_get wanted.fmmus (fmmu_number n)) (small_number n)
    (λ f found. got (fmmu_number n) wanted.fmmus f wants.fmmus found) mailed held
mailed_set to s t wanted (State state) wants mailed held = tt
mailed_set to s t wanted Station wants mailed held = tt
mailed_set to s t wanted (StationBehind first) wants mailed held = tt
mailed_set to s t wanted StationBefore wants mailed held = tt
mailed_set to s t wanted (Startup n) wants mailed held = tt

mailed_sets : (to : ℕ) (s t : SlaveState) (wanted : Wanted) (xs : List Step) → IsWanted wanted
    → IsMailed to s t
    → AllByRecursion (HoldsSet wanted s.controller.memory) xs
    → AllByRecursion (HoldsSet wanted t.controller.memory) xs
mailed_sets to s t wanted [] wants mailed held = tt
mailed_sets to s t wanted (x ∷ xs) wants mailed held =
    (mailed_set to s t wanted x wants mailed held.0, mailed_sets to s t wanted xs wants mailed held.1)

-- and a state that it has come to
pub mailed_there : (state : AlState) (to : ℕ) (s t : SlaveState) → IsMailed to s t → IsThere state s
    → IsThere state t
mailed_there state to s t mailed there = record {
  status = ap (λ (b : ℕ). status_of b) (mailed.status there.unasked) ∙ there.status;
  unasked = mailed.unasked;
}

all_outlast : (state : AlState) (wanted : Wanted) (xs : List Step) (to : ℕ) → IsWanted wanted
    → Outlasts (HasAll (IsThere state) wanted xs) wanted.station to
unfolding Outlasts
all_outlast state wanted xs to wants s t is mailed has = record {
  such = mailed_there state to s t mailed has.such;
  all = mailed_sets to s t wanted xs wants mailed has.all;
}

-- ---- a slave that is set up

of_set_up : (wanted : Wanted) (r : RingState) → IsSetUp r wanted
    → HasSuch (HasAll (IsThere Op) wanted (steps_of SafeOp)) wanted.station r.slaves
of_set_up wanted r set_up =
    subst (λ (ss : List SlaveState). HasSuch (HasAll (IsThere Op) wanted (steps_of SafeOp)) wanted.station ss)
    (sym set_up.has.slaves)
    (such_between (HasAll (IsThere Op) wanted (steps_of SafeOp)) wanted.station set_up.before set_up.slave
    set_up.behind set_up.has.others_before set_up.has.station_is (record {
      such = record { status = set_up.status; unasked = set_up.unasked };
      all = set_up.records;
    }) set_up.has.others_behind)

is_set_up : (wanted : Wanted) (r : RingState) → ReachesAll r → IsWanted wanted
    → HasSuch (HasAll (IsThere Op) wanted (steps_of SafeOp)) wanted.station r.slaves → IsSetUp r wanted
is_set_up wanted r ring wants has =
    let P : SlaveState → Type 0 = HasAll (IsThere Op) wanted (steps_of SafeOp) in
    let is : IsSuch P wanted.station r.slaves = such_one P wanted.station r.slaves has in
    record {
      before = is.one.before;
      slave = is.one.slave;
      behind = is.one.behind;
      has = has_one wanted.station r ring wants.station is.one;
      status = is.such.such.status;
      unasked = is.such.such.unasked;
      records = is.such.all;
    }

pub call_leaves : {A : Type 0} (asked : Sdo) (limit : ℕ) (comes_to : Mail → Result A MasterFault)
    (peer peer_later : Peer) (result : Result A MasterFault) (wanted : Wanted) (r later : RingState)
    → ReachesAll r → IsWanted wanted → HasAreas peer
    → IsSure RingTrips r peer (service_of asked comes_to) limit result peer_later later → IsSetUp r wanted
    → IsSetUp later wanted
call_leaves {A} asked limit comes_to peer peer_later result wanted r later ring wants areas sure set_up =
    let P : SlaveState → Type 0 = HasAll (IsThere Op) wanted (steps_of SafeOp) in
    is_set_up wanted later (runs_reach limit asked (begun peer) sure.last r later sure.answer ring sure.runs)
    wants (runs_outlasted P wanted.station peer.station limit asked (begun peer) sure.last r later sure.answer
    (all_outlast Op wanted (steps_of SafeOp) peer.station wants)
    (record { named = refl; station = areas.station; to = areas.to; from = areas.from }) ring sure.runs
    (of_set_up wanted r set_up))

pub upload_leaves : (peer peer_later : Peer) (index sub limit : ℕ) (result : Result Value MasterFault)
    (wanted : Wanted) (r later : RingState) → ReachesAll r → IsWanted wanted → HasAreas peer
    → IsSure RingTrips r peer (uploading index sub) limit result peer_later later
    → IsSetUp r wanted → IsSetUp later wanted
upload_leaves peer peer_later index sub limit result wanted r later ring wants areas sure set_up =
    call_leaves (Upload index sub) limit uploaded_by peer peer_later result wanted r later ring wants areas
    sure set_up

pub download_leaves : (peer peer_later : Peer) (index sub : ℕ) (value : Value) (limit : ℕ)
    (result : Result (Unit {0}) MasterFault) (wanted : Wanted) (r later : RingState) → ReachesAll r
    → IsWanted wanted → HasAreas peer
    → IsSure RingTrips r peer (downloading index sub value) limit result peer_later later
    → IsSetUp r wanted → IsSetUp later wanted
download_leaves peer peer_later index sub value limit result wanted r later ring wants areas sure set_up =
    call_leaves (Download index sub value) limit downloaded_by peer peer_later result wanted r later ring
    wants areas sure set_up
