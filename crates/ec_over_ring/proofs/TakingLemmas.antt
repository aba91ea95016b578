-- Startup objects over a ring: each slave stores what is wanted of it, and all slaves of the line stay as the
-- next phase needs them.
use Rattle.std.proofs.Common.{◌≡◌, ℕ, zero, suc, ◌+◌, ◌*◌, ◌%◌, ◌<◌, ◌≤◌, Bool, true, false, cond, leb, ◌&&◌}
use Rattle.std.proofs.Common.{List, [], ◌∷◌, ◌++◌, length, take, get_or, Option, None, Some, Result, Ok, Err}
use Rattle.std.proofs.Common.{refl, sym}
use Rattle.std.proofs.Common.{ap, ◌∙◌, arith, subst, inl, inr, true≢false}
use Rattle.std.specs.Prelude.{◌⊎◌, ◌≢◌, slice_get}
use Rattle.std.specs.List.{AllByRecursion}
use Rattle.std.proofs.lemmas.Bool.{and_from, and_parts}
use Rattle.std.proofs.lemmas.Bool.Decides.{nat_tests}
use Rattle.ec_regs.specs.SyncMan.{is_active, is_mailbox, master_reads, master_writes}
use Rattle.ec_regs.specs.declared.al.AlState.TheVariants as state
use Rattle.ec_regs.specs.declared.al.AlStatus.{AlStatus}
use Rattle.ec_regs.specs.declared.sync_man.SyncMan.{SyncMan}
use Rattle.ec_areas.specs.Ranges.{meets}
use Rattle.ec_areas.specs.Records.{sync_manager_at}
use Rattle.ec_areas.proofs.Laws.{active_place}
use Rattle.ec_wire.specs.Datagram.{DatagramRecord, ado_of}
use Rattle.ec_app.specs.MailStep.{has_mail}
use Rattle.ec_app.specs.Roles.{is_answer_mailbox, is_request_mailbox}
use Rattle.ec_app.specs.State.{SlaveState}
use Rattle.ec_app.specs.declared.objects.Entry.{Entry}
use Rattle.ec_app.specs.declared.sdo.Sdo.TheVariants.{Download}
use Rattle.ec_app.specs.declared.value.Value.{Value}
use Rattle.ec_ring.specs.Ring.{RingState}
use Rattle.ec_master.specs.RingTrips.{RingTrips}
use Rattle.ec_services.specs.Mailbox.{IsPeer}
use Rattle.ec_services.specs.Surely.{IsSure, begun}
use Rattle.ec_services.specs.Transfer.{downloading}
use Rattle.ec_services.specs.declared.fault.MasterFault.{MasterFault}
use Rattle.ec_services.specs.declared.mailbox.Peer.{Peer}
use Rattle.ec_run.specs.Phase.{AreDone, Brings}
use Rattle.ec_run.specs.StartupObjects.{WritesObject, WritesStartup, area_of, peer_by, startup_peer}
use Rattle.ec_run.specs.Step.{IsDone, IsTried, is_answered, startup_number}
use Rattle.ec_run.specs.declared.phase.StepFault.{StepFault}
use Rattle.ec_run.specs.declared.step.Step.{Step}
use Rattle.ec_run.specs.declared.step.Step.TheVariants.{Startup}
use Rattle.ec_run.specs.declared.wanted.StartupObject.{StartupObject}
use Rattle.ec_run.specs.declared.wanted.Wanted.{Wanted}
use Rattle.ec_run.proofs.Laws.{tried_within}
use Rattle.ec_over_ring.specs.Brought.{ReachesAll}
use Rattle.ec_over_ring.specs.Fit.{AreNone, ArePaired, CanStart, CanTake, HaveNoObjects, IsFitFor, IsFree}
use Rattle.ec_over_ring.specs.Fit.{TakesAll, TakesWanted}
use Rattle.ec_over_ring.specs.Recovery.{HasSlave, HoldsStored, IsOfPeer, TakesMail, slave_at}
use Rattle.ec_over_ring.specs.Started.{AreWanted, HoldsManager, IsWanted}
use Rattle.ec_over_ring.specs.States.{HasStation, IsElsewhere}
use Rattle.ec_over_ring.specs.Transfers.{IsRequest, IsSlave, download_of}
use Rattle.ec_over_ring.proofs.AcceptedLemmas.{stands_as}
use Rattle.ec_over_ring.proofs.BroughtLemmas.{has_one}
use Rattle.ec_over_ring.proofs.CalmRingLemmas.{IsBehind, ring_answers_download, slave_behind}
use Rattle.ec_over_ring.proofs.FixedLemmas.{HoldsFixed}
use Rattle.ec_over_ring.proofs.LineBroughtLemmas.{IsThere}
use Rattle.ec_over_ring.proofs.MailedLemmas.{IsMailed, LiesHigh, Outlasts, mailed_manager, mailed_there}
use Rattle.ec_over_ring.proofs.MailedLemmas.{runs_outlasted}
use Rattle.ec_over_ring.proofs.ManagerLemmas.{manager_is}
use Rattle.ec_over_ring.proofs.NeedsLemmas.{Needs, needs}
use Rattle.ec_over_ring.proofs.ObjectLemmas.{writable}
use Rattle.ec_over_ring.proofs.PhaseLemmas.{Stage, fits_still}
use Rattle.ec_over_ring.proofs.ReadyLemmas.{apart_back, first_alone, meets_itself, second_alone, switched_off}
use Rattle.ec_over_ring.proofs.RecordsLemmas.{IsInRange, spares_station}
use Rattle.ec_over_ring.proofs.RequestLemmas.{fits_at}
use Rattle.ec_over_ring.proofs.SetsLemmas.{Fits}
use Rattle.ec_over_ring.proofs.SettingLemmas.{AllLeave, StepLeaves, area_registers, begins, begins_high}
use Rattle.ec_over_ring.proofs.SettingLemmas.{ends, is_setting, switch_registers}
use Rattle.ec_over_ring.proofs.ShapeLemmas.{same_download, shape_of}
use Rattle.ec_over_ring.proofs.SparedLemmas.{HasSuch, IsFollowed, IsSuch, such_as, such_between, such_one}
use Rattle.ec_over_ring.proofs.StartedLemmas.{LineLeaves, line_keeps, steps_reach}
use Rattle.ec_over_ring.proofs.StationLemmas.{station_of}
use Rattle.ec_over_ring.proofs.StepLemmas.{enough_room}
use Rattle.ec_over_ring.proofs.StoredLemmas.{AllKept, HasKept, Keeps, keeps_behind, keeps_none}
use Rattle.ec_over_ring.proofs.StoredLemmas.{keeps_outlasts}
use Rattle.ec_over_ring.proofs.StoredLemmas.{shown, take_more}
use Rattle.ec_over_ring.proofs.TransferLemmas.{one_of}
use Rattle.ec_over_ring.proofs.TripKeepsLemmas.{within_keeps}

-- ---- a slave that stores what is wanted

-- one with these objects does
abbrev pub Stores : List Entry → Option StartupObject → Type 0
Stores objects None = Unit {0}
Stores objects (Some o) =
    IsRequest (Download o.index o.sub o.value) × (download_of o.index o.sub o.value objects ≡ Ok tt)

pub record StoresAll (wanted : Wanted) (s : SlaveState) : Type 0 where
  pub objects : AllByRecursion (Stores s.application.objects) wanted.startup
  pub real : s.application.simple ≡ false
  pub requests : IsFree s.controller.memory (slice_get wanted.managers 0)
  pub answers : IsFree s.controller.memory (slice_get wanted.managers 1)

-- where any is wanted
abbrev pub IsWilling : Wanted → SlaveState → Type 0
IsWilling wanted s = AreNone wanted.startup ⊎ StoresAll wanted s

each_stored : (objects : List Entry) (startup : List (Option StartupObject))
    → AllByRecursion (TakesWanted objects) startup → AllByRecursion (Stores objects) startup
each_stored objects [] take = tt
each_stored objects (None ∷ startup) take = (tt, each_stored objects startup take.1)
each_stored objects (Some o ∷ startup) take = (
  (
    take.0.numbers,
    writable o.index o.sub objects take.0.rights o.value take.0.value take.0.stands take.0.writable
        take.0.size,
  ),
  each_stored objects startup take.1,
)

pub willing : (wanted : Wanted) (s : SlaveState) → AreNone wanted.startup ⊎ TakesAll wanted s
    → IsWilling wanted s
willing wanted s (inl none) = inl none
willing wanted s (inr takes) = inr (record {
  objects = each_stored s.application.objects wanted.startup takes.objects;
  real = takes.real;
  requests = takes.requests;
  answers = takes.answers;
})

-- ---- it stays so

-- the areas of the sync managers for process data are those of another memory
unfoldable pub SameAreas : List ℕ → List ℕ → Type 0
SameAreas x y =
    (n : ℕ) → 2 ≤ n → n < 8
    → ((k : ℕ) → k < 5 → get_or y (2048 + 8 * n + k) 0 ≡ get_or x (2048 + 8 * n + k) 0)
    × (get_or y (2048 + 8 * n + 6) 0 ≡ get_or x (2048 + 8 * n + 6) 0)

-- a record but for its status and its last byte
same_meets : (x y : List ℕ) (n from size : ℕ)
    → ((k : ℕ) → k < 5 → get_or y (2048 + 8 * n + k) 0 ≡ get_or x (2048 + 8 * n + k) 0)
    → get_or y (2048 + 8 * n + 6) 0 ≡ get_or x (2048 + 8 * n + 6) 0
    → meets (sync_manager_at y n) from size ≡ meets (sync_manager_at x n) from size
unfolding meets is_active
same_meets x y n from size area switch =
    rw (
      manager_is y n,
      manager_is x n,
      area 0 (omega arith),
      area 1 (omega arith),
      area 2 (omega arith),
      area 3 (omega arith),
      area 4 (omega arith),
      switch,
    ) refl

pub free_still : (x y : List ℕ) (o : Option SyncMan) → SameAreas x y → IsFree x o → IsFree y o
unfolding SameAreas
free_still x y None same free = tt
free_still x y (Some m) same free = λ n from few.
    same_meets x y n m.start m.length (same n from few).0 (same n from few).1 ∙ free n from few

stored_still : (es fs : List Entry) (startup : List (Option StartupObject))
    → ((i j : ℕ) → shape_of i j fs ≡ shape_of i j es) → AllByRecursion (Stores es) startup
    → AllByRecursion (Stores fs) startup
stored_still es fs [] same stores = tt
stored_still es fs (None ∷ startup) same stores = (tt, stored_still es fs startup same stores.1)
stored_still es fs (Some o ∷ startup) same stores = (
  (
    stores.0.0,
    same_download o.index o.sub o.value fs es (same o.index o.sub) ∙ stores.0.1,
  ),
  stored_still es fs startup same stores.1,
)

pub willing_still : (wanted : Wanted) (s t : SlaveState) → needs t ≡ needs s
    → ((i j : ℕ) → shape_of i j t.application.objects ≡ shape_of i j s.application.objects)
    → SameAreas s.controller.memory t.controller.memory → IsWilling wanted s → IsWilling wanted t
willing_still wanted s t same shapes areas (inl none) = inl none
willing_still wanted s t same shapes areas (inr stores) = inr (record {
  objects = stored_still s.application.objects t.application.objects wanted.startup shapes stores.objects;
  real = ap (λ (n : Needs). n.0) same ∙ stores.real;
  requests = free_still s.controller.memory t.controller.memory (slice_get wanted.managers 0) areas
      stores.requests;
  answers = free_still s.controller.memory t.controller.memory (slice_get wanted.managers 1) areas
      stores.answers;
})

-- behind a trip of a step whose registers lie before those records
areas_followed : (other low : ℕ) (d : DatagramRecord) (s t : SlaveState) → IsInRange other low 2064 d
    → IsFollowed d.address (length d.payload) s t → SameAreas s.controller.memory t.controller.memory
unfolding SameAreas
areas_followed other low d s t range follow n from few = (
  (λ k below. follow.bytes (2048 + 8 * n + k) ((area_registers n few).left k below)
      (inr (record {
        register = ((area_registers n few).left k below).register;
        beside = let to : ado_of d.address + length d.payload ≤ 2064 = range.to in
            inr (omega (arith, to, from));
        no_status = (area_registers n few).no_status k below;
      }))),
  (let same : 2048 + 8 * n + 6 + 0 ≡ 2048 + 8 * n + 6 = omega arith in
      subst (λ (a : ℕ). get_or t.controller.memory a 0 ≡ get_or s.controller.memory a 0) same
      (follow.bytes (2048 + 8 * n + 6 + 0) ((switch_registers n few).left 0 (omega arith))
      (inr (record {
        register = ((switch_registers n few).left 0 (omega arith)).register;
        beside = let to : ado_of d.address + length d.payload ≤ 2064 = range.to in
            inr (omega (arith, to, from));
        no_status = (switch_registers n few).no_status 0 (omega arith);
      })))),
)

lower_range : (other low high : ℕ) (d : DatagramRecord) → high ≤ 2064 → IsInRange other low high d
    → IsInRange other low 2064 d
lower_range other low high d less range = record {
  by_station = range.by_station;
  named = range.named;
  from = range.from;
  to = let to : ado_of d.address + length d.payload ≤ high = range.to in omega (arith, to, less);
}

-- ---- what stays of each slave

-- what stays of a slave until it is asked for Safe-Op: what its application needs, its objects but for values
-- that may be written, and the areas of its sync managers for process data
pub record IsLeftSo (s t : SlaveState) : Type 0 where
  pub needs_are : needs t ≡ needs s
  pub shapes : (i j : ℕ) → shape_of i j t.application.objects ≡ shape_of i j s.application.objects
  pub fixed : (i j : ℕ) (v : Value) → HoldsFixed i j v s → HoldsFixed i j v t
  pub areas : SameAreas s.controller.memory t.controller.memory

-- this holds of a slave as long as that stays
unfoldable pub Endures : (SlaveState → Type 0) → Type 0
Endures P = (s t : SlaveState) → IsLeftSo s t → P s → P t

willing_endures : (wanted : Wanted) → Endures (IsWilling wanted)
unfolding Endures
willing_endures wanted s t left so = willing_still wanted s t left.needs_are left.shapes left.areas so

endures_left : (P : SlaveState → Type 0) (station : ℕ) (y : Step) (other : ℕ) → Endures P
    → is_setting y ≡ true → ends y ≤ 2064 → StepLeaves P station other y
unfolding StepLeaves Endures
endures_left P station y other endures sets low d range = record {
  by_station = range.by_station;
  address = spares_station other (begins y) (ends y) d (begins_high y sets) range;
  keeps = λ s t is follow so.
      endures s t (record {
        needs_are = follow.needs_are;
        shapes = follow.shapes;
        fixed = follow.fixed;
        areas = areas_followed other (begins y) d s t
            (lower_range other (begins y) (ends y) d low range) follow;
      }) so;
}

-- so it is of all steps of the first two phases
unfoldable pub each_low : List Step → Bool
each_low [] = true
each_low (y ∷ ys) = (is_setting y && leb (ends y) 2064) && each_low ys

low_left : (P : SlaveState → Type 0) (station other : ℕ) (ys : List Step) → Endures P → each_low ys ≡ true
    → AllLeave P station other ys
unfolding each_low AllLeave
low_left P station other [] endures low = tt
low_left P station other (y ∷ ys) endures low =
    let parts = and_parts (is_setting y && leb (ends y) 2064) (each_low ys) low in
    let one = and_parts (is_setting y) (leb (ends y) 2064) parts.0 in
    let test : leb (ends y) 2064 ≡ true = one.1 in
    let less : ends y ≤ 2064 = grind (arith, nat_tests) in (
      (one.0, endures_left P station y other endures one.0 less),
      low_left P station other ys endures parts.1,
    )

line_low : (P : SlaveState → Type 0) (station : ℕ) (ys : List Step) (line : List Wanted) → Endures P
    → AreWanted line → each_low ys ≡ true → LineLeaves P station ys line
unfolding LineLeaves
line_low P station ys [] endures are low = tt
line_low P station ys (other ∷ rest) endures are low = (
  (are.0, low_left P station other.station ys endures low),
  line_low P station ys rest endures are.2 low,
)

pub low_keeps : (P : SlaveState → Type 0) (station : ℕ) (ys : List Step) (line : List Wanted)
    (result : Result (Unit {0}) StepFault) (r later : RingState) → Endures P → ReachesAll r → AreWanted line
    → each_low ys ≡ true → Brings RingTrips r 0 line ys result later → HasSuch P station r.slaves
    → HasSuch P station later.slaves
low_keeps P station ys line result r later endures ring are low brings has =
    line_keeps P station 0 line ys result r later ring (line_low P station ys line endures are low) brings has

abbrev pub AreWilling : List Wanted → RingState → Type 0
AreWilling line r =
    AllByRecursion (λ (wanted : Wanted). HasSuch (IsWilling wanted) wanted.station r.slaves) line

pub stay_willing : (ys : List Step) (some line : List Wanted) (result : Result (Unit {0}) StepFault)
    (r later : RingState) → ReachesAll r → AreWanted line → each_low ys ≡ true
    → Brings RingTrips r 0 line ys result later → AreWilling some r → AreWilling some later
stay_willing ys [] line result r later ring are low brings so = tt
stay_willing ys (wanted ∷ some) line result r later ring are low brings so = (
  low_keeps (IsWilling wanted) wanted.station ys line result r later (willing_endures wanted) ring are low
      brings so.0,
  stay_willing ys some line result r later ring are low brings so.1,
)

pub first_willing : (line : List Wanted) (r : RingState) → AllByRecursion (CanTake r) line → AreWilling line r
first_willing [] r can = tt
first_willing (wanted ∷ rest) r can = (
  subst (λ (ss : List SlaveState). HasSuch (IsWilling wanted) wanted.station ss) (sym can.0.has.slaves)
      (such_between (IsWilling wanted) wanted.station can.0.before can.0.slave can.0.behind
      can.0.has.others_before can.0.has.station_is (willing wanted can.0.slave can.0.takes)
      can.0.has.others_behind),
  first_willing rest r can.1,
)

-- a line without objects takes them all
pub none_taken : (line : List Wanted) (r : RingState) → AllByRecursion (CanStart r) line → HaveNoObjects line
    → AllByRecursion (CanTake r) line
none_taken [] r can none = tt
none_taken (wanted ∷ rest) r can none = (
  record {
    before = can.0.before;
    slave = can.0.slave;
    behind = can.0.behind;
    has = can.0.has;
    takes = inl none.0;
  },
  none_taken rest r can.1 none.1,
)

-- where the sync managers for process data are switched off each area is free
pub off_free : (memory : List ℕ) (area : Option SyncMan)
    → ((n : ℕ) → 2 ≤ n → n < 8 → (sync_manager_at memory n).activate ≡ 0) → IsFree memory area
off_free memory None off = tt
off_free memory (Some m) off = λ n from few.
    switched_off (sync_manager_at memory n) m.start m.length (off n from few)

-- ---- a slave behind Pre-Op

-- its mailboxes stand, and it stores what is wanted
pub record IsReady (wanted : Wanted) (s : SlaveState) : Type 0 where
  pub stage : Stage (IsThere state.PreOp) wanted s
  pub requests : HoldsManager s.controller.memory 0 (slice_get wanted.managers 0)
  pub answers : HoldsManager s.controller.memory 1 (slice_get wanted.managers 1)
  pub stores : IsWilling wanted s

areas_mailed : (to : ℕ) (s t : SlaveState) → IsMailed to s t
    → SameAreas s.controller.memory t.controller.memory
unfolding SameAreas
areas_mailed to s t mailed n from few = (
  (λ k below. mailed.bytes (2048 + 8 * n + k) ((area_registers n few).left k below)
      ((area_registers n few).no_status k below)),
  (let same : 2048 + 8 * n + 6 + 0 ≡ 2048 + 8 * n + 6 = omega arith in
      subst (λ (a : ℕ). get_or t.controller.memory a 0 ≡ get_or s.controller.memory a 0) same
      (mailed.bytes (2048 + 8 * n + 6 + 0) ((switch_registers n few).left 0 (omega arith))
      ((switch_registers n few).no_status 0 (omega arith)))),
)

-- the trips of a call leave a slave so
pub endures_outlasts : (P : SlaveState → Type 0) (station to : ℕ) → Endures P → Outlasts P station to
unfolding Outlasts Endures
endures_outlasts P station to endures s t is mailed so =
    endures s t (record {
      needs_are = mailed.needs_are;
      shapes = mailed.shapes;
      fixed = mailed.fixed;
      areas = areas_mailed to s t mailed;
    }) so

-- and it is ready still
pub ready_outlasts : (wanted : Wanted) (to : ℕ) → Outlasts (IsReady wanted) wanted.station to
unfolding Outlasts
ready_outlasts wanted to s t is mailed ready = record {
  stage = record {
    fits = fits_still wanted s t mailed.needs_are ready.stage.fits;
    is = mailed_there state.PreOp to s t mailed ready.stage.is;
  };
  requests = mailed_manager to s t 0 (slice_get wanted.managers 0) (omega arith) mailed ready.requests;
  answers = mailed_manager to s t 1 (slice_get wanted.managers 1) (omega arith) mailed ready.answers;
  stores = willing_still wanted s t mailed.needs_are mailed.shapes (areas_mailed to s t mailed) ready.stores;
}

abbrev pub HasReady : Wanted → RingState → Type 0
HasReady wanted r = HasSuch (IsReady wanted) wanted.station r.slaves

-- ---- an object is written

-- what holds of the one slave with a station holds of this one
pub such_at : (P : SlaveState → Type 0) (station : ℕ) (ss before : List SlaveState) (s : SlaveState)
    (behind : List SlaveState) → ss ≡ before ++ s ∷ behind → station_of s ≡ station
    → AllByRecursion (IsElsewhere station) before → HasSuch P station ss → P s
unfolding HasSuch
such_at P station ss before s behind is own others has =
    at_parts before others (subst (λ (xs : List SlaveState). HasSuch P station xs) is has)
  where
    at_parts : (xs : List SlaveState) → AllByRecursion (IsElsewhere station) xs
        → HasSuch P station (xs ++ s ∷ behind) → P s
    at_parts [] none (inl (same, such, rest)) = such
    at_parts [] none (inr (other, rest)) = absurd (other own)
    at_parts (x ∷ xs) all (inl (same, such, rest)) = absurd (all.0 same)
    at_parts (x ∷ xs) all (inr (other, rest)) = at_parts xs all.1 rest

-- objects of the slave with a station were written, which keeps them behind those before; and each slave is
-- ready as it was
pub record AreWritten {E : Type 0} (station : ℕ) (done more : List (Option StartupObject))
    (result : Result (Unit {0}) E) (r later : RingState) : Type 0 where
  pub came : result ≡ Ok tt
  pub ready : (wanted : Wanted) → HasReady wanted r → HasReady wanted later
  pub own : HasKept done station r → HasKept more station later
  pub others : (other : ℕ) (some : List (Option StartupObject)) → station ≢ other → HasKept some other r
      → HasKept some other later

-- a mailbox has room, and not too much
most_room : (s : SyncMan) → is_active s ≡ true → is_mailbox s ≡ true → s.length ≤ 1486
unfolding is_active
most_room s active mailbox = grind (arith, nat_tests)

pub record IsBox (m : SyncMan) : Type 0 where
  pub active : is_active m ≡ true
  pub low : 4096 ≤ m.start
  pub least : 16 ≤ m.length
  pub most : m.length ≤ 1486

is_box : (m : SyncMan) → is_active m ≡ true → is_mailbox m ≡ true → IsBox m
is_box m active mailbox = record {
  active = active;
  low = (active_place m active).0;
  least = enough_room m active mailbox;
  most = most_room m active mailbox;
}

pub request_box : (m : SyncMan) → is_request_mailbox m ≡ true → IsBox m
request_box m is =
    let kind = and_parts (is_active m && is_mailbox m) (master_writes m) is in
    let active = and_parts (is_active m) (is_mailbox m) kind.0 in
    is_box m active.0 active.1

pub answer_box : (m : SyncMan) → is_answer_mailbox m ≡ true → IsBox m
answer_box m is =
    let kind = and_parts (is_active m && is_mailbox m) (master_reads m) is in
    let active = and_parts (is_active m) (is_mailbox m) kind.0 in
    is_box m active.0 active.1

abbrev pub peer_with : ℕ → SyncMan → SyncMan → ℕ → Peer
peer_with station a b counter =
    record { station = station; to = area_of a; from = area_of b; counter = counter }

-- the slave is that peer's
pub of_peer : (station counter : ℕ) (a b : SyncMan) (s : SlaveState) → IsSlave s → station < 65536
    → s.controller.written ≡ false → IsBox a → IsBox b → Fits (Some a) → Fits (Some b)
    → ArePaired (Some a) (Some b) → HoldsManager s.controller.memory 0 (Some a)
    → HoldsManager s.controller.memory 1 (Some b) → IsFree s.controller.memory (Some a)
    → IsFree s.controller.memory (Some b) → station_of s ≡ station
    → IsOfPeer (peer_with station a b counter) s
unfolding meets is_active
of_peer station counter a b s slave address unasked a_box b_box fit fits paired held holds free frees is =
    let m : List ℕ = s.controller.memory in
    let first = stands_as m 0 a fit held in
    let second = stands_as m 1 b fits holds in
    record {
      slave = slave;
      address = address;
      station = is;
      unasked = unasked;
      requests = ap (λ (x : SyncMan). is_request_mailbox x) first ∙ paired.0;
      answers = ap (λ (x : SyncMan). is_answer_mailbox x) second ∙ paired.1;
      to = record {
        start = ap (λ (x : SyncMan). x.start) first;
        length = ap (λ (x : SyncMan). x.length) first;
        alone = first_alone m a.start a.length
            (ap (λ (x : SyncMan). meets x a.start a.length) first
            ∙ meets_itself a a_box.active (let least = a_box.least in omega (arith, least)))
            (ap (λ (x : SyncMan). meets x a.start a.length) second
            ∙ apart_back a b a_box.active paired.2)
            free;
      };
      from = record {
        start = ap (λ (x : SyncMan). x.start) second;
        length = ap (λ (x : SyncMan). x.length) second;
        alone = second_alone m b.start b.length
            (ap (λ (x : SyncMan). meets x b.start b.length) first ∙ paired.2)
            (ap (λ (x : SyncMan). meets x b.start b.length) second
            ∙ meets_itself b b_box.active (let least = b_box.least in omega (arith, least)))
            frees;
      };
    }

sure_written : (done : List (Option StartupObject)) (station counter : ℕ) (a b : SyncMan) (o : StartupObject)
    (result : Result (Unit {0}) MasterFault) (r later : RingState) (before : List SlaveState) (s : SlaveState)
    (behind : List SlaveState) (peer_later : Peer) → ReachesAll r → 1 ≤ counter → counter ≤ 7
    → IsBox a → IsBox b → HasStation station r before s behind → IsThere state.PreOp s
    → IsOfPeer (peer_with station a b counter) s → Stores s.application.objects (Some o)
    → IsSure RingTrips r (peer_with station a b counter) (downloading o.index o.sub o.value) 64
    result peer_later later
    → AreWritten station done (done ++ Some o ∷ []) result r later
sure_written done station counter a b o result r later before s behind peer_later ring least most a_box b_box
    has there own stores sure =
    let peer : Peer = peer_with station a b counter in
    let peer_is : IsPeer peer = record {
      to = (a_box.least, a_box.most);
      from = (b_box.least, b_box.most);
      least = least;
      most = most;
    } in
    let slave : HasSlave peer r before s behind = record {
      slaves = has.slaves;
      all = ring.slaves.each;
      others_before = has.others_before;
      others_behind = has.others_behind;
      own = own;
    } in
    let takes : TakesMail s = ap (λ (x : AlStatus). has_mail x.state) there.status in
    let held : HoldsStored o.index o.sub o.value result s (slave_at (length before) s later) =
    ring_answers_download peer peer_later o.index o.sub o.value 64 r before behind s result later peer_is
    slave ring.down takes stores.0 (omega arith) sure in
    let came : result ≡ Ok tt = held.result_is ∙ stores.1 in
    let high : LiesHigh station (begun peer) =
    record { named = refl; station = has.address; to = a_box.low; from = b_box.low } in
    record {
      came = came;
      ready = λ wanted so.
          runs_outlasted (IsReady wanted) wanted.station station 64 (Download o.index o.sub o.value)
          (begun peer) sure.last r later sure.answer (ready_outlasts wanted station) high ring sure.runs so;
      own = λ kept.
          such_as (IsBehind o.index o.sub o.value s) (Keeps (done ++ Some o ∷ [])) station later.slaves
          (λ x behind_it. keeps_behind done o s x behind_it
          (such_at (Keeps done) station r.slaves before s behind has.slaves has.station_is has.others_before
          kept))
          (slave_behind peer peer_later o.index o.sub o.value 64 r before behind s result later peer_is slave
          ring.down takes stores.0 (omega arith) came sure);
      others = λ other some differ so.
          runs_outlasted (Keeps some) other station 64 (Download o.index o.sub o.value) (begun peer)
          sure.last r later sure.answer (keeps_outlasts some other station differ) high ring sure.runs so;
    }

object_written : (done : List (Option StartupObject)) (station counter : ℕ)
    (requests answers : Option SyncMan) (o : StartupObject)
    (result : Result (Unit {0}) MasterFault) (r later : RingState) (before : List SlaveState) (s : SlaveState)
    (behind : List SlaveState) → ReachesAll r → 1 ≤ counter → counter ≤ 7
    → HasStation station r before s behind → IsThere state.PreOp s
    → Fits requests → Fits answers
    → ArePaired requests answers → HoldsManager s.controller.memory 0 requests
    → HoldsManager s.controller.memory 1 answers → IsFree s.controller.memory requests
    → IsFree s.controller.memory answers → Stores s.application.objects (Some o)
    → WritesObject RingTrips r (peer_by station requests answers counter) o result later
    → AreWritten station done (done ++ Some o ∷ []) result r later
object_written done station counter None answers o result r later before s behind ring least most has there
    fit fits paired held holds free frees stores writes =
    absurd paired
object_written done station counter (Some a) None o result r later before s behind ring least most has there
    fit fits paired held holds free frees stores writes =
    absurd paired
object_written done station counter (Some a) (Some b) o result r later before s behind ring least most has
    there fit fits paired held holds free frees stores writes =
    let peer : Peer = peer_with station a b counter in
    let is : peer_by station (Some a) (Some b) counter ≡ Some peer =
    ap (λ (t : Bool). cond t (Some peer) None) (and_from _ _ paired.0 paired.1) in
    let sure = subst (λ (x : Option Peer). WritesObject RingTrips r x o result later) is writes in
    let a_box : IsBox a = request_box a paired.0 in
    let b_box : IsBox b = answer_box b paired.1 in
    let slave : IsSlave s =
    one_of before s behind (subst (λ (ss : List SlaveState). AllByRecursion IsSlave ss) has.slaves
    ring.slaves.each) in
    sure_written done station counter a b o result r later before s behind sure.0 ring least most a_box b_box
    has there
    (of_peer station counter a b s slave has.address there.unasked a_box b_box fit fits paired held holds free
    frees has.station_is) stores sure.1

-- ---- a step of that kind

-- where no object stands at a number there is no trip
none_written : (station : ℕ) (done : List (Option StartupObject)) (result : Result (Unit {0}) MasterFault)
    (r later : RingState) → result ≡ Ok tt → later ≡ r
    → AreWritten station done (done ++ None ∷ []) result r later
none_written station done result r later came same = record {
  came = came;
  ready = λ wanted so. subst (λ (x : RingState). HasReady wanted x) (sym same) so;
  own = λ kept.
      subst (λ (x : RingState). HasKept (done ++ None ∷ []) station x) (sym same)
      (such_as (Keeps done) (Keeps (done ++ None ∷ [])) station r.slaves (λ s so. keeps_none done s so) kept);
  others = λ other some differ so. subst (λ (x : RingState). HasKept some other x) (sym same) so;
}

-- and where there are no steps
nothing_written : {E : Type 0} (station : ℕ) (done : List (Option StartupObject)) (result : Result
    (Unit {0}) E)
    (r later : RingState) → result ≡ Ok tt → later ≡ r → AreWritten station done done result r later
nothing_written {E} station done result r later came same = record {
  came = came;
  ready = λ wanted so. subst (λ (x : RingState). HasReady wanted x) (sym same) so;
  own = λ kept. subst (λ (x : RingState). HasKept done station x) (sym same) kept;
  others = λ other some differ so. subst (λ (x : RingState). HasKept some other x) (sym same) so;
}

abbrev StoresAt : List Entry → Option (Option StartupObject) → Type 0
StoresAt objects None = Unit {0}
StoresAt objects (Some o) = Stores objects o

stored_at : (n : ℕ) (objects : List Entry) (startup : List (Option StartupObject))
    → AllByRecursion (Stores objects) startup → StoresAt objects (slice_get startup n)
stored_at n objects [] stores = tt
stored_at zero objects (o ∷ startup) stores = stores.0
stored_at (suc n) objects (o ∷ startup) stores = stored_at n objects startup stores.1

small_counter : (n : ℕ) → n % 7 + 1 ≤ 7
small_counter n = omega arith

at_written : (done : List (Option StartupObject)) (wanted : Wanted) (n : ℕ)
    (at : Option (Option StartupObject)) (result : Result (Unit {0}) MasterFault) (r later : RingState)
    (before : List SlaveState) (s : SlaveState)
    (behind : List SlaveState) → ReachesAll r → HasStation wanted.station r before s behind
    → IsReady wanted s → StoresAll wanted s → StoresAt s.application.objects at
    → WritesStartup RingTrips r (startup_peer wanted n) at result later
    → AreWritten wanted.station done (done ++ shown at) result r later
at_written done wanted n None result r later before s behind ring has ready all stores writes = absurd writes
at_written done wanted n (Some None) result r later before s behind ring has ready all stores writes =
    none_written wanted.station done result r later writes.0 writes.1
at_written done wanted n (Some (Some o)) result r later before s behind ring has ready all stores writes =
    let fits : IsFitFor wanted s = ready.stage.fits in
    object_written done wanted.station (n % 7 + 1) (slice_get wanted.managers 0)
    (slice_get wanted.managers 1) o result r later before s behind ring (omega arith) (small_counter n) has
    ready.stage.is
    (fits_at 0 wanted.managers fits.records.managers) (fits_at 1 wanted.managers fits.records.managers)
    (fits.mailboxes all.real) ready.requests ready.answers all.requests all.answers stores writes

idle_written : (done : List (Option StartupObject)) (station n : ℕ) (startup : List (Option StartupObject))
    (peer : Option Peer) (result : Result (Unit {0}) MasterFault) (r later : RingState) → AreNone startup
    → WritesStartup RingTrips r peer (slice_get startup n) result later
    → AreWritten station done (done ++ shown (slice_get startup n)) result r later
idle_written done station n [] peer result r later none writes = absurd writes
idle_written done station zero (o ∷ startup) peer result r later none writes =
    let idle =
    subst (λ (x : Option StartupObject). WritesStartup RingTrips r peer (Some x) result later) none.0
    writes in
    subst (λ (x : Option StartupObject). AreWritten station done (done ++ x ∷ []) result r later) (sym none.0)
    (none_written station done result r later idle.0 idle.1)
idle_written done station (suc n) (o ∷ startup) peer result r later none writes =
    idle_written done station n startup peer result r later none.1 writes

either_written : (done : List (Option StartupObject)) (wanted : Wanted) (n : ℕ)
    (result : Result (Unit {0}) MasterFault) (r later : RingState)
    (before : List SlaveState) (s : SlaveState) (behind : List SlaveState) → ReachesAll r
    → HasStation wanted.station r before s behind → IsReady wanted s → IsWilling wanted s
    → WritesStartup RingTrips r (startup_peer wanted n) (slice_get wanted.startup n) result later
    → AreWritten wanted.station done (done ++ shown (slice_get wanted.startup n)) result r later
either_written done wanted n result r later before s behind ring has ready (inl none) writes =
    idle_written done wanted.station n wanted.startup (startup_peer wanted n) result r later none writes
either_written done wanted n result r later before s behind ring has ready (inr all) writes =
    at_written done wanted n (slice_get wanted.startup n) result r later before s behind ring has ready all
    (stored_at n s.application.objects wanted.startup all.objects) writes

-- the objects up to one with a number, and that one
abbrev before_it : Wanted → ℕ → List (Option StartupObject)
before_it wanted n = take n wanted.startup

number_is : (n : ℕ) → n < 16 → startup_number n ≡ n
number_is n few = omega (arith, few)

up_to_it : (wanted : Wanted) (n : ℕ) → n < 16
    → before_it wanted n ++ shown (slice_get wanted.startup (startup_number n)) ≡ before_it wanted (n + 1)
up_to_it wanted n few =
    ap (λ (k : ℕ). before_it wanted n ++ shown (slice_get wanted.startup k)) (number_is n few)
    ∙ sym (take_more n wanted.startup)
    ∙ ap (λ (k : ℕ). take k wanted.startup) (let next : suc n ≡ n + 1 = omega arith in next)

abbrev IsWritten : {E : Type 0} → Wanted → ℕ → ℕ → Result (Unit {0}) E → RingState → RingState → Type 0
IsWritten wanted n end result r later =
    AreWritten wanted.station (before_it wanted n) (before_it wanted end) result r later

done_written : (place n : ℕ) (wanted : Wanted) (result : Result (Unit {0}) MasterFault) (r later : RingState)
    → ReachesAll r → IsWanted wanted → n < 16 → HasReady wanted r
    → IsDone RingTrips r place wanted (Startup n) result later → IsWritten wanted n (n + 1) result r later
done_written place n wanted result r later ring wants few has done =
    let is : IsSuch (IsReady wanted) wanted.station r.slaves =
    such_one (IsReady wanted) wanted.station r.slaves has in
    subst (λ (xs : List (Option StartupObject)).
    AreWritten wanted.station (before_it wanted n) xs result r later) (up_to_it wanted n few)
    (either_written (before_it wanted n) wanted (startup_number n) result r later is.one.before is.one.slave
    is.one.behind ring (has_one wanted.station r ring wants.station is.one) is.such is.such.stores done)

tried_written : (place more n : ℕ) (wanted : Wanted) (result : Result (Unit {0}) MasterFault)
    (r later : RingState) → ReachesAll r → IsWanted wanted → n < 16 → HasReady wanted r
    → IsTried RingTrips r place wanted (Startup n) more result later
    → IsWritten wanted n (n + 1) result r later
unfolding IsTried
tried_written place zero n wanted result r later ring wants few has tried =
    done_written place n wanted result r later ring wants few has tried
tried_written place (suc more) n wanted result r later ring wants few has (first, between, done, rest) =
    let one : IsWritten wanted n (n + 1) first r between =
    done_written place n wanted first r between ring wants few has done in
    first_so one (is_answered first) (ap is_answered one.came) rest
  where
    first_so : IsWritten wanted n (n + 1) first r between → (b : Bool) → b ≡ true
        → (elim b as (λ (x : Bool). Type 0) [
          | true ↦ (result ≡ first) × (later ≡ between)
          | false ↦ IsTried RingTrips between place wanted (Startup n) more result later
        ]) → IsWritten wanted n (n + 1) result r later
    first_so one true answered (same, still) =
        subst (λ (x : RingState). IsWritten wanted n (n + 1) result r x) (sym still)
        (subst (λ (x : Result (Unit {0}) MasterFault). IsWritten wanted n (n + 1) x r between) (sym same) one)
    first_so one false answered again = absurd (true≢false (sym answered))

-- ---- and all of them

unfoldable pub objects_from : ℕ → ℕ → List Step
objects_from first zero = []
objects_from first (suc n) = Startup first ∷ objects_from (first + 1) n

steps_written : (place first n end : ℕ) (wanted : Wanted) (result : Result (Unit {0}) StepFault)
    (r later : RingState) → ReachesAll r → IsWanted wanted → first + n ≡ end → end ≤ 16 → HasReady wanted r
    → AreDone RingTrips r place wanted (objects_from first n) result later
    → IsWritten wanted first end result r later
unfolding AreDone objects_from
steps_written place first zero end wanted result r later ring wants count few has (is, same) =
    let here : first ≡ end = omega (arith, count) in
    subst (λ (k : ℕ). IsWritten wanted first k result r later) here
    (nothing_written wanted.station (before_it wanted first) result r later is same)
steps_written place first (suc n) end wanted result r later ring wants count few has
    (Err fault, between, tried, left) =
    absurd (failed
    (tried_written place 19 first wanted (Err fault) r between ring wants (omega (arith, count, few)) has
    tried).came)
  where
    failed : Err fault ≡ (let fine : Result (Unit {0}) MasterFault = Ok tt in fine) → ⊥
    failed is = absurd (cc)
steps_written place first (suc n) end wanted result r later ring wants count few has
    (Ok did, between, tried, left) =
    let one : IsWritten wanted first (first + 1) (Ok did) r between =
    tried_written place 19 first wanted (Ok did) r between ring wants (omega (arith, count, few)) has tried in
    let reached : ReachesAll between =
    within_keeps _ r between ring
    (tried_within RingTrips 19 r between place wanted (Startup first) (Ok did) tried) in
    let more : IsWritten wanted (first + 1) end result between later =
    steps_written place (first + 1) n end wanted result between later reached wants (omega (arith, count)) few
    (one.ready wanted has) left in
    record {
      came = more.came;
      ready = λ other so. more.ready other (one.ready other so);
      own = λ kept. more.own (one.own kept);
      others = λ other some differ so. more.others other some differ (one.others other some differ so);
    }

-- each slave of a line is ready
abbrev pub AreReady : List Wanted → RingState → Type 0
AreReady line r = AllByRecursion (λ (wanted : Wanted). HasReady wanted r) line

-- a line of which all were written
pub record LineWritten (line : List Wanted) (result : Result (Unit {0}) StepFault) (r later : RingState)
    : Type 0 where
  pub came : result ≡ Ok tt
  pub ready : (wanted : Wanted) → HasReady wanted r → HasReady wanted later
  pub others : (station : ℕ) (some : List (Option StartupObject))
      → AllByRecursion (λ (other : Wanted). other.station ≢ station) line → HasKept some station r
      → HasKept some station later
  pub kept : AllKept line later

pub still_ready : (line : List Wanted) (r later : RingState)
    → ((wanted : Wanted) → HasReady wanted r → HasReady wanted later) → AreReady line r → AreReady line later
still_ready [] r later stay ready = tt
still_ready (wanted ∷ line) r later stay ready =
    (stay wanted ready.0, still_ready line r later stay ready.1)

pub stay_ready : (line some : List Wanted) (result : Result (Unit {0}) StepFault) (r later : RingState)
    → LineWritten some result r later → AreReady line r → AreReady line later
stay_ready line some result r later written ready = still_ready line r later written.ready ready

-- at first none was written
none_yet : (wanted : Wanted) (r : RingState) → HasReady wanted r → HasKept [] wanted.station r
none_yet wanted r has =
    such_as (IsReady wanted) (Keeps []) wanted.station r.slaves (λ s so. inl tt) has

pub line_written : (place : ℕ) (line : List Wanted) (result : Result (Unit {0}) StepFault)
    (r later : RingState) → ReachesAll r → AreWanted line → AreReady line r
    → Brings RingTrips r place line (objects_from 0 16) result later
    → LineWritten line result r later
unfolding Brings
line_written place [] result r later ring are ready (is, same) = record {
  came = is;
  ready = λ wanted so. subst (λ (x : RingState). HasReady wanted x) (sym same) so;
  others = λ station some differ so. subst (λ (x : RingState). HasKept some station x) (sym same) so;
  kept = tt;
}
line_written place (wanted ∷ rest) result r later ring are ready (Err fault, between, done, left) =
    absurd (failed
    (steps_written place 0 16 16 wanted (Err fault) r between ring are.0 refl (omega arith) ready.0
    done).came)
  where
    failed : Err fault ≡ (let fine : Result (Unit {0}) StepFault = Ok tt in fine) → ⊥
    failed is = absurd (cc)
line_written place (wanted ∷ rest) result r later ring are ready (Ok did, between, done, left) =
    let one : IsWritten wanted 0 16 (Ok did) r between =
    steps_written place 0 16 16 wanted (Ok did) r between ring are.0 refl (omega arith) ready.0 done in
    let more : LineWritten rest result between later =
    line_written (place + 1) rest result between later
    (steps_reach place wanted (objects_from 0 16) (Ok did) r between ring done) are.2
    (still_ready rest r between one.ready ready.1) left in
    record {
      came = more.came;
      ready = λ other so. more.ready other (one.ready other so);
      others = λ station some differ so.
          more.others station some differ.1 (one.others station some differ.0 so);
      kept = (
        more.others wanted.station (take 16 wanted.startup) are.1 (one.own (none_yet wanted r ready.0)),
        more.kept,
      );
    }
