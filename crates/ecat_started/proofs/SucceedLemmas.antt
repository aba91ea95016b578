-- A start of a ring whose slaves fit what is wanted of them fails in none of its parts.
use Rattle.std.proofs.Common.{◌≡◌, ◌<◌, ◌≤◌, ℕ, suc, ◌+◌, ◌-◌, List, [], ◌∷◌, ◌++◌, length, map, drop, take}
use Rattle.std.proofs.Common.{Option, None, Some, Result, Ok, Err, refl, sym, ap, ◌∙◌, subst, arith, inl}
use Rattle.std.proofs.lemmas.List.{length-drop, length-take-le, take-append-drop}
use Rattle.ec_app.specs.State.{SlaveState}
use Rattle.ec_diag.specs.Located.{Tells}
use Rattle.ec_diag.specs.declared.located.Located.{Located}
use Rattle.ec_master.specs.RingTrips.{RingTrips}
use Rattle.ec_regs.proofs.Laws.{each-drop, each-take}
use Rattle.ec_ring.specs.Ring.{RingState}
use Rattle.ec_ring.specs.declared.links.Links.{Links}
use Rattle.ec_ring.specs.declared.links.TheConstants.{MAX_SLAVES}
use Rattle.ec_run.specs.Phase.{Brings, steps_of}
use Rattle.ec_run.specs.Watched.{WatchedState, WatchedTrips}
use Rattle.ec_run.specs.declared.phase.Phase.{Phase}
use Rattle.ec_run.specs.declared.phase.Phase.TheVariants.{Init, PreOp, Startup, SafeOp, Op}
use Rattle.ec_run.specs.declared.phase.StepFault.{StepFault}
use Rattle.ec_run.specs.declared.step.Step.TheVariants.{Station, StationBefore, StationBehind}
use Rattle.ec_run.specs.declared.wanted.Wanted.{Wanted}
use Rattle.ec_services.specs.declared.fault.MasterFault.{MasterFault}
use Rattle.ec_over_ring.specs.Brought.{HaveAddresses, ReachesAll}
use Rattle.ec_over_ring.specs.Fit.{HaveNoObjects, IsFitFor}
use Rattle.ec_over_ring.specs.Heard.{HeardRing}
use Rattle.ec_over_ring.specs.Started.{AreWanted}
use Rattle.ec_over_ring.proofs.Laws.{AreAddressed, AreAlike, AreAsFound, AreWilling, AtFirst, Goes, InInit}
use Rattle.ec_over_ring.proofs.Laws.{InPreOp, InSafeOp, IsOnItsWay, IsReadyFor, IsStillThere, MayTake, Paired}
use Rattle.ec_over_ring.proofs.Laws.{all_addressed, before_addressed, behind_addressed, first_stage}
use Rattle.ec_over_ring.proofs.Laws.{fits_still, init_done, init_keeps, init_willing, objects_done, op_done}
use Rattle.ec_over_ring.proofs.Laws.{pre_op_done, pre_op_keeps, pre_op_willing, safe_op_done, there_then}
use Rattle.ec_over_ring.proofs.Laws.{way_then, willing_first}
use Rattle.ecat_master.specs.Course.{IsLookedOver}
use Rattle.ecat_master.specs.Identities.{AreIdentitiesCompared, WantedIdentity}
use Rattle.ecat_master.specs.Start.{AreCounted, BringsThrough, GivesStations, HasFailed, IsAddressed, IsCable}
use Rattle.ecat_master.specs.Start.{IsCaused, IsFound, IsInPreOp, IsMiscounted, IsUnanswered, gap_of}
use Rattle.ecat_master.specs.declared.identity.OtherSlave.{OtherSlave}
use Rattle.ecat_master.specs.declared.startup.StartFault.{StartFault}
use Rattle.ecat_master.specs.declared.startup.StartFault.TheVariants.{Ask, Count, Cable, Step, Identity}
use Rattle.ecat_started.specs.Startable.{AreFit, AreGiven, AreTaking, CanBeStarted, HaveIdentities}
use Rattle.ecat_started.specs.Startable.{IsToldRight}
use Rattle.ecat_started.proofs.CableLemmas.{AreHeard, HasBreak, HasSome, IsParted, break_of, cable_of}
use Rattle.ecat_started.proofs.CableLemmas.{has_gap, looks_tell, no_gap}
use Rattle.ecat_started.proofs.IdentityLemmas.{AreTelling, first_telling, identities_so, never_err}
use Rattle.ecat_started.proofs.IdentityLemmas.{still_telling}
use Rattle.ecat_started.proofs.ThereLemmas.{all_counted, looks_way, on_its_way, ring_brings}

-- ---- by places

fit_size : (line : List Wanted) (ss : List SlaveState) → AreFit line ss → length ss ≡ length line
fit_size [] [] fit = refl
fit_size (w ∷ ws) (s ∷ ss) fit = ap (λ (n : ℕ). suc n) (fit_size ws ss fit.1)
fit_size [] (s ∷ ss) fit = absurd fit
fit_size (w ∷ ws) [] fit = absurd fit

fit_still : (line : List Wanted) (ss ts : List SlaveState) → AreFit line ss → AreAlike ss ts
    → Paired IsFitFor line ts
unfolding AreAlike Paired
fit_still [] [] [] fit alike = tt
fit_still (w ∷ ws) (s ∷ ss) (t ∷ ts) fit alike =
    (fits_still w s t alike.0.needs_are fit.0, fit_still ws ss ts fit.1 alike.1)
fit_still [] (s ∷ ss) ts fit alike = absurd fit
fit_still (w ∷ ws) [] ts fit alike = absurd fit
fit_still [] [] (t ∷ ts) fit alike = absurd alike
fit_still (w ∷ ws) (s ∷ ss) [] fit alike = absurd alike

taking_pairs : (line : List Wanted) (ss : List SlaveState) → AreTaking line ss → Paired MayTake line ss
unfolding Paired
taking_pairs [] [] take = tt
taking_pairs (w ∷ ws) (s ∷ ss) take = (take.0, taking_pairs ws ss take.1)
taking_pairs [] (s ∷ ss) take = absurd take
taking_pairs (w ∷ ws) [] take = absurd take

-- of a line of which none is wanted
none_wanted : (line : List Wanted) (ss : List SlaveState) → length ss ≡ length line → HaveNoObjects line
    → AreTaking line ss
none_wanted [] [] size none = tt
none_wanted (w ∷ ws) (s ∷ ss) size none = (inl none.0, none_wanted ws ss (omega (arith, size)) none.1)
none_wanted [] (s ∷ ss) size none = absurd (omega (arith, size))
none_wanted (w ∷ ws) [] size none = absurd (omega (arith, size))

addresses : (line : List Wanted) → AreWanted line → HaveAddresses line
addresses [] are = tt
addresses (wanted ∷ rest) are = (are.0.station, addresses rest are.2)

-- ---- station addresses

around : (line : List Wanted) (k : ℕ) (result : Result (Unit {0}) StepFault)
    (looked later : WatchedState RingState) → ReachesAll looked.ports → AreWanted line
    → length looked.ports.slaves ≡ length line → IsParted looked.ports.links (length looked.ports.slaves) k
    → GivesStations (WatchedTrips HeardRing) looked line (Some k) result later
    → AreAddressed line result looked.ports later.ports
around line k result looked later ring are size parted (Err fault, between, behind, left) =
    absurd (failed
    (behind_addressed k (drop k line) (Err fault) looked.ports between.ports ring
    (each-drop (λ (w : Wanted). w.station < 65536) k line (addresses line are)) parts parted.front_is
    (ring_brings looked between k (drop k line) (StationBehind k ∷ []) (Err fault) behind)).0)
  where
    inside : k < length looked.ports.slaves
    inside = parted.inside

    rest : length (drop k line) ≡ length line - k
    rest = length-drop k line

    parts : k + length (drop k line) ≡ length looked.ports.slaves
    parts = omega (arith, inside, rest, size)

    failed : Err fault ≡ (let fine : Result (Unit {0}) StepFault = Ok tt in fine) → ⊥
    failed is = absurd (cc (is))
around line k result looked later ring are size parted (Ok did, between, behind, before) =
    let inside : k < length looked.ports.slaves = parted.inside in
    let rest : length (drop k line) ≡ length line - k = length-drop k line in
    let parts : k + length (drop k line) ≡ length looked.ports.slaves = omega (arith, inside, rest, size) in
    let first = behind_addressed k (drop k line) (Ok did) looked.ports between.ports ring
    (each-drop (λ (w : Wanted). w.station < 65536) k line (addresses line are)) parts parted.front_is
    (ring_brings looked between k (drop k line) (StationBehind k ∷ []) (Ok did) behind) in
    let way : IsOnItsWay looked.ports between.ports = first.1 in
    let front : length (take k line) ≡ k = length-take-le k line (omega (arith, inside, size)) in
    let there : IsParted between.ports.links (length between.ports.slaves) k =
    subst (λ links. IsParted links (length between.ports.slaves) k) (sym way.links)
    (subst (λ (n : ℕ). IsParted looked.ports.links n k) (sym way.size) parted) in
    let second : AreAddressed (take k line ++ drop k line) result between.ports later.ports =
    before_addressed k (take k line) (drop k line) result between.ports later.ports way.ring
    (each-take (λ (w : Wanted). w.station < 65536) k line (addresses line are)) front
    (let low : k < length between.ports.slaves = there.inside in omega (arith, low)) there.front_is
    there.turning there.up first.2
    (ring_brings between later 0 (take k line) (StationBefore ∷ []) result before) in
    record {
      came = second.came;
      way = way_then looked.ports between.ports later.ports way second.way;
      stations_are = second.stations_are
          ∙ ap (λ (ws : List Wanted). map (λ (w : Wanted). w.station) ws) (take-append-drop k line);
    }

by_gap : (line : List Wanted) (cut parted : Option ℕ) (result : Result (Unit {0}) StepFault)
    (looked later : WatchedState RingState) → ReachesAll looked.ports → AreWanted line
    → length looked.ports.slaves ≡ length line
    → HasBreak looked.ports.links (length looked.ports.slaves) cut
    → gap_of (cable_of cut) (length looked.ports.slaves) ≡ parted
    → GivesStations (WatchedTrips HeardRing) looked line parted result later
    → AreAddressed line result looked.ports later.ports
by_gap line cut None result looked later ring are size broken is gives =
    all_addressed line result looked.ports later.ports ring (addresses line are) size
    (no_gap looked.ports.links (length looked.ports.slaves) cut broken is)
    (ring_brings looked later 0 line (Station ∷ []) result gives)
by_gap line cut (Some k) result looked later ring are size broken is gives =
    around line k result looked later ring are size
    (has_gap looked.ports.links (length looked.ports.slaves) k cut broken is) gives

-- ---- what was found

-- a ring of as many slaves as the line has, each of which is alike, and its cable
record IsSeen (line : List Wanted) (before r : RingState) (cut : Option ℕ) : Type 0 where
  way : IsOnItsWay before r
  there : IsStillThere before r
  size : length r.slaves ≡ length line
  broken : HasBreak r.links (length line) cut

seen_at : (line : List Wanted) (before r : RingState) (cut : Option ℕ)
    → HasBreak before.links (length line) cut → length before.slaves ≡ length line → IsOnItsWay before r
    → IsSeen line before r cut
seen_at line before r cut broken size way = record {
  way = way;
  there = on_its_way before r way;
  size = way.size ∙ size;
  broken = subst (λ (links : Links). HasBreak links (length line) cut) (sym way.links) broken;
}

-- behind the counts and the looks the cable was told as it is
record IsFoundSo (line : List Wanted) (before looked : RingState) (cut : Option ℕ) (cable : Located) : Type 0
  where
    seen : IsSeen line before looked cut
    told : cable ≡ cable_of cut

looks_so : AreHeard → (line : List Wanted) (before counted looked : WatchedState RingState) (cut : Option ℕ)
    (found : Option Located) → 0 < length line → IsSeen line before.ports counted.ports cut
    → IsLookedOver HeardRing counted (length line) found looked
    → (found ≡ Some (cable_of cut)) × IsSeen line before.ports looked.ports cut
looks_so laws line before counted looked cut found some seen looks =
    let there : IsStillThere before.ports counted.ports = seen.there in
    let way : IsOnItsWay counted.ports looked.ports =
    looks_way _ counted.ports looked.ports (length line) found there.ring looks.looks in (
      looks_tell laws _ counted.ports looked.ports (length line) cut found there.ring
          (sym seen.size) (omega (arith, some)) seen.broken looks.looks,
      record {
        way = way_then before.ports counted.ports looked.ports seen.way way;
        there = there_then before.ports counted.ports looked.ports there
            (on_its_way counted.ports looked.ports way);
        size = way.size ∙ seen.size;
        broken = subst (λ (links : Links). HasBreak links (length line) cut) (sym way.links) seen.broken;
      },
    )

found_so : AreHeard → (line : List Wanted) (before looked : WatchedState RingState) (cut : Option ℕ)
    (cable : Located) → CanBeStarted before.ports line → HasBreak before.ports.links (length line) cut
    → IsFound HeardRing before line cable looked → IsFoundSo line before.ports looked.ports cut cable
found_so laws line before looked cut cable can broken found =
    let size : length before.ports.slaves ≡ length line = fit_size line before.ports.slaves can.fit in
    let counted : WatchedState RingState = found.counted in
    let first : IsOnItsWay before.ports counted.ports =
    (all_counted before counted (Ok (length line)) can.ring found.counting).way in
    let both = looks_so laws line before counted looked cut (Some cable) found.some
    (seen_at line before.ports counted.ports cut broken size first) found.looks in
    let same : Some cable ≡ Some (cable_of cut) = both.0 in
    record { seen = both.1; told = cc (same) }

-- ---- what was given

-- behind the station addresses each slave has its own, and fits
given_so : AreHeard → (line : List Wanted) (before looked later : WatchedState RingState) (cut : Option ℕ)
    (cable : Located) (result : Result (Unit {0}) StepFault) → CanBeStarted before.ports line
    → HasBreak before.ports.links (length line) cut → IsFound HeardRing before line cable looked
    → GivesStations (WatchedTrips HeardRing) looked line (gap_of cable (length line)) result later
    → AreAddressed line result looked.ports later.ports
given_so laws line before looked later cut cable result can broken found gives =
    let so : IsFoundSo line before.ports looked.ports cut cable =
    found_so laws line before looked cut cable can broken found in
    let seen : IsSeen line before.ports looked.ports cut = so.seen in
    by_gap line cut (gap_of cable (length line)) result looked later seen.there.ring can.wanted seen.size
    (subst (λ (n : ℕ). HasBreak looked.ports.links n cut) (sym seen.size) seen.broken)
    (ap (λ (n : ℕ). gap_of (cable_of cut) n) seen.size
    ∙ ap (λ (x : Located). gap_of x (length line)) (sym so.told)) gives

-- a ring before its phases
record IsGiven (line : List Wanted) (identities : List WantedIdentity) (r : RingState) : Type 0 where
  stage : AtFirst line r
  willing : AreWilling line r
  tell : AreTelling identities line r.slaves

ready_at_first : AreHeard → (line : List Wanted) (identities : List WantedIdentity)
    (before given : WatchedState RingState) (cut : Option ℕ) (cable : Located)
    → CanBeStarted before.ports line → AreTaking line before.ports.slaves
    → HaveIdentities identities line before.ports.slaves → HasBreak before.ports.links (length line) cut
    → IsAddressed HeardRing before line cable given → IsGiven line identities given.ports
ready_at_first laws line identities before given cut cable can take have broken addressed =
    let looked : WatchedState RingState = addressed.looked in
    let so : IsFoundSo line before.ports looked.ports cut cable =
    found_so laws line before looked cut cable can broken addressed.found in
    let gave : AreAddressed line (Ok tt) looked.ports given.ports =
    given_so laws line before looked given cut cable (Ok tt) can broken addressed.found addressed.stations in
    let there : IsStillThere before.ports given.ports =
    there_then before.ports looked.ports given.ports so.seen.there
    (on_its_way looked.ports given.ports gave.way) in
    let found : AreAsFound before.ports.slaves given.ports.slaves =
    (way_then before.ports looked.ports given.ports so.seen.way gave.way).found in
    record {
      stage = first_stage line given.ports gave.way.ring can.wanted gave.stations_are
          (fit_still line before.ports.slaves given.ports.slaves can.fit there.alike);
      willing = willing_first line before.ports given.ports can.wanted gave.stations_are
          (taking_pairs line before.ports.slaves take) found;
      tell = first_telling identities line before.ports.slaves given.ports.slaves gave.stations_are
          can.wanted found have;
    }

-- ---- phases

-- a phase is done, and then the others
record ThenGoes (line : List Wanted) (Y : RingState → Type 0) (rest : List Phase)
    (result : Result (Unit {0}) StepFault) (later : WatchedState RingState) : Type 0 where
  between : WatchedState RingState
  so : Y between.ports
  left : BringsThrough (WatchedTrips HeardRing) between line rest result later

then_goes : (line : List Wanted) (X Y : RingState → Type 0) (phase : Phase) (rest : List Phase)
    (result : Result (Unit {0}) StepFault) (before later : WatchedState RingState)
    → ((did : Result (Unit {0}) StepFault) (r between : RingState) → X r
    → Brings RingTrips r 0 line (steps_of phase) did between → Goes Y did between)
    → X before.ports → BringsThrough (WatchedTrips HeardRing) before line (phase ∷ rest) result later
    → ThenGoes line Y rest result later
unfolding BringsThrough
then_goes line X Y phase rest result before later does so (Err fault, between, brings, left) =
    absurd (failed
    (does (Err fault) before.ports between.ports so
    (ring_brings before between 0 line (steps_of phase) (Err fault) brings)).came)
  where
    failed : Err fault ≡ (let fine : Result (Unit {0}) StepFault = Ok tt in fine) → ⊥
    failed is = absurd (cc)
then_goes line X Y phase rest result before later does so (Ok did, between, brings, left) = record {
  between = between;
  so = (does (Ok did) before.ports between.ports so
      (ring_brings before between 0 line (steps_of phase) (Ok did) brings)).so;
  left = left;
}

nothing_left : (line : List Wanted) (result : Result (Unit {0}) StepFault)
    (before later : WatchedState RingState)
    → BringsThrough (WatchedTrips HeardRing) before line [] result later
    → (result ≡ Ok tt) × (later ≡ before)
unfolding BringsThrough
nothing_left line result before later ends = ends

-- the slaves are in Pre-Op, and those that are wanted
record IsPreOp (line : List Wanted) (identities : List WantedIdentity) (r : RingState) : Type 0 where
  ready : IsReadyFor line r
  tell : AreTelling identities line r.slaves

record IsInit (line : List Wanted) (identities : List WantedIdentity) (r : RingState) : Type 0 where
  stage : InInit line r
  willing : AreWilling line r
  tell : AreTelling identities line r.slaves

come_to_init : (line : List Wanted) (identities : List WantedIdentity) → AreWanted line
    → (did : Result (Unit {0}) StepFault) (r between : RingState) → IsGiven line identities r
    → Brings RingTrips r 0 line (steps_of Init) did between → Goes (IsInit line identities) did between
come_to_init line identities are did r between so brings =
    let done : Goes (InInit line) did between = init_done line did r between are so.stage brings in
    record {
      came = done.came;
      so = record {
        stage = done.so;
        willing = init_willing line did r between are so.stage.ring brings so.willing;
        tell = still_telling identities line r.slaves between.slaves
            (λ P station endures has.
            init_keeps P station line did r between endures are so.stage.ring brings has) so.tell;
      };
    }

come_to_pre_op : (line : List Wanted) (identities : List WantedIdentity) → AreWanted line
    → (did : Result (Unit {0}) StepFault) (r between : RingState) → IsInit line identities r
    → Brings RingTrips r 0 line (steps_of PreOp) did between → Goes (IsPreOp line identities) did between
come_to_pre_op line identities are did r between so brings =
    let done : Goes (InPreOp line) did between = pre_op_done line did r between are so.stage brings in
    record {
      came = done.came;
      so = record {
        ready = record {
          stage = done.so;
          willing = pre_op_willing line did r between are so.stage.ring brings so.willing;
        };
        tell = still_telling identities line r.slaves between.slaves
            (λ P station endures has.
            pre_op_keeps P station line did r between endures are so.stage.ring brings has) so.tell;
      };
    }

to_pre_op : (line : List Wanted) (identities : List WantedIdentity) (result : Result (Unit {0}) StepFault)
    (given later : WatchedState RingState) → AreWanted line → IsGiven line identities given.ports
    → BringsThrough (WatchedTrips HeardRing) given line (Init ∷ PreOp ∷ []) result later
    → Goes (λ (w : WatchedState RingState). IsPreOp line identities w.ports) result later
to_pre_op line identities result given later are so brings =
    let first : ThenGoes line (IsInit line identities) (PreOp ∷ []) result later =
    then_goes line (IsGiven line identities) (IsInit line identities) Init (PreOp ∷ []) result given later
    (come_to_init line identities are) so brings in
    let second : ThenGoes line (IsPreOp line identities) [] result later =
    then_goes line (IsInit line identities) (IsPreOp line identities) PreOp [] result first.between later
    (come_to_pre_op line identities are) first.so first.left in
    let ends = nothing_left line result second.between later second.left in
    record {
      came = ends.0;
      so = subst (λ (w : WatchedState RingState). IsPreOp line identities w.ports) (sym ends.1) second.so;
    }

to_op : (line : List Wanted) (result : Result (Unit {0}) StepFault)
    (recognized later : WatchedState RingState) → AreWanted line → IsReadyFor line recognized.ports
    → BringsThrough (WatchedTrips HeardRing) recognized line (Startup ∷ SafeOp ∷ Op ∷ []) result later
    → result ≡ Ok tt
to_op line result recognized later are so brings =
    let first : ThenGoes line (InPreOp line) (SafeOp ∷ Op ∷ []) result later =
    then_goes line (IsReadyFor line) (InPreOp line) Startup (SafeOp ∷ Op ∷ []) result recognized later
    (λ did r between at does. objects_done line did r between are at.stage at.willing does) so brings in
    let second : ThenGoes line (InSafeOp line) (Op ∷ []) result later =
    then_goes line (InPreOp line) (InSafeOp line) SafeOp (Op ∷ []) result first.between later
    (λ did r between at does. safe_op_done line did r between are at does) first.so first.left in
    let third : ThenGoes line (λ (r : RingState). Unit {0}) [] result later =
    then_goes line (InSafeOp line) (λ (r : RingState). Unit {0}) Op [] result second.between later
    (λ did r between at does. record { came = op_done line did r between are at does; so = tt }) second.so
    second.left in
    (nothing_left line result third.between later third.left).0

-- ---- no cause of a fault

is_cable : (cut : Option ℕ) → IsCable (cable_of cut)
is_cable None = tt
is_cable (Some k) = tt

in_pre_op_so : AreHeard → (line : List Wanted) (identities : List WantedIdentity)
    (before in_pre_op : WatchedState RingState) (cut : Option ℕ) (cable : Located)
    → CanBeStarted before.ports line → AreTaking line before.ports.slaves
    → HaveIdentities identities line before.ports.slaves → HasBreak before.ports.links (length line) cut
    → IsInPreOp HeardRing before line cable in_pre_op → IsPreOp line identities in_pre_op.ports
in_pre_op_so laws line identities before in_pre_op cut cable can take have broken below =
    (to_pre_op line identities (Ok tt) below.given in_pre_op can.wanted
    (ready_at_first laws line identities before below.given cut cable can take have broken below.addressed)
    below.brought).so

-- and each of them is the one that is wanted
all_recognized : AreHeard → (line : List Wanted) (identities : List WantedIdentity)
    (before in_pre_op later : WatchedState RingState) (cut : Option ℕ) (cable : Located)
    (result : Result (Unit {0}) OtherSlave) → CanBeStarted before.ports line
    → AreTaking line before.ports.slaves → HaveIdentities identities line before.ports.slaves
    → HasBreak before.ports.links (length line) cut → IsInPreOp HeardRing before line cable in_pre_op
    → AreIdentitiesCompared (WatchedTrips HeardRing) in_pre_op 0 line identities result later
    → Goes (λ (w : WatchedState RingState). IsReadyFor line w.ports) result later
all_recognized laws line identities before in_pre_op later cut cable result can take have broken below
    compared =
    let so : IsPreOp line identities in_pre_op.ports =
    in_pre_op_so laws line identities before in_pre_op cut cable can take have broken below in
    identities_so line line identities 0 result in_pre_op later can.wanted
    (record { ready = so.ready; left = so.ready; tell = so.tell }) compared

never_failed : AreHeard → (line : List Wanted) (identities : List WantedIdentity)
    (before : WatchedState RingState) (cut : Option ℕ) (failed : StepFault) → CanBeStarted before.ports line
    → AreTaking line before.ports.slaves → HaveIdentities identities line before.ports.slaves
    → HasBreak before.ports.links (length line) cut → HasFailed HeardRing before line identities failed → ⊥
never_failed laws line identities before cut failed can take have broken
    (HasFailed.station cable looked later found cable_is gives) =
    never_err tt failed
    (given_so laws line before looked later cut cable (Err failed) can broken found gives).came
never_failed laws line identities before cut failed can take have broken
    (HasFailed.to_pre_op cable given later addressed brings) =
    never_err tt failed
    (to_pre_op line identities (Err failed) given later can.wanted
    (ready_at_first laws line identities before given cut cable can take have broken addressed) brings).came
never_failed laws line identities before cut failed can take have broken
    (HasFailed.to_op cable recognized later below brings) =
    never_err tt failed
    (to_op line (Err failed) recognized later can.wanted
    (all_recognized laws line identities before below.in_pre_op recognized cut cable (Ok tt) can take have
    broken below.below below.compared).so brings)

-- the slaves are counted, and nobody is missing
never_unanswered : AreHeard → (line : List Wanted) (before : WatchedState RingState) (cut : Option ℕ)
    (fault : MasterFault) → CanBeStarted before.ports line → HasBreak before.ports.links (length line) cut
    → IsUnanswered HeardRing before line fault → ⊥
never_unanswered laws line before cut fault can broken (IsUnanswered.counting later counts) =
    never_err (length before.ports.slaves) fault
    (all_counted before later (Err fault) can.ring counts).count_is
never_unanswered laws line before cut fault can broken (IsUnanswered.looking counted later counts looks is) =
    let size : length before.ports.slaves ≡ length line = fit_size line before.ports.slaves can.fit in
    let first : IsOnItsWay before.ports counted.ports =
    (all_counted before counted (Ok (length line)) can.ring counts).way in
    let none : None ≡ Some (cable_of cut) =
    (looks_so laws line before counted later cut None can.some
    (seen_at line before.ports counted.ports cut broken size first) looks).0 in
    absurd (cc (none))

never_miscounted : (line : List Wanted) (before : WatchedState RingState) (count : ℕ)
    → CanBeStarted before.ports line → IsMiscounted HeardRing before line count → ⊥
never_miscounted line before count can (IsMiscounted.too_long long is) =
    let size : length before.ports.slaves ≡ length line = fit_size line before.ports.slaves can.fit in
    let limit : length before.ports.slaves ≤ MAX_SLAVES = can.ring.slaves.limit in
    absurd (omega (arith, size, limit, long))
never_miscounted line before count can (IsMiscounted.another later counts other) =
    let size : length before.ports.slaves ≡ length line = fit_size line before.ports.slaves can.fit in
    let is : Ok count ≡ Ok (length before.ports.slaves) =
    (all_counted before later (Ok count) can.ring counts).count_is in
    let same : count ≡ length before.ports.slaves = cc (is) in
    absurd (other (same ∙ size))
never_miscounted line before count can (IsMiscounted.nobody later counts none) =
    let size : length before.ports.slaves ≡ length line = fit_size line before.ports.slaves can.fit in
    let is : Ok count ≡ Ok (length before.ports.slaves) =
    (all_counted before later (Ok count) can.ring counts).count_is in
    let same : count ≡ length before.ports.slaves = cc (is) in
    let some : 0 < length line = can.some in
    absurd (omega (arith, same, size, none, some))

no_cause : AreHeard → (line : List Wanted) (identities : List WantedIdentity)
    (before : WatchedState RingState) (cut : Option ℕ) (fault : StartFault) → CanBeStarted before.ports line
    → AreTaking line before.ports.slaves → HaveIdentities identities line before.ports.slaves
    → HasBreak before.ports.links (length line) cut → IsCaused HeardRing before line identities fault → ⊥
no_cause laws line identities before cut (Ask fault) can take have broken cause =
    never_unanswered laws line before cut fault can broken cause
no_cause laws line identities before cut (Count count) can take have broken cause =
    never_miscounted line before count can cause
no_cause laws line identities before cut (Cable located) can take have broken (later, found, other) =
    let so : IsFoundSo line before.ports later.ports cut located =
    found_so laws line before later cut located can broken found in
    other (subst IsCable (sym so.told) (is_cable cut))
no_cause laws line identities before cut (Step failed) can take have broken cause =
    never_failed laws line identities before cut failed can take have broken cause
no_cause laws line identities before cut (Identity other) can take have broken cause =
    never_err tt other
    (all_recognized laws line identities before cause.in_pre_op cause.later cut cause.cable (Err other) can
    take have broken cause.below cause.compared).came

pub never_caused : AreHeard → (line : List Wanted) (identities : List WantedIdentity)
    (before : WatchedState RingState) (fault : StartFault) → CanBeStarted before.ports line
    → AreTaking line before.ports.slaves → HaveIdentities identities line before.ports.slaves
    → IsCaused HeardRing before line identities fault → ⊥
never_caused laws line identities before fault can take have cause =
    let size : length before.ports.slaves ≡ length line = fit_size line before.ports.slaves can.fit in
    let some : HasSome before.ports.links (length before.ports.slaves) = break_of before.ports can.ring in
    no_cause laws line identities before some.gap fault can take have
    (subst (λ (n : ℕ). HasBreak before.ports.links n some.gap) size some.broken) cause

-- ---- the parts as laws

pub all_counted_right : (before later : WatchedState RingState) (count : Result ℕ MasterFault)
    → ReachesAll before.ports → AreCounted (WatchedTrips HeardRing) before count later
    → count ≡ Ok (length before.ports.slaves)
all_counted_right before later count ring counts = (all_counted before later count ring counts).count_is

tells_cable : (links : Links) (n : ℕ) (cut : Option ℕ) → HasBreak links n cut
    → Tells (cable_of cut) links n
tells_cable links n None broken = broken.is
tells_cable links n (Some k) broken = record {
  first = record {
    inside = broken.is.0;
    down = broken.is.1;
    before = λ j low.
        broken.is.2 j (let inside : k ≤ n = broken.is.0 in omega (arith, low, inside))
        (λ same. absurd (omega (arith, same, low)));
  };
  last = record {
    inside = broken.is.0;
    down = broken.is.1;
    behind = λ j high inside. broken.is.2 j inside (λ same. absurd (omega (arith, same, high)));
  };
}

pub told_right : AreHeard → (slaves : ℕ) (before later : WatchedState RingState) (found : Option Located)
    → ReachesAll before.ports → slaves ≡ length before.ports.slaves → 1 ≤ slaves
    → IsLookedOver HeardRing before slaves found later → IsToldRight before.ports.links slaves found
told_right laws slaves before later found ring size some looks =
    let has : HasSome before.ports.links (length before.ports.slaves) = break_of before.ports ring in
    let broken : HasBreak before.ports.links slaves has.gap =
    subst (λ (n : ℕ). HasBreak before.ports.links n has.gap) (sym size) has.broken in
    record {
      cable = cable_of has.gap;
      finds =
          looks_tell laws _ before.ports later.ports slaves has.gap found ring size some broken
          looks.looks;
      known = is_cable has.gap;
      so = tells_cable before.ports.links slaves has.gap broken;
    }

pub all_given : AreHeard → (line : List Wanted) (cable : Located) (result : Result (Unit {0}) StepFault)
    (before looked later : WatchedState RingState) → CanBeStarted before.ports line
    → IsFound HeardRing before line cable looked
    → GivesStations (WatchedTrips HeardRing) looked line (gap_of cable (length line)) result later
    → AreGiven line result later.ports
all_given laws line cable result before looked later can found gives =
    let size : length before.ports.slaves ≡ length line = fit_size line before.ports.slaves can.fit in
    let has : HasSome before.ports.links (length before.ports.slaves) = break_of before.ports can.ring in
    let gave : AreAddressed line result looked.ports later.ports =
    given_so laws line before looked later has.gap cable result can
    (subst (λ (n : ℕ). HasBreak before.ports.links n has.gap) size has.broken) found gives in
    record { came = gave.came; stations = gave.stations_are }

-- a line of which no startup object is wanted takes them
pub objects_of_none : (line : List Wanted) (before : WatchedState RingState) → CanBeStarted before.ports line
    → HaveNoObjects line → AreTaking line before.ports.slaves
objects_of_none line before can none =
    none_wanted line before.ports.slaves (fit_size line before.ports.slaves can.fit) none
