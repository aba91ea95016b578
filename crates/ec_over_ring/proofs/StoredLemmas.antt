-- Startup objects that were written stay stored: no request stands in the mailbox of their slave, and none
-- comes but those for later startup objects.
use Rattle.std.proofs.Common.{◌≡◌, ℕ, zero, suc, ◌+◌, ◌<◌, ◌≤◌, Bool, true, false, leb, eqb, ◌&&◌, ◌||◌, List}
use Rattle.std.proofs.Common.{[]}
use Rattle.std.proofs.Common.{◌∷◌, ◌++◌, length, take, Option, None, Some, Result, refl, sym, ap, ◌∙◌, arith}
use Rattle.std.proofs.Common.{subst}
use Rattle.std.proofs.Common.{inl, inr, ⊎_elim, true≢false}
use Rattle.std.specs.Prelude.{◌⊎◌, ◌≢◌, slice_get}
use Rattle.std.specs.List.{AllByRecursion}
use Rattle.std.proofs.lemmas.Bool.{and_from, and_parts, cases_Bool, eq-eqb, eqb-true}
use Rattle.std.proofs.lemmas.Bool.Decides.{nat_tests}
use Rattle.ec_regs.proofs.Laws.{each-back, each-front}
use Rattle.ec_wire.specs.Datagram.{ado_of}
use Rattle.ec_app.specs.Objects.{is_at}
use Rattle.ec_app.specs.State.{SlaveState}
use Rattle.ec_app.specs.declared.objects.Entry.{Entry}
use Rattle.ec_ring.specs.Ring.{RingState}
use Rattle.ec_master.specs.RingTrips.{RingTrips}
use Rattle.ec_run.specs.Phase.{Brings}
use Rattle.ec_run.specs.declared.phase.StepFault.{StepFault}
use Rattle.ec_run.specs.declared.step.Step.{Step}
use Rattle.ec_run.specs.declared.wanted.StartupObject.{StartupObject}
use Rattle.ec_run.specs.declared.wanted.Wanted.{Wanted}
use Rattle.ec_over_ring.specs.Brought.{ReachesAll}
use Rattle.ec_over_ring.specs.Fit.{AreNone, AreStored, HasStored, names_same}
use Rattle.ec_over_ring.specs.Recovery.{request_stands, value_at}
use Rattle.ec_over_ring.specs.Started.{AreWanted}
use Rattle.ec_over_ring.proofs.BroughtLemmas.{has_one}
use Rattle.ec_over_ring.proofs.CalmRingLemmas.{IsBehind}
use Rattle.ec_over_ring.proofs.MailedLemmas.{Outlasts}
use Rattle.ec_over_ring.proofs.QuietLemmas.{IsQuiet}
use Rattle.ec_over_ring.proofs.RecordsLemmas.{spares_station}
use Rattle.ec_over_ring.proofs.SettingLemmas.{AllLeave, StepLeaves, begins, begins_high, ends, is_setting}
use Rattle.ec_over_ring.proofs.SparedLemmas.{HasSuch, IsBesideMark, IsSuch, such_one}
use Rattle.ec_over_ring.proofs.StartedLemmas.{LineLeaves, clear_numbers, line_keeps}

-- ---- one more

-- the last of a list, if there is one
abbrev pub shown : Option (Option StartupObject) → List (Option StartupObject)
shown None = []
shown (Some o) = o ∷ []

pub take_more : (n : ℕ) (xs : List (Option StartupObject))
    → take (suc n) xs ≡ take n xs ++ shown (slice_get xs n)
take_more zero [] = refl
take_more (suc n) [] = refl
take_more zero (x ∷ xs) = refl
take_more (suc n) (x ∷ xs) = ap (λ (ys : List (Option StartupObject)). x ∷ ys) (take_more n xs)

abbrev Differs : StartupObject → Option StartupObject → Type 0
Differs o p = elim p [ None ↦ Unit {0} | Some other ↦ names_same o other ≡ false ]

-- where no object is wanted at its number
none_more : (done : List (Option StartupObject)) (es : List Entry) → AreStored done es
    → AreStored (done ++ None ∷ []) es
none_more [] es stored = tt
none_more (None ∷ done) es stored = none_more done es stored
none_more (Some o ∷ done) es stored = (
  (λ last. stored.0 (each-front (Differs o) done (None ∷ []) last)),
  none_more done es stored.1,
)

-- an object that does not name the one that another names
apart_of : (o p : StartupObject) → names_same o p ≡ false → (f : Entry) → is_at o.index o.sub f ≡ true
    → is_at p.index p.sub f ≡ false
apart_of o p differ f at =
    ⊎_elim
    (λ (both : is_at p.index p.sub f ≡ true).
    let o_parts = and_parts (eqb f.index o.index) (eqb f.sub o.sub) at in
    let p_parts = and_parts (eqb f.index p.index) (eqb f.sub p.sub) both in
    let a : f.index ≡ o.index = eqb-true f.index o.index o_parts.0 in
    let b : f.sub ≡ o.sub = eqb-true f.sub o.sub o_parts.1 in
    let c : f.index ≡ p.index = eqb-true f.index p.index p_parts.0 in
    let d : f.sub ≡ p.sub = eqb-true f.sub p.sub p_parts.1 in
    let same : names_same o p ≡ true =
    and_from _ _ (eq-eqb o.index p.index (sym a ∙ c)) (eq-eqb o.sub p.sub (sym b ∙ d)) in
    absurd (true≢false (sym same ∙ differ)))
    (λ (other : is_at p.index p.sub f ≡ false). other)
    (cases_Bool (is_at p.index p.sub f))

-- where one is written
some_more : (done : List (Option StartupObject)) (o : StartupObject) (es fs : List Entry) → AreStored done es
    → value_at o.index o.sub fs ≡ Some o.value
    → ((i j : ℕ) → ((f : Entry) → is_at i j f ≡ true → is_at o.index o.sub f ≡ false)
    → value_at i j fs ≡ value_at i j es)
    → AreStored (done ++ Some o ∷ []) fs
some_more [] o es fs stored held others = ((λ last. held), tt)
some_more (None ∷ done) o es fs stored held others = some_more done o es fs stored held others
some_more (Some p ∷ done) o es fs stored held others = (
  (λ last. others p.index p.sub (apart_of p o (each-back (Differs p) done (Some o ∷ []) last).0)
      ∙ stored.0 (each-front (Differs p) done (Some o ∷ []) last)),
  some_more done o es fs stored.1 held others,
)

-- the first of them
first_more : (done : List (Option StartupObject)) (o : StartupObject) (fs : List Entry) → AreNone done
    → value_at o.index o.sub fs ≡ Some o.value → AreStored (done ++ Some o ∷ []) fs
first_more [] o fs none held = ((λ last. held), tt)
first_more (x ∷ done) o fs none held =
    subst (λ (y : Option StartupObject). AreStored (y ∷ (done ++ Some o ∷ [])) fs) (sym none.0)
    (first_more done o fs none.1 held)

none_longer : (done : List (Option StartupObject)) → AreNone done → AreNone (done ++ None ∷ [])
none_longer [] none = (refl, tt)
none_longer (x ∷ done) none = (none.0, none_longer done none.1)

-- ---- a slave that keeps them

-- none was written, or no request stands in it and they are stored
abbrev pub Keeps : List (Option StartupObject) → SlaveState → Type 0
Keeps done s = AreNone done ⊎ ((request_stands s ≡ false) × AreStored done s.application.objects)

keeps_quiet : (done : List (Option StartupObject)) (s t : SlaveState)
    → (request_stands s ≡ false → IsQuiet s t) → Keeps done s → Keeps done t
keeps_quiet done s t quiet (inl none) = inl none
keeps_quiet done s t quiet (inr (empty, stored)) =
    let so : IsQuiet s t = quiet empty in
    inr (so.none, subst (λ (es : List Entry). AreStored done es) (sym so.objects) stored)

-- another slave's call leaves it so
pub keeps_outlasts : (done : List (Option StartupObject)) (station to : ℕ) → to ≢ station
    → Outlasts (Keeps done) station to
unfolding Outlasts
keeps_outlasts done station to other s t is mailed keeps =
    keeps_quiet done s t (mailed.quiet (λ same. other (same ∙ is))) keeps

-- its own adds one
pub keeps_behind : (done : List (Option StartupObject)) (o : StartupObject) (s x : SlaveState)
    → IsBehind o.index o.sub o.value s x → Keeps done s → Keeps (done ++ Some o ∷ []) x
keeps_behind done o s x behind (inl none) =
    inr (behind.none, first_more done o x.application.objects none behind.held)
keeps_behind done o s x behind (inr (empty, stored)) =
    inr (
      behind.none,
      some_more done o s.application.objects x.application.objects stored behind.held
          (λ i j apart. behind.others empty i j apart),
    )

pub keeps_none : (done : List (Option StartupObject)) (s : SlaveState) → Keeps done s
    → Keeps (done ++ None ∷ []) s
keeps_none done s (inl none) = inl (none_longer done none)
keeps_none done s (inr (empty, stored)) = inr (empty, none_more done s.application.objects stored)

abbrev pub HasKept : List (Option StartupObject) → ℕ → RingState → Type 0
HasKept done station r = HasSuch (Keeps done) station r.slaves

-- ---- the later phases

-- a step whose registers are beside the status of the mailbox of requests
unfoldable pub is_aside : Step → Bool
is_aside y = is_setting y && ((leb (ends y) 2053 || leb 2054 (begins y)) && leb (ends y) 4095)

aside_left : (done : List (Option StartupObject)) (station : ℕ) (y : Step) (other : ℕ) → is_setting y ≡ true
    → (ends y ≤ 2053) ⊎ (2054 ≤ begins y) → ends y ≤ 4095 → StepLeaves (Keeps done) station other y
unfolding StepLeaves
aside_left done station y other sets beside low d range = record {
  by_station = range.by_station;
  address = spares_station other (begins y) (ends y) d (begins_high y sets) range;
  keeps = λ s t is follow so. keeps_quiet done s t (follow.quiet (inr aside)) so;
}
  where
    from : begins y ≤ ado_of d.address
    from = range.from

    to : ado_of d.address + length d.payload ≤ ends y
    to = range.to

    past : (ends y ≤ 2053) ⊎ (2054 ≤ begins y)
        → (2053 < ado_of d.address) ⊎ (ado_of d.address + length d.payload ≤ 2053)
    past (inl before) = inr (omega (arith, before, to))
    past (inr behind) = inl (omega (arith, behind, from))

    aside : IsBesideMark d.address (length d.payload)
    aside = record { register = omega (arith, to, low); beside = past beside }

unfoldable pub each_aside : List Step → Bool
each_aside [] = true
each_aside (y ∷ ys) = is_aside y && each_aside ys

all_aside : (done : List (Option StartupObject)) (station other : ℕ) (ys : List Step) → each_aside ys ≡ true
    → AllLeave (Keeps done) station other ys
unfolding each_aside is_aside AllLeave
all_aside done station other [] aside = tt
all_aside done station other (y ∷ ys) aside =
    let parts = and_parts (is_aside y) (each_aside ys) aside in
    let one = and_parts (is_setting y) ((leb (ends y) 2053 || leb 2054 (begins y)) && leb (ends y) 4095)
    parts.0 in
    let two = and_parts (leb (ends y) 2053 || leb 2054 (begins y)) (leb (ends y) 4095) one.1 in
    let test : leb (ends y) 4095 ≡ true = two.1 in
    let low : ends y ≤ 4095 = grind (arith, nat_tests) in (
      (
        one.0,
        aside_left done station y other one.0 (clear_numbers (ends y) 2053 2054 (begins y) two.0) low,
      ),
      all_aside done station other ys parts.1,
    )

line_aside : (done : List (Option StartupObject)) (station : ℕ) (ys : List Step) (line : List Wanted)
    → AreWanted line → each_aside ys ≡ true → LineLeaves (Keeps done) station ys line
unfolding LineLeaves
line_aside done station ys [] are aside = tt
line_aside done station ys (other ∷ rest) are aside =
    ((are.0, all_aside done station other.station ys aside), line_aside done station ys rest are.2 aside)

-- each slave of a line keeps all of its own
abbrev pub AllKept : List Wanted → RingState → Type 0
AllKept line r =
    AllByRecursion (λ (wanted : Wanted). HasKept (take 16 wanted.startup) wanted.station r) line

pub stay_kept : (ys : List Step) (some line : List Wanted) (result : Result (Unit {0}) StepFault)
    (r later : RingState) → ReachesAll r → AreWanted line → each_aside ys ≡ true
    → Brings RingTrips r 0 line ys result later → AllKept some r → AllKept some later
stay_kept ys [] line result r later ring are aside brings kept = tt
stay_kept ys (wanted ∷ some) line result r later ring are aside brings kept = (
  line_keeps (Keeps (take 16 wanted.startup)) wanted.station 0 line ys result r later ring
      (line_aside (take 16 wanted.startup) wanted.station ys line are aside) brings kept.0,
  stay_kept ys some line result r later ring are aside brings kept.1,
)

-- so they are stored
none_stored : (done : List (Option StartupObject)) (es : List Entry) → AreNone done → AreStored done es
none_stored [] es none = tt
none_stored (x ∷ done) es none =
    subst (λ (y : Option StartupObject). AreStored (y ∷ done) es) (sym none.0) (none_stored done es none.1)

kept_stored : (done : List (Option StartupObject)) (s : SlaveState) → Keeps done s
    → AreStored done s.application.objects
kept_stored done s (inl none) = none_stored done s.application.objects none
kept_stored done s (inr kept) = kept.1

pub have_stored : (line : List Wanted) (r : RingState) → ReachesAll r → AreWanted line → AllKept line r
    → AllByRecursion (HasStored r) line
have_stored [] r ring are kept = tt
have_stored (wanted ∷ rest) r ring are kept =
    let done : List (Option StartupObject) = take 16 wanted.startup in
    let is : IsSuch (Keeps done) wanted.station r.slaves = such_one (Keeps done) wanted.station r.slaves
    kept.0 in (
      record {
        before = is.one.before;
        slave = is.one.slave;
        behind = is.one.behind;
        has = has_one wanted.station r ring are.0.station is.one;
        stored = kept_stored done is.one.slave is.such;
      },
      have_stored rest r ring are.2 kept.1,
    )
