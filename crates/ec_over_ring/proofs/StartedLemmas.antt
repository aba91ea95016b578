-- A line whose records were set and whose slaves were asked for Op: what stands of it in the end.
use Rattle.std.proofs.Common.{◌≡◌, ℕ, ◌+◌, ◌≤◌, Bool, true, false, leb, ◌&&◌, ◌||◌, List, []}
use Rattle.std.proofs.Common.{◌∷◌, Result, Ok, Err, refl, sym, ap, ◌∙◌, arith, subst, inl, inr}
use Rattle.std.proofs.Common.{⊎_elim}
use Rattle.std.specs.Prelude.{◌≢◌, ◌⊎◌}
use Rattle.std.specs.List.{AllByRecursion}
use Rattle.std.proofs.lemmas.Bool.{and_parts, cases_Bool}
use Rattle.std.proofs.lemmas.Bool.Decides.{nat_tests}
use Rattle.ec_regs.specs.declared.al.AlState.TheVariants as state
use Rattle.ec_app.specs.State.{SlaveState}
use Rattle.ec_ring.specs.Ring.{RingState}
use Rattle.ec_master.specs.RingTrips.{RingTrips}
use Rattle.ec_run.specs.Phase.{AreDone, Brings, steps_of}
use Rattle.ec_run.specs.Travels.{IsWithin}
use Rattle.ec_run.specs.declared.phase.Phase.TheVariants.{SafeOp, Op}
use Rattle.ec_run.specs.declared.phase.StepFault.{StepFault}
use Rattle.ec_run.specs.declared.step.Step.{Step}
use Rattle.ec_run.specs.declared.step.Step.TheVariants.{State}
use Rattle.ec_run.specs.declared.wanted.Wanted.{Wanted}
use Rattle.ec_run.proofs.Laws.{EndsWith, are_done_within, brings_within, tried_ends, tried_within}
use Rattle.ec_over_ring.specs.Brought.{AreAllIn, HaveAddresses, IsAloneIn, ReachesAll}
use Rattle.ec_over_ring.specs.Started.{AreWanted, HoldsSet, IsSetUp, IsWanted}
use Rattle.ec_over_ring.proofs.BroughtLemmas.{has_one}
use Rattle.ec_over_ring.proofs.LineBroughtLemmas.{IsThere, all_entered, has_there}
use Rattle.ec_over_ring.proofs.SettingLemmas.{AllLeave, begins, ends, held_to, is_setting, set_left}
use Rattle.ec_over_ring.proofs.SettingLemmas.{step_stands, steps_keep}
use Rattle.ec_over_ring.proofs.SparedLemmas.{HasSuch, IsSuch, such_as, such_both}
use Rattle.ec_over_ring.proofs.SparedLemmas.{such_one}
use Rattle.ec_over_ring.proofs.TripKeepsLemmas.{within_keeps}

-- ---- steps that do not undo each other

-- a step leaves the record of an earlier one of the same slave
unfoldable pub is_clear : Step → Step → Bool
is_clear x y = leb (held_to x) (begins y) || leb (ends y) (begins x)

unfoldable pub all_clear : Step → List Step → Bool
all_clear x [] = true
all_clear x (y ∷ ys) = is_clear x y && all_clear x ys

-- and each of some those before it
unfoldable pub each_clear : List Step → Bool
each_clear [] = true
each_clear (x ∷ xs) = is_setting x && (all_clear x xs && each_clear xs)

pub clear_numbers : (a b c d : ℕ) → (leb a b || leb c d) ≡ true → (a ≤ b) ⊎ (c ≤ d)
clear_numbers a b c d is =
    ⊎_elim
    (λ (first : leb a b ≡ true). let less : a ≤ b = grind (arith, nat_tests) in inl less)
    (λ (other : leb a b ≡ false).
    let second : leb c d ≡ true = sym (ap (λ (t : Bool). t || leb c d) other) ∙ is in
    let less : c ≤ d = grind (arith, nat_tests) in inr less)
    (cases_Bool (leb a b))

-- ---- what holds of a slave stays while a line is gone through

-- it holds while the steps are done with the slaves of a line
unfoldable pub LineLeaves : (SlaveState → Type 0) → ℕ → List Step → List Wanted → Type 0
LineLeaves P station ys line =
    AllByRecursion (λ (wanted : Wanted). IsWanted wanted × AllLeave P station wanted.station ys) line

pub steps_reach : (place : ℕ) (wanted : Wanted) (ys : List Step) (result : Result (Unit {0}) StepFault)
    (r later : RingState) → ReachesAll r → AreDone RingTrips r place wanted ys result later
    → ReachesAll later
steps_reach place wanted ys result r later ring done =
    within_keeps _ r later ring (are_done_within RingTrips r later place wanted ys result done)

pub line_keeps : (P : SlaveState → Type 0) (station place : ℕ) (line : List Wanted) (ys : List Step)
    (result : Result (Unit {0}) StepFault) (r later : RingState) → ReachesAll r
    → LineLeaves P station ys line → Brings RingTrips r place line ys result later
    → HasSuch P station r.slaves → HasSuch P station later.slaves
unfolding Brings LineLeaves
line_keeps P station place [] ys result r later ring leave (is, same) has =
    subst (λ (x : RingState). HasSuch P station x.slaves) (sym same) has
line_keeps P station place (wanted ∷ rest) ys result r later ring leave
    (Err fault, between, done, (is, same)) has =
    subst (λ (x : RingState). HasSuch P station x.slaves) (sym same)
    (steps_keep P station place wanted ys (Err fault) r between ring leave.0.0 leave.0.1 done has)
line_keeps P station place (wanted ∷ rest) ys result r later ring leave (Ok did, between, done, left) has =
    line_keeps P station (place + 1) rest ys result between later
    (steps_reach place wanted ys (Ok did) r between ring done) leave.1 left
    (steps_keep P station place wanted ys (Ok did) r between ring leave.0.0 leave.0.1 done has)

-- ---- the records of one slave

-- the slave with a station holds what a step sets
abbrev pub Stands : Wanted → Step → RingState → Type 0
Stands wanted x r =
    HasSuch (λ (s : SlaveState). HoldsSet wanted s.controller.memory x) wanted.station r.slaves

-- all of its later steps leave it
later_left : (wanted : Wanted) (x : Step) (ys : List Step) → IsWanted wanted → all_clear x ys ≡ true
    → each_clear ys ≡ true
    → AllLeave (λ (s : SlaveState). HoldsSet wanted s.controller.memory x) wanted.station wanted.station ys
unfolding AllLeave all_clear each_clear is_clear
later_left wanted x [] wants clear each = tt
later_left wanted x (y ∷ ys) wants clear each =
    let one = and_parts (is_clear x y) (all_clear x ys) clear in
    let own = and_parts (is_setting y) (all_clear y ys && each_clear ys) each in
    let rest = and_parts (all_clear y ys) (each_clear ys) own.1 in (
      (
        own.0,
        set_left wanted x y wanted.station wants own.0
            (inr (clear_numbers (held_to x) (begins y) (ends y) (begins x) one.0)),
      ),
      later_left wanted x ys wants one.1 rest.1,
    )

pub slave_stands : (place : ℕ) (wanted : Wanted) (ys : List Step) (r later : RingState) → ReachesAll r
    → IsWanted wanted → each_clear ys ≡ true → AreDone RingTrips r place wanted ys (Ok tt) later
    → AllByRecursion (λ (x : Step). Stands wanted x later) ys
unfolding AreDone each_clear
slave_stands place wanted [] r later ring wants each done = tt
slave_stands place wanted (x ∷ ys) r later ring wants each (Err fault, between, tried, (is, same)) =
    absurd (cc)
slave_stands place wanted (x ∷ ys) r later ring wants each (Ok did, between, tried, left) =
    let own = and_parts (is_setting x) (all_clear x ys && each_clear ys) each in
    let rest = and_parts (all_clear x ys) (each_clear ys) own.1 in
    let P : SlaveState → Type 0 = λ (s : SlaveState). HoldsSet wanted s.controller.memory x in
    let reached : ReachesAll between =
    within_keeps _ r between ring (tried_within RingTrips 19 r between place wanted x (Ok did) tried) in
    let end : EndsWith RingTrips r place wanted x between =
    tried_ends RingTrips 19 r between place wanted x tried in
    let now : Stands wanted x between =
    step_stands place wanted x end.between between (within_keeps end.most r end.between ring end.within) wants
    own.0 end.done in (
      steps_keep P wanted.station place wanted ys (Ok tt) between later reached wants
          (later_left wanted x ys wants rest.0 rest.1) left now,
      slave_stands place wanted ys between later reached wants rest.1 left,
    )

-- ---- the records of a line

-- each of these steps sets a record or asks for a state
pub all_setting : (ys : List Step) → each_clear ys ≡ true
    → AllByRecursion (λ (y : Step). is_setting y ≡ true) ys
unfolding each_clear
all_setting [] each = tt
all_setting (y ∷ ys) each =
    let own = and_parts (is_setting y) (all_clear y ys && each_clear ys) each in
    (own.0, all_setting ys (and_parts (all_clear y ys) (each_clear ys) own.1).1)

others_left : (wanted : Wanted) (x : Step) (other : ℕ) (ys : List Step) → IsWanted wanted
    → other ≢ wanted.station → AllByRecursion (λ (y : Step). is_setting y ≡ true) ys
    → AllLeave (λ (s : SlaveState). HoldsSet wanted s.controller.memory x) wanted.station other ys
unfolding AllLeave
others_left wanted x other [] wants differ sets = tt
others_left wanted x other (y ∷ ys) wants differ sets = (
  (sets.0, set_left wanted x y other wants sets.0 (inl differ)),
  others_left wanted x other ys wants differ sets.1,
)

rest_left : (wanted : Wanted) (x : Step) (ys : List Step) (line : List Wanted) → IsWanted wanted
    → AllByRecursion (λ (y : Step). is_setting y ≡ true) ys
    → AllByRecursion (λ (other : Wanted). other.station ≢ wanted.station) line → AreWanted line
    → LineLeaves (λ (s : SlaveState). HoldsSet wanted s.controller.memory x) wanted.station ys line
unfolding LineLeaves
rest_left wanted x ys [] wants sets differ are = tt
rest_left wanted x ys (other ∷ rest) wants sets differ are = (
  (are.0, others_left wanted x other.station ys wants differ.0 sets),
  rest_left wanted x ys rest wants sets differ.1 are.2,
)

-- what stands of one slave stays behind the rest of the line
pub all_stay : (wanted : Wanted) (place : ℕ) (xs ys : List Step) (line : List Wanted)
    (result : Result (Unit {0}) StepFault) (r later : RingState) → ReachesAll r
    → AllByRecursion (λ (x : Step).
    LineLeaves (λ (s : SlaveState). HoldsSet wanted s.controller.memory x) wanted.station ys line) xs
    → Brings RingTrips r place line ys result later → AllByRecursion (λ (x : Step). Stands wanted x r) xs
    → AllByRecursion (λ (x : Step). Stands wanted x later) xs
all_stay wanted place [] ys line result r later ring leave brings stand = tt
all_stay wanted place (x ∷ xs) ys line result r later ring leave brings stand = (
  line_keeps (λ (s : SlaveState). HoldsSet wanted s.controller.memory x) wanted.station place line ys result
      r later ring leave.0 brings stand.0,
  all_stay wanted place xs ys line result r later ring leave.1 brings stand.1,
)

all_left : (wanted : Wanted) (xs ys : List Step) (line : List Wanted) → IsWanted wanted
    → AllByRecursion (λ (y : Step). is_setting y ≡ true) ys
    → AllByRecursion (λ (other : Wanted). other.station ≢ wanted.station) line → AreWanted line
    → AllByRecursion (λ (x : Step).
    LineLeaves (λ (s : SlaveState). HoldsSet wanted s.controller.memory x) wanted.station ys line) xs
all_left wanted [] ys line wants sets differ are = tt
all_left wanted (x ∷ xs) ys line wants sets differ are =
    (rest_left wanted x ys line wants sets differ are, all_left wanted xs ys line wants sets differ are)

abbrev pub LineStands : List Step → List Wanted → RingState → Type 0
LineStands xs line r =
    AllByRecursion (λ (wanted : Wanted). AllByRecursion (λ (x : Step). Stands wanted x r) xs) line

pub line_stands : (place : ℕ) (ys : List Step) (line : List Wanted) (r later : RingState) → ReachesAll r
    → AreWanted line → each_clear ys ≡ true → Brings RingTrips r place line ys (Ok tt) later
    → LineStands ys line later
unfolding Brings
line_stands place ys [] r later ring are each brings = tt
line_stands place ys (wanted ∷ rest) r later ring are each (Err fault, between, done, (is, same)) =
    absurd (cc)
line_stands place ys (wanted ∷ rest) r later ring are each (Ok did, between, done, left) =
    let reached : ReachesAll between = steps_reach place wanted ys (Ok did) r between ring done in (
      all_stay wanted (place + 1) ys ys rest (Ok tt) between later reached
          (all_left wanted ys ys rest are.0 (all_setting ys each) are.1 are.2) left
          (slave_stands place wanted ys r between ring are.0 each done),
      line_stands (place + 1) ys rest between later reached are.2 each left,
    )

-- ---- and behind the last phase

-- none of the records lies where AL control and AL status do
unfoldable pub op_clear : (xs : List Step) → Bool
op_clear [] = true
op_clear (x ∷ xs) = is_clear x (State state.Op) && op_clear xs

op_left : (wanted : Wanted) (x : Step) (line : List Wanted) → IsWanted wanted
    → is_clear x (State state.Op) ≡ true → AreWanted line
    → LineLeaves (λ (s : SlaveState). HoldsSet wanted s.controller.memory x) wanted.station
    (State state.Op ∷ []) line
unfolding LineLeaves AllLeave is_clear is_setting
op_left wanted x [] wants clear are = tt
op_left wanted x (other ∷ rest) wants clear are = (
  (
    are.0,
    (
      (
        refl,
        set_left wanted x (State state.Op) other.station wants refl
            (inr (clear_numbers (held_to x) (begins (State state.Op)) (ends (State state.Op)) (begins x)
            clear)),
      ),
      tt,
    ),
  ),
  op_left wanted x rest wants clear are.2,
)

all_op_left : (wanted : Wanted) (xs : List Step) (line : List Wanted) → IsWanted wanted
    → op_clear xs ≡ true → AreWanted line
    → AllByRecursion (λ (x : Step). LineLeaves (λ (s : SlaveState). HoldsSet wanted s.controller.memory x)
    wanted.station (State state.Op ∷ []) line) xs
unfolding op_clear
all_op_left wanted [] line wants clear are = tt
all_op_left wanted (x ∷ xs) line wants clear are =
    let parts = and_parts (is_clear x (State state.Op)) (op_clear xs) clear in
    (op_left wanted x line wants parts.0 are, all_op_left wanted xs line wants parts.1 are)

pub line_stays : (xs : List Step) (some line : List Wanted) (r later : RingState) → ReachesAll r
    → AreWanted line → op_clear xs ≡ true → AreWanted some
    → Brings RingTrips r 0 line (State state.Op ∷ []) (Ok tt) later → LineStands xs some r
    → LineStands xs some later
line_stays xs [] line r later ring are clear wants brings stand = tt
line_stays xs (wanted ∷ rest) line r later ring are clear wants brings stand = (
  all_stay wanted 0 xs (State state.Op ∷ []) line (Ok tt) r later ring
      (all_op_left wanted xs line wants.0 clear are) brings stand.0,
  line_stays xs rest line r later ring are clear wants.2 brings stand.1,
)

-- ---- a slave that is set up

-- one slave has all that each says
pub record HasAll (P : SlaveState → Type 0) (wanted : Wanted) (xs : List Step) (s : SlaveState) : Type 0 where
  pub such : P s
  pub all : AllByRecursion (HoldsSet wanted s.controller.memory) xs

pub gathered : (P : SlaveState → Type 0) (wanted : Wanted) (xs : List Step) (r : RingState)
    → HasSuch P wanted.station r.slaves → AllByRecursion (λ (x : Step). Stands wanted x r) xs
    → HasSuch (HasAll P wanted xs) wanted.station r.slaves
gathered P wanted [] r has stand =
    such_as P (HasAll P wanted []) wanted.station r.slaves (λ s such. record { such = such; all = tt }) has
gathered P wanted (x ∷ xs) r has stand =
    let rest : HasSuch (HasAll P wanted xs) wanted.station r.slaves =
    gathered P wanted xs r has stand.1 in
    such_as (λ s. HoldsSet wanted s.controller.memory x × HasAll P wanted xs s) (HasAll P wanted (x ∷ xs))
    wanted.station r.slaves (λ s both. record { such = both.1.such; all = (both.0, both.1.all) })
    (such_both (λ (s : SlaveState). HoldsSet wanted s.controller.memory x) (HasAll P wanted xs) wanted.station
    r.slaves stand.0 rest)

set_up : (wanted : Wanted) (r : RingState) → ReachesAll r → IsWanted wanted
    → IsAloneIn state.Op wanted.station r
    → AllByRecursion (λ (x : Step). Stands wanted x r) (steps_of SafeOp) → IsSetUp r wanted
set_up wanted r ring wants alone stand =
    let xs : List Step = steps_of SafeOp in
    let P : SlaveState → Type 0 = HasAll (IsThere state.Op) wanted xs in
    let is : IsSuch P wanted.station r.slaves =
    such_one P wanted.station r.slaves
    (gathered (IsThere state.Op) wanted xs r (has_there state.Op wanted.station r alone) stand) in
    record {
      before = is.one.before;
      slave = is.one.slave;
      behind = is.one.behind;
      has = has_one wanted.station r ring wants.station is.one;
      status = is.such.such.status;
      unasked = is.such.such.unasked;
      records = is.such.all;
    }

addresses : (line : List Wanted) → AreWanted line → HaveAddresses line
addresses [] are = tt
addresses (wanted ∷ rest) are = (are.0.station, addresses rest are.2)

all_set_up : (line : List Wanted) (r : RingState) → ReachesAll r → AreWanted line
    → AreAllIn state.Op line r → LineStands (steps_of SafeOp) line r
    → AllByRecursion (IsSetUp r) line
all_set_up [] r ring are alone stand = tt
all_set_up (wanted ∷ rest) r ring are alone stand =
    (set_up wanted r ring are.0 alone.0 stand.0, all_set_up rest r ring are.2 alone.1 stand.1)

safe_op_clear : each_clear (steps_of SafeOp) ≡ true
unfolding each_clear all_clear is_clear is_setting held_to begins ends
safe_op_clear = refl

safe_op_stays : op_clear (steps_of SafeOp) ≡ true
unfolding op_clear is_clear held_to begins ends
safe_op_stays = refl

-- behind both phases each slave of the line is set up
pub all_started : (trips : ℕ) (line : List Wanted) (r in_pre_op in_safe_op later : RingState) → ReachesAll r
    → AreWanted line → IsWithin RingTrips trips r in_pre_op
    → Brings RingTrips in_pre_op 0 line (steps_of SafeOp) (Ok tt) in_safe_op
    → Brings RingTrips in_safe_op 0 line (steps_of Op) (Ok tt) later
    → AllByRecursion (IsSetUp later) line
all_started trips line r in_pre_op in_safe_op later ring are within sets asks =
    let first : ReachesAll in_pre_op = within_keeps trips r in_pre_op ring within in
    let between : ReachesAll in_safe_op =
    within_keeps _ in_pre_op in_safe_op first
    (brings_within RingTrips in_pre_op in_safe_op 0 line (steps_of SafeOp) (Ok tt) sets) in
    let reached : ReachesAll later =
    within_keeps _ in_safe_op later between
    (brings_within RingTrips in_safe_op later 0 line (steps_of Op) (Ok tt) asks) in
    all_set_up line later reached are
    (all_entered state.Op 0 line in_safe_op later between (addresses line are) asks)
    (line_stays (steps_of SafeOp) line line in_safe_op later between are safe_op_stays are asks
    (line_stands 0 (steps_of SafeOp) line in_pre_op in_safe_op first are safe_op_clear sets))
