-- The slaves of a ring that are set up: each is mapped as the one that it was read off, and they are all of
-- the ring.
use Rattle.std.proofs.Common.{◌≡◌, ℕ, suc, List, [], ◌∷◌, ◌++◌, length, map, drop, get_or, refl, sym, ap}
use Rattle.std.proofs.Common.{◌∙◌, arith, subst, inl, inr}
use Rattle.std.specs.Prelude.{◌≢◌, ◌⊎◌}
use Rattle.std.specs.List.{AllByRecursion}
use Rattle.std.specs.List.Sorted.{IsPermutation}
use Rattle.std.proofs.lemmas.List.Sorted.{IsPermutation-cons, IsPermutation-middle, IsPermutation-refl}
use Rattle.std.proofs.lemmas.List.Sorted.{IsPermutation-trans}
use Rattle.std.proofs.lemmas.List.{length-map}
use Rattle.ec_regs.specs.declared.registers.TheConstants.{STATION_ADDRESS}
use Rattle.ec_esc.specs.State.{IsController, word_at}
use Rattle.ec_app.specs.State.{SlaveState}
use Rattle.ec_line.specs.Mapping.{Mapping, mapping, mapping_of}
use Rattle.ec_check.specs.Line.{controllers}
use Rattle.ec_ring.specs.Ring.{RingState}
use Rattle.ec_run.specs.Wanted.{wanted_by}
use Rattle.ec_run.specs.declared.step.Step.TheVariants.{SyncManager}
use Rattle.ec_run.specs.declared.wanted.Wanted.{Wanted}
use Rattle.ec_over_ring.specs.Fit.{HasMailboxes}
use Rattle.ec_over_ring.specs.Started.{AreWanted, HoldsSet, IsSetUp}
use Rattle.ec_over_ring.specs.States.{HasStation, IsElsewhere}
use Rattle.ecat_started.specs.Certified.{records_of}
use Rattle.ecat_started.proofs.RecordLemmas.{mapped}

-- ---- one slave of a station

-- the first of a list
first_is : (s t : SlaveState) (ss ts : List SlaveState) → s ∷ ss ≡ t ∷ ts → s ≡ t
first_is s t ss ts same = ap (λ (xs : List SlaveState). get_or xs 0 s) same

rest_is : (s t : SlaveState) (ss ts : List SlaveState) → s ∷ ss ≡ t ∷ ts → ss ≡ ts
rest_is s t ss ts same = ap (λ (xs : List SlaveState). drop 1 xs) same

-- two of a list that alone have one station are one
one_slave : (station : ℕ) (before behind others behind_it : List SlaveState) (s t : SlaveState)
    → before ++ s ∷ behind ≡ others ++ t ∷ behind_it
    → word_at s.controller.memory STATION_ADDRESS ≡ station
    → word_at t.controller.memory STATION_ADDRESS ≡ station
    → AllByRecursion (IsElsewhere station) before → AllByRecursion (IsElsewhere station) others → s ≡ t
one_slave station [] behind [] behind_it s t same first second apart apart_too =
    first_is s t behind behind_it same
one_slave station [] behind (x ∷ xs) behind_it s t same first second apart apart_too =
    absurd (apart_too.0
    (ap (λ (y : SlaveState). word_at y.controller.memory STATION_ADDRESS)
    (sym (first_is s x behind (xs ++ t ∷ behind_it) same)) ∙ first))
one_slave station (x ∷ xs) behind [] behind_it s t same first second apart apart_too =
    absurd (apart.0
    (ap (λ (y : SlaveState). word_at y.controller.memory STATION_ADDRESS)
    (first_is x t (xs ++ s ∷ behind) behind_it same) ∙ second))
one_slave station (x ∷ xs) behind (y ∷ ys) behind_it s t same first second apart apart_too =
    one_slave station xs behind ys behind_it s t
    (rest_is x y (xs ++ s ∷ behind) (ys ++ t ∷ behind_it) same) first second apart.1 apart_too.1

same_slave : (station : ℕ) (r : RingState) (before behind others behind_it : List SlaveState)
    (s t : SlaveState) → HasStation station r before s behind → HasStation station r others t behind_it
    → s ≡ t
same_slave station r before behind others behind_it s t has has_too =
    one_slave station before behind others behind_it s t (sym has.slaves ∙ has_too.slaves) has.station_is
    has_too.station_is has.others_before has_too.others_before

-- it has a controller where all have
controller_there : (before behind : List SlaveState) (s : SlaveState)
    → AllByRecursion IsController (controllers (before ++ s ∷ behind)) → IsController s.controller
controller_there [] behind s all = all.0
controller_there (x ∷ xs) behind s all = controller_there xs behind s all.1

-- ---- slaves by their mappings

-- one of these slaves has a mapping
unfoldable IsMapped : Mapping → List SlaveState → Type 0
IsMapped m [] = ⊥
IsMapped m (s ∷ ss) = (mapping_of s.controller ≡ m) ⊎ IsMapped m ss

mapped_there : (m : Mapping) (before behind : List SlaveState) (s : SlaveState)
    → mapping_of s.controller ≡ m → IsMapped m (before ++ s ∷ behind)
unfolding IsMapped
mapped_there m [] behind s is = inl is
mapped_there m (x ∷ xs) behind s is = inr (mapped_there m xs behind s is)

-- mappings of stations that differ
unfoldable AreApart : List Mapping → Type 0
AreApart [] = Unit {0}
AreApart (m ∷ ms) = AllByRecursion (λ (other : Mapping). other.station ≢ m.station) ms × AreApart ms

-- such a slave is taken out, and the others are left
record IsTakenOut (m : Mapping) (ss : List SlaveState) : Type 0 where
  slave : SlaveState
  left : List SlaveState
  order : IsPermutation (slave ∷ left) ss
  is : mapping_of slave.controller ≡ m
  size : length ss ≡ suc (length left)
  keeps : (other : Mapping) → other.station ≢ m.station → IsMapped other ss → IsMapped other left

taken_out : (m : Mapping) (ss : List SlaveState) → IsMapped m ss → IsTakenOut m ss
unfolding IsMapped
taken_out m [] has = absurd has
taken_out m (s ∷ ss) (inl here) = record {
  slave = s;
  left = ss;
  order = IsPermutation-refl (s ∷ ss);
  is = here;
  size = refl;
  keeps = keeps;
}
  where
    keeps : (other : Mapping) → other.station ≢ m.station → IsMapped other (s ∷ ss) → IsMapped other ss
    keeps other differs (inl same) =
        absurd (differs (ap (λ (n : Mapping). n.station) (sym same ∙ here)))
    keeps other differs (inr rest) = rest
taken_out m (s ∷ ss) (inr there) =
    let out : IsTakenOut m ss = taken_out m ss there in
    let size : length ss ≡ suc (length out.left) = out.size in
    record {
      slave = out.slave;
      left = s ∷ out.left;
      order =
          IsPermutation-trans (out.slave ∷ s ∷ out.left) (s ∷ out.slave ∷ out.left) (s ∷ ss)
          (IsPermutation-middle (out.slave ∷ []) s out.left)
          (IsPermutation-cons s (out.slave ∷ out.left) ss out.order);
      is = out.is;
      size = ap (λ (n : ℕ). suc n) size;
      keeps = keeps out;
    }
  where
    keeps : (out : IsTakenOut m ss) (other : Mapping) → other.station ≢ m.station
        → IsMapped other (s ∷ ss) → IsMapped other (s ∷ out.left)
    keeps out other differs (inl here) = inl here
    keeps out other differs (inr rest) = inr (out.keeps other differs rest)

rest_mapped : (m : Mapping) (ss : List SlaveState) (out : IsTakenOut m ss) (ms : List Mapping)
    → AllByRecursion (λ (other : Mapping). other.station ≢ m.station) ms
    → AllByRecursion (λ (other : Mapping). IsMapped other ss) ms
    → AllByRecursion (λ (other : Mapping). IsMapped other out.left) ms
rest_mapped m ss out [] differ has = tt
rest_mapped m ss out (n ∷ ns) differ has =
    (out.keeps n differ.0 has.0, rest_mapped m ss out ns differ.1 has.1)

-- the slaves in another order, in which they have these mappings
pub record ArePicked (ms : List Mapping) (ss : List SlaveState) : Type 0 where
  pub picked : List SlaveState
  pub order : IsPermutation picked ss
  pub mapped : mapping (controllers picked) ≡ ms

-- as many slaves as mappings of stations that differ, each of which one has
picks : (ms : List Mapping) (ss : List SlaveState) → length ss ≡ length ms → AreApart ms
    → AllByRecursion (λ (m : Mapping). IsMapped m ss) ms → ArePicked ms ss
unfolding AreApart
picks [] [] size apart has = record { picked = []; order = IsPermutation-refl []; mapped = refl }
picks [] (s ∷ ss) size apart has = absurd (omega (arith, size))
picks (m ∷ ms) ss size apart has =
    let out : IsTakenOut m ss = taken_out m ss has.0 in
    let more : length ss ≡ suc (length out.left) = out.size in
    let rest : ArePicked ms out.left =
    picks ms out.left (omega (arith, size, more)) apart.1 (rest_mapped m ss out ms apart.0 has.1) in
    record {
      picked = out.slave ∷ rest.picked;
      order =
          IsPermutation-trans (out.slave ∷ rest.picked) (out.slave ∷ out.left) ss
          (IsPermutation-cons out.slave rest.picked out.left rest.order) out.order;
      mapped = λ j. out.is j ∷ rest.mapped j;
    }

-- ---- a line that is told what stands in slaves

-- what the first is told, and the others
told_first : (wanted : Wanted) (rest : List Wanted) (s : SlaveState) (ss : List SlaveState)
    → map records_of (wanted ∷ rest) ≡ map wanted_by (s ∷ ss) → records_of wanted ≡ wanted_by s
told_first wanted rest s ss told = ap (λ (ws : List Wanted). get_or ws 0 (records_of wanted)) told

told_rest : (wanted : Wanted) (rest : List Wanted) (s : SlaveState) (ss : List SlaveState)
    → map records_of (wanted ∷ rest) ≡ map wanted_by (s ∷ ss) → map records_of rest ≡ map wanted_by ss
told_rest wanted rest s ss told = ap (λ (ws : List Wanted). drop 1 ws) told

nobody_told : (wanted : Wanted) (rest : List Wanted) → map records_of (wanted ∷ rest) ≡ [] → ⊥
nobody_told wanted rest told = omega (arith, ap (λ (ws : List Wanted). length ws) told)

-- nobody is told what a slave has
nobody_there : (s : SlaveState) (ss : List SlaveState) → [] ≡ map wanted_by (s ∷ ss) → ⊥
nobody_there s ss told = omega (arith, ap (λ (ws : List Wanted). length ws) told)

differ_all : (wanted : Wanted) (s : SlaveState) (rest : List Wanted) (ss : List SlaveState)
    → records_of wanted ≡ wanted_by s → map records_of rest ≡ map wanted_by ss
    → AllByRecursion (λ (other : Wanted). other.station ≢ wanted.station) rest
    → AllByRecursion (λ (other : Mapping). other.station ≢ (mapping_of s.controller).station)
    (mapping (controllers ss))
unfolding mapping_of
differ_all wanted s [] [] is told differ = tt
differ_all wanted s [] (x ∷ xs) is told differ = absurd (nobody_there x xs told)
differ_all wanted s (w ∷ ws) [] is told differ = absurd (nobody_told w ws told)
differ_all wanted s (w ∷ ws) (x ∷ xs) is told differ = (
  λ same.
      differ.0
      (ap (λ (v : Wanted). v.station) (told_first w ws x xs told) ∙ same
      ∙ sym (ap (λ (v : Wanted). v.station) is)),
  differ_all wanted s ws xs is (told_rest w ws x xs told) differ.1,
)

apart_all : (line : List Wanted) (slaves : List SlaveState) → map records_of line ≡ map wanted_by slaves
    → AreWanted line → AreApart (mapping (controllers slaves))
unfolding AreApart
apart_all [] [] told wanted = tt
apart_all [] (s ∷ ss) told wanted = absurd (nobody_there s ss told)
apart_all (w ∷ ws) [] told wanted = absurd (nobody_told w ws told)
apart_all (w ∷ ws) (s ∷ ss) told wanted = (
  differ_all w s ws ss (told_first w ws s ss told) (told_rest w ws s ss told) wanted.1,
  apart_all ws ss (told_rest w ws s ss told) wanted.2,
)

-- the slave of the ring that is set up as one is wanted is mapped as the one that this was read off
one_mapped : (wanted : Wanted) (s : SlaveState) (r : RingState) → records_of wanted ≡ wanted_by s
    → IsController s.controller → IsSetUp r wanted → HasMailboxes r wanted
    → IsMapped (mapping_of s.controller) r.slaves
one_mapped wanted s r is controller set boxes =
    let t : SlaveState = set.slave in
    let box : boxes.slave ≡ t =
    same_slave wanted.station r boxes.before boxes.behind set.before set.behind boxes.slave t boxes.has
    set.has in
    let all : AllByRecursion IsController (controllers (set.before ++ t ∷ set.behind)) =
    subst (λ (ss : List SlaveState). AllByRecursion IsController (controllers ss)) set.has.slaves
    set.has.controllers in
    let same : mapping_of t.controller ≡ mapping_of s.controller =
    mapped wanted t.controller s.controller (controller_there set.before set.behind t all) controller
    (record {
      station = ap (λ (v : Wanted). v.station) is;
      managers = ap (λ (v : Wanted). v.managers) is;
      fmmus = ap (λ (v : Wanted). v.fmmus) is;
      addressed = set.has.station_is;
      requests =
          subst (λ (x : SlaveState). HoldsSet wanted x.controller.memory (SyncManager 0)) box boxes.requests;
      answers =
          subst (λ (x : SlaveState). HoldsSet wanted x.controller.memory (SyncManager 1)) box boxes.answers;
      records = set.records;
    }) in
    subst (λ (ss : List SlaveState). IsMapped (mapping_of s.controller) ss) (sym set.has.slaves)
    (mapped_there (mapping_of s.controller) set.before set.behind t same)

all_mapped : (line : List Wanted) (slaves : List SlaveState) (r : RingState)
    → map records_of line ≡ map wanted_by slaves → AllByRecursion IsController (controllers slaves)
    → AllByRecursion (IsSetUp r) line → AllByRecursion (HasMailboxes r) line
    → AllByRecursion (λ (m : Mapping). IsMapped m r.slaves) (mapping (controllers slaves))
all_mapped [] [] r told are set boxes = tt
all_mapped [] (s ∷ ss) r told are set boxes = absurd (nobody_there s ss told)
all_mapped (w ∷ ws) [] r told are set boxes = absurd (nobody_told w ws told)
all_mapped (w ∷ ws) (s ∷ ss) r told are set boxes = (
  one_mapped w s r (told_first w ws s ss told) are.0 set.0 boxes.0,
  all_mapped ws ss r (told_rest w ws s ss told) are.1 set.1 boxes.1,
)

-- so the ring's slaves are in some order mapped as those that the line was read off
pub all_picked : (line : List Wanted) (slaves : List SlaveState) (r : RingState)
    → map records_of line ≡ map wanted_by slaves → AllByRecursion IsController (controllers slaves)
    → AreWanted line → length r.slaves ≡ length line → AllByRecursion (IsSetUp r) line
    → AllByRecursion (HasMailboxes r) line → ArePicked (mapping (controllers slaves)) r.slaves
all_picked line slaves r told are wanted size set boxes =
    picks (mapping (controllers slaves)) r.slaves
    (size ∙ sym (length-map line records_of) ∙ ap (λ (ws : List Wanted). length ws) told
    ∙ length-map slaves wanted_by
    ∙ sym (length-map slaves (λ (s : SlaveState). s.controller))
    ∙ sym (length-map (controllers slaves) mapping_of))
    (apart_all line slaves told wanted) (all_mapped line slaves r told are set boxes)
