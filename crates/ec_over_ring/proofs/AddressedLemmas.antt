-- The slaves of a ring with at most one link down get their station addresses, slave after slave: by their
-- places where the cable is not broken between two of them, and else first those behind the break, then those
-- before it.
use Rattle.std.proofs.Common.{◌≡◌, ℕ, zero, suc, ◌+◌, ◌-◌, ◌*◌, ◌/◌, ◌%◌, ◌<◌, ◌≤◌, Bool, true, false, eqb}
use Rattle.std.proofs.Common.{ltb}
use Rattle.std.proofs.Common.{List, [], ◌∷◌, ◌++◌, length, map, take, drop, get_or, None}
use Rattle.std.proofs.Common.{Option, Result, Ok, Err, refl, sym, ap, ◌∙◌, arith, subst, inl, inr}
use Rattle.std.specs.Prelude.{◌⊎◌}
use Rattle.std.specs.Int.{w16, to_le_bytes}
use Rattle.std.proofs.Math.Seq.{drop-append_seam, drop-length, take-append_seam, take-length}
use Rattle.std.proofs.lemmas.List.{append-nil, append_assoc, drop-map, length-append, length-drop, length-map}
use Rattle.std.proofs.lemmas.List.{length-take-le, map-append, take-append-drop, take-map}
use Rattle.ec_regs.specs.declared.registers.TheConstants.{MEMORY_SIZE, STATION_ADDRESS}
use Rattle.ec_regs.proofs.Laws.{each-drop, each-take}
use Rattle.ec_app.specs.Lending.{with_controller}
use Rattle.ec_app.specs.Slave.{step}
use Rattle.ec_app.specs.State.{SlaveState}
use Rattle.ec_app.specs.Table.{first_fitting}
use Rattle.ec_wire.specs.Datagram.{DatagramRecord}
use Rattle.ec_esc.specs.State.{ControllerState, IsController, with_run, word_at}
use Rattle.ec_ring.specs.Links.{IsOnlyDown, is_up}
use Rattle.ec_ring.specs.Reach.{front, turns}
use Rattle.ec_ring.specs.Ring.{RingState, controllers, line_of, with_controllers}
use Rattle.ec_ring.specs.Travel.{Travelled, travelled}
use Rattle.ec_ring.specs.Weather.{calm}
use Rattle.ec_ring.specs.declared.links.Links.{Links}
use Rattle.ec_ring.specs.declared.port.PortFault.{PortFault}
use Rattle.ec_ring.specs.declared.weather.Came.{Came}
use Rattle.ec_ring.proofs.Laws.{length-controllers}
use Rattle.ec_master.specs.RingTrips.{RingTrips}
use Rattle.ec_services.specs.Ask.{Answer, Asks, Brings as Answers, Question, Talks, write, write_decides}
use Rattle.ec_services.specs.Stations.{station_write}
use Rattle.ec_services.specs.declared.fault.MasterFault.{MasterFault}
use Rattle.ec_services.specs.declared.fault.MasterFault.TheVariants.{BadAnswer, NoSlave}
use Rattle.ec_run.specs.Phase.{AreDone, Brings}
use Rattle.ec_run.specs.Step.{IsDone, IsTried, address_write, behind_decides, behind_question, is_answered}
use Rattle.ec_run.specs.declared.phase.StepFault.{StepFault}
use Rattle.ec_run.specs.declared.step.Step.{Step}
use Rattle.ec_run.specs.declared.step.Step.TheVariants.{Station, StationBefore, StationBehind}
use Rattle.ec_run.specs.declared.wanted.Wanted.{Wanted}
use Rattle.ec_over_ring.specs.Brought.{HaveAddresses, ReachesAll}
use Rattle.ec_over_ring.specs.Stations.{restationed}
use Rattle.ec_over_ring.proofs.FoundLemmas.{AreAsFound, IsMild, found_same, found_then, trip_found}
use Rattle.ec_over_ring.proofs.LineLemmas.{turned}
use Rattle.ec_over_ring.proofs.PlacedLemmas.{IsPlaced, TellsCount, both_placed, front_placed, length-placed}
use Rattle.ec_over_ring.proofs.PlacedLemmas.{placed, taken, taken_few, taken_inside, trip_circling}
use Rattle.ec_over_ring.proofs.PlacedLemmas.{trip_written}
use Rattle.ec_over_ring.proofs.StationLemmas.{station_of, station_stays}
use Rattle.ec_over_ring.proofs.StationWriteLemmas.{run_inside}
use Rattle.ec_over_ring.proofs.TalkLemmas.{IsBegun, begun, goes_on}
use Rattle.ec_over_ring.proofs.TransferLemmas.{have_controllers}
use Rattle.ec_over_ring.proofs.TripKeepsLemmas.{AreControllers, travelled_left, trip_keeps}

-- ---- station addresses as numbers

-- the list with another number at a place
unfoldable pub put : ℕ → ℕ → List ℕ → List ℕ
put k x [] = []
put zero x (y ∷ ys) = x ∷ ys
put (suc k) x (y ∷ ys) = y ∷ put k x ys

length-put : (k x : ℕ) (ys : List ℕ) → length (put k x ys) ≡ length ys
unfolding put
length-put k x [] = refl
length-put zero x (y ∷ ys) = refl
length-put (suc k) x (y ∷ ys) = ap (λ (n : ℕ). suc n) (length-put k x ys)

put_at : (done : List ℕ) (x y : ℕ) (rest : List ℕ)
    → put (length done) x (done ++ y ∷ rest) ≡ done ++ x ∷ rest
unfolding put
put_at [] x y rest = refl
put_at (d ∷ done) x y rest = ap (λ (xs : List ℕ). d ∷ xs) (put_at done x y rest)

-- those of controllers, and of the slaves of a ring
abbrev word : ControllerState → ℕ
word c = word_at c.memory STATION_ADDRESS

abbrev pub stations : RingState → List ℕ
stations r = map station_of r.slaves

restationed_word : (c : ControllerState) (station : ℕ) → length c.memory ≡ MEMORY_SIZE → station < 65536
    → word (restationed c station) ≡ station
restationed_word c station size small =
    let bytes : List ℕ = to_le_bytes w16 station in
    let low : get_or (with_run c.memory 16 bytes) 16 0 ≡ get_or bytes 0 0 =
    run_inside c.memory bytes 16 0 (omega (arith, size)) (omega arith) in
    let high : get_or (with_run c.memory 16 bytes) 17 0 ≡ get_or bytes 1 0 =
    run_inside c.memory bytes 16 1 (omega (arith, size)) (omega arith) in
    omega (arith, low, high, small)

placed_words : (station k : ℕ) (cs : List ControllerState) → AreControllers cs → station < 65536
    → map word (placed station k cs) ≡ put k station (map word cs)
unfolding placed put
placed_words station k [] are small = refl
placed_words station zero (c ∷ cs) are small =
    ap (λ (n : ℕ). n ∷ map word cs) (restationed_word c station are.0.memory_size small)
placed_words station (suc k) (c ∷ cs) are small =
    ap (λ (xs : List ℕ). word c ∷ xs) (placed_words station k cs are.1 small)

words_of : (ss : List SlaveState) → map word (controllers ss) ≡ map station_of ss
words_of [] = refl
words_of (s ∷ ss) = ap (λ (xs : List ℕ). station_of s ∷ xs) (words_of ss)

stations_behind : (ss : List SlaveState) (cs : List ControllerState) → length cs ≡ length ss
    → AreControllers cs → map station_of (map step (with_controllers ss cs)) ≡ map word cs
stations_behind [] [] size are = refl
stations_behind [] (c ∷ cs) size are = absurd (omega (arith, size))
stations_behind (s ∷ ss) [] size are = absurd (omega (arith, size))
stations_behind (s ∷ ss) (c ∷ cs) size are =
    ap (λ (n : ℕ). n ∷ map station_of (map step (with_controllers ss cs)))
    (station_stays (with_controller s c) are.0.memory_size)
    ∙ ap (λ (xs : List ℕ). word c ∷ xs) (stations_behind ss cs (omega (arith, size)) are.1)

-- ---- a ring on the way

-- it has the links of another one and as many slaves, each as it was found there
pub record IsOnItsWay (start r : RingState) : Type 0 where
  pub ring : ReachesAll r
  pub links : r.links ≡ start.links
  pub size : length r.slaves ≡ length start.slaves
  pub found : AreAsFound start.slaves r.slaves

pub way_then : (start r later : RingState) → IsOnItsWay start r → IsOnItsWay r later → IsOnItsWay start later
way_then start r later first second = record {
  ring = second.ring;
  links = second.links ∙ first.links;
  size = second.size ∙ first.size;
  found = found_then start.slaves r.slaves later.slaves first.found second.found;
}

found_size : (ss ts : List SlaveState) → AreAsFound ss ts → length ts ≡ length ss
unfolding AreAsFound
found_size [] [] are = refl
found_size (s ∷ ss) (t ∷ ts) are = ap (λ (n : ℕ). suc n) (found_size ss ts are.1)
found_size [] (t ∷ ts) are = absurd are
found_size (s ∷ ss) [] are = absurd are

-- behind one trip
pub way_trip : (r later : RingState) (d : DatagramRecord) (came : Result Came PortFault) → ReachesAll r
    → IsMild d → RingTrips r (d ∷ []) came later → IsOnItsWay r later
way_trip r later d came ring mild made = record {
  ring = trip_keeps r later (d ∷ []) came ring made;
  links = ap (λ (x : RingState). x.links) made.1;
  size = found_size r.slaves later.slaves (trip_found r later d came ring mild made);
  found = trip_found r later d came ring mild made;
}

-- ---- one write

-- what was told, and the ring behind it, with these station addresses
record IsGone (count : ℕ) (xs : List ℕ) (answer : Answer) (r later : RingState) : Type 0 where
  tells : TellsCount answer count
  way : IsOnItsWay r later
  stations_are : stations later ≡ xs

gone : (d : DatagramRecord) (line : List ControllerState) (count : ℕ) (answer : Answer)
    (r later : RingState) → ReachesAll r → IsMild d → length line ≡ length r.slaves
    → IsPlaced d line count (travelled (calm r.links) (d ∷ []) (line_of r))
    → Asks RingTrips r d answer later → IsGone count (map word line) answer r later
gone d line count answer r later ring mild size is asks =
    let t : Travelled = travelled (calm r.links) (d ∷ []) (line_of r) in
    let are : AreControllers t.line =
    travelled_left r.links (d ∷ []) (line_of r) (have_controllers r.slaves ring.slaves.each) in
    record {
      tells = is.tells answer
          (subst (λ (x : Result Came PortFault). Answers d x answer) asks.made.0 asks.brings);
      way = way_trip r later d asks.came ring mild asks.made;
      stations_are = ap (λ (x : RingState). stations x) asks.made.1
          ∙ ap (λ (cs : List ControllerState). map station_of (map step (with_controllers r.slaves cs)))
          is.left
          ∙ stations_behind r.slaves line size
          (subst (λ (cs : List ControllerState). AreControllers cs) is.left are);
    }

station_mild : (b : Bool) (k station : ℕ) → IsMild (turned b (station_write k station))
unfolding IsMild
station_mild b k station = inr (refl, place, refl)
  where
    place : ((65536 - k) % 65536 + 65536 * 16) / 65536 ≡ 16
    place = omega arith

-- how many slaves took it is told, and decides nothing
one_decides : (answer : Answer) → TellsCount answer 1 → write_decides {A = Unit {0}} answer ≡ Ok None
one_decides (Err fault) tells = absurd tells
one_decides (Ok back) tells =
    ap (λ (n : ℕ). first_fitting {R = Result (Option (Unit {0})) MasterFault}
    ((eqb n 0, Err NoSlave) ∷ (ltb 1 n, Err BadAnswer) ∷ []) (Ok None)) tells

two_decide : (answer : Answer) (n : ℕ) → 1 ≤ n → n ≤ 2 → TellsCount answer n → behind_decides answer ≡ Ok None
two_decide (Err fault) n some few tells = absurd tells
two_decide (Ok back) n some few tells =
    ap (λ (m : ℕ). first_fitting {R = Result (Option (Unit {0})) MasterFault}
    ((eqb m 0, Err NoSlave) ∷ (ltb 2 m, Err BadAnswer) ∷ []) (Ok None)) tells
    ∙ small n some few
  where
    small : (m : ℕ) → 1 ≤ m → m ≤ 2
        → first_fitting {R = Result (Option (Unit {0})) MasterFault}
        ((eqb m 0, Err NoSlave) ∷ (ltb 2 m, Err BadAnswer) ∷ []) (Ok None) ≡ Ok None
    small zero low high = absurd (omega (arith, low))
    small (suc zero) low high = refl
    small (suc (suc zero)) low high = refl
    small (suc (suc (suc m))) low high = absurd (omega (arith, high))

-- ---- steps

-- a step is done, and then this holds
pub record Goes {S E : Type 0} (X : S → Type 0) (result : Result (Unit {0}) E) (later : S) : Type 0 where
  pub came : result ≡ Ok tt
  pub so : X later

talk_goes : (X : RingState → Type 0) (q : Question (Unit {0})) (result : Result (Unit {0}) MasterFault)
    (r later : RingState)
    → ((answer : Answer) (between : RingState) → Asks RingTrips r q.sent answer between
    → (q.decides answer ≡ Ok None) × X between)
    → Talks RingTrips r (q ∷ []) (Ok tt) result later → Goes X result later
unfolding Talks
talk_goes X q result r later does talk =
    let first : IsBegun RingTrips r q [] (Ok tt) result later =
    begun RingTrips r q [] (Ok tt) result later talk in
    let one = does first.answer first.between first.asks in
    let left = goes_on RingTrips r q [] (Ok tt) result later first one.0 in
    record { came = left.0; so = subst X (sym left.1) one.1 }

-- a step that is done at the first time is not tried again
abbrev DoesGo : (RingState → Type 0) → RingState → ℕ → Wanted → Step → Type 0
DoesGo X r place wanted y =
    (result : Result (Unit {0}) MasterFault) (later : RingState)
    → IsDone RingTrips r place wanted y result later → Goes X result later

tried_goes : (X : RingState → Type 0) (more place : ℕ) (wanted : Wanted) (y : Step)
    (result : Result (Unit {0}) MasterFault) (r later : RingState) → DoesGo X r place wanted y
    → IsTried RingTrips r place wanted y more result later → Goes X result later
unfolding IsTried
tried_goes X zero place wanted y result r later does done = does result later done
tried_goes X (suc more) place wanted y result r later does (first, between, done, rest) =
    let one : Goes X first between = does first between done in
    ends_so (is_answered first) (ap is_answered one.came) one rest
  where
    ends_so : (b : Bool) → b ≡ true → Goes X first between
        → (elim b as (λ (x : Bool). Type 0) [
          | true ↦ (result ≡ first) × (later ≡ between)
          | false ↦ IsTried RingTrips between place wanted y more result later
        ]) → Goes X result later
    ends_so true answered one (is, same) =
        record { came = is ∙ one.came; so = subst X (sym same) one.so }
    ends_so false answered one again = absurd (cc (answered))

done_goes : (X : RingState → Type 0) (place : ℕ) (wanted : Wanted) (y : Step)
    (result : Result (Unit {0}) StepFault) (r later : RingState) → DoesGo X r place wanted y
    → AreDone RingTrips r place wanted (y ∷ []) result later → Goes X result later
unfolding AreDone
done_goes X place wanted y result r later does (Err fault, between, tried, left) =
    absurd (failed (tried_goes X 19 place wanted y (Err fault) r between does tried).came)
  where
    failed : Err fault ≡ (let fine : Result (Unit {0}) MasterFault = Ok tt in fine) → ⊥
    failed is = absurd (cc (is))
done_goes X place wanted y result r later does (Ok did, between, tried, (is, same)) =
    let goes : Goes X (Ok did) between = tried_goes X 19 place wanted y (Ok did) r between does tried in
    record { came = is; so = subst X (sym same) goes.so }

-- ---- slave after slave

-- the numbers of a piece of the ring once its slaves at the first places have their addresses
record HasPiece (Q : RingState → Type 0) (look : List ℕ → List ℕ) (xs : List ℕ) (r : RingState) : Type 0 where
  way : Q r
  piece : look (stations r) ≡ xs

-- a step writes to the next place of a piece
WritesNext : (RingState → Type 0) → (List ℕ → List ℕ) → ℕ → Step → Type 0
WritesNext Q look first y =
    (j place : ℕ) (wanted : Wanted) (r : RingState) → place ≡ first + j → Q r → wanted.station < 65536
    → j < length (look (stations r))
    → DoesGo (HasPiece Q look (put j wanted.station (look (stations r)))) r place wanted y

abbrev station_wanted : Wanted → ℕ
station_wanted w = w.station

given_next : (Q : RingState → Type 0) (look : List ℕ → List ℕ) (first : ℕ) (y : Step) (place : ℕ)
    (line : List Wanted) (done rest : List ℕ) (result : Result (Unit {0}) StepFault) (r later : RingState)
    → WritesNext Q look first y → HaveAddresses line → place ≡ first + length done
    → length rest ≡ length line → HasPiece Q look (done ++ rest) r
    → Brings RingTrips r place line (y ∷ []) result later
    → Goes (HasPiece Q look (done ++ map station_wanted line)) result later
unfolding Brings WritesNext
given_next Q look first y place [] done [] result r later writes addresses at size has (is, same) =
    record { came = is; so = subst (HasPiece Q look (done ++ [])) (sym same) has }
given_next Q look first y place [] done (x ∷ rest) result r later writes addresses at size has brings =
    absurd (omega (arith, size))
given_next Q look first y place (w ∷ ws) done [] result r later writes addresses at size has brings =
    absurd (omega (arith, size))
given_next Q look first y place (w ∷ ws) done (x ∷ rest) result r later writes addresses at size has
    (Err fault, between, does, left) =
    let long : length (look (stations r)) ≡ length done + suc (length rest) =
    ap (λ (xs : List ℕ). length xs) has.piece ∙ length-append done (x ∷ rest) in
    absurd (failed
    (done_goes (HasPiece Q look (put (length done) w.station (look (stations r)))) place w y (Err fault) r
    between (writes (length done) place w r at has.way addresses.0 (omega (arith, long))) does).came)
  where
    failed : Err fault ≡ (let fine : Result (Unit {0}) StepFault = Ok tt in fine) → ⊥
    failed is = absurd (cc)
given_next Q look first y place (w ∷ ws) done (x ∷ rest) result r later writes addresses at size has
    (Ok did, between, does, left) =
    let long : length (look (stations r)) ≡ length done + suc (length rest) =
    ap (λ (xs : List ℕ). length xs) has.piece ∙ length-append done (x ∷ rest) in
    let goes : Goes (HasPiece Q look (put (length done) w.station (look (stations r)))) (Ok did) between =
    done_goes (HasPiece Q look (put (length done) w.station (look (stations r)))) place w y (Ok did) r
    between (writes (length done) place w r at has.way addresses.0 (omega (arith, long))) does in
    let becomes : put (length done) w.station (look (stations r)) ≡ (done ++ w.station ∷ []) ++ rest =
    ap (λ (xs : List ℕ). put (length done) w.station xs) has.piece
    ∙ put_at done w.station x rest ∙ sym (append_assoc done (w.station ∷ []) rest) in
    let more : length (done ++ w.station ∷ []) ≡ length done + 1 = length-append done (w.station ∷ []) in
    let others : Goes (HasPiece Q look ((done ++ w.station ∷ []) ++ map station_wanted ws)) result later =
    given_next Q look first y (place + 1) ws (done ++ w.station ∷ []) rest result between later writes
    addresses.1 (omega (arith, at, more)) (omega (arith, size))
    (record { way = goes.so.way; piece = goes.so.piece ∙ becomes }) left in
    record {
      came = others.came;
      so = subst (λ (xs : List ℕ). HasPiece Q look xs later)
          (append_assoc done (w.station ∷ []) (map station_wanted ws)) others.so;
    }

-- ---- the line of a ring on its way

-- it has controllers, as many as at the start, and how far copy A gets on it
record IsLine (start r : RingState) (m : ℕ) : Type 0 where
  are : AreControllers (line_of r)
  size : length (line_of r) ≡ length r.slaves
  limit : length r.slaves ≤ 256
  front_is : front r.links (length (line_of r)) ≡ m
  down : ℕ
  one : IsOnlyDown r.links (length (line_of r)) down

line_is : (start r : RingState) (m : ℕ) → IsOnItsWay start r
    → front start.links (length start.slaves) ≡ m → IsLine start r m
line_is start r m way is =
    let size : length (line_of r) ≡ length r.slaves = length-controllers r.slaves in
    record {
      are = have_controllers r.slaves way.ring.slaves.each;
      size = size;
      limit = way.ring.slaves.limit;
      front_is = ap (λ (n : ℕ). front r.links n) (size ∙ way.size)
          ∙ ap (λ (links : Links). front links (length start.slaves)) way.links ∙ is;
      down = way.ring.down.0;
      one = subst (λ (n : ℕ). IsOnlyDown r.links n way.ring.down.0) (sym size) way.ring.down.1;
    }

-- numbers before and behind a place
seam_take : (m : ℕ) (xs ys : List ℕ) → length xs ≡ m → take m (xs ++ ys) ≡ xs
seam_take m xs ys size = subst (λ (n : ℕ). take n (xs ++ ys) ≡ xs) size (take-append_seam xs ys)

seam_drop : (m : ℕ) (xs ys : List ℕ) → length xs ≡ m → drop m (xs ++ ys) ≡ ys
seam_drop m xs ys size = subst (λ (n : ℕ). drop n (xs ++ ys) ≡ ys) size (drop-append_seam xs ys)

take_words : (m station k : ℕ) (line : List ControllerState) → AreControllers line → station < 65536
    → map word (placed station k (take m line)) ≡ put k station (take m (map word line))
take_words m station k line are small =
    placed_words station k (take m line) (each-take IsController m line are) small
    ∙ ap (λ (xs : List ℕ). put k station xs) (sym (take-map word m line))

drop_words : (m station k : ℕ) (line : List ControllerState) → AreControllers line → station < 65536
    → map word (placed station k (drop m line)) ≡ put k station (drop m (map word line))
drop_words m station k line are small =
    placed_words station k (drop m line) (each-drop IsController m line are) small
    ∙ ap (λ (xs : List ℕ). put k station xs) (sym (drop-map word m line))

-- ---- by places, where no two slaves are parted

-- a piece of all slaves, or of none
whole_placed : (m station k : ℕ) (line : List ControllerState) → (m ≡ 0) ⊎ (m ≡ length line)
    → k < length line → (t : Travelled)
    → IsPlaced (station_write k station) (both_placed m station k line)
    (taken k (take m line) + taken k (drop m line)) t
    → IsPlaced (station_write k station) (placed station k line) 1 t
unfolding both_placed placed taken
whole_placed m station k line (inl none) inside t is =
    let count : taken k (take m line) + taken k (drop m line) ≡ 1 =
    ap (λ (n : ℕ). taken k (take n line) + taken k (drop n line)) none
    ∙ (let one : taken k line ≡ 1 = taken_inside k line inside in
    let sum : 0 + taken k line ≡ 1 = omega (arith, one) in sum) in
    let left : placed station k (take m line) ++ placed station k (drop m line) ≡ placed station k line =
    ap (λ (n : ℕ). placed station k (take n line) ++ placed station k (drop n line)) none in
    record {
      left = is.left ∙ left;
      tells = λ answer brings. subst (TellsCount answer) count (is.tells answer brings);
    }
whole_placed m station k line (inr all) inside t is =
    let count : taken k (take m line) + taken k (drop m line) ≡ 1 =
    ap (λ (n : ℕ). taken k (take n line) + taken k (drop n line)) all
    ∙ ap (λ (xs : List ControllerState). taken k xs + taken k (drop (length line) line)) (take-length line)
    ∙ ap (λ (xs : List ControllerState). taken k line + taken k xs) (drop-length line)
    ∙ (let one : taken k line ≡ 1 = taken_inside k line inside in
    let sum : taken k line + 0 ≡ 1 = omega (arith, one) in sum) in
    let left : placed station k (take m line) ++ placed station k (drop m line) ≡ placed station k line =
    ap (λ (n : ℕ). placed station k (take n line) ++ placed station k (drop n line)) all
    ∙ ap (λ (xs : List ControllerState). placed station k xs ++ placed station k (drop (length line) line))
    (take-length line)
    ∙ ap (λ (xs : List ControllerState). placed station k line ++ placed station k xs) (drop-length line)
    ∙ append-nil (placed station k line) in
    record {
      left = is.left ∙ left;
      tells = λ answer brings. subst (TellsCount answer) count (is.tells answer brings);
    }

all_of : List ℕ → List ℕ
all_of xs = xs

writes_whole : (start : RingState) (m : ℕ) → front start.links (length start.slaves) ≡ m
    → (m ≡ 0) ⊎ (m ≡ length start.slaves) → WritesNext (IsOnItsWay start) all_of 0 Station
unfolding WritesNext all_of
writes_whole start m is pieces j place wanted r at way address inside result later done =
    let station : ℕ = wanted.station in
    let d : DatagramRecord = station_write place station in
    let line : List ControllerState = line_of r in
    let n : ℕ = length line in
    let its : IsLine start r m = line_is start r m way is in
    let limit : length r.slaves ≤ 256 = its.limit in
    let long : length (stations r) ≡ length r.slaves = length-map r.slaves station_of in
    let size : n ≡ length r.slaves = its.size in
    let same : place ≡ j = omega (arith, at) in
    let here : place < n = omega (arith, same, inside, long, size) in
    let fit : (m ≡ 0) ⊎ (m ≡ n) = either pieces (size ∙ way.size) in
    let low : front r.links n ≤ n = either_low fit its.front_is in
    let placed_is : IsPlaced d (placed station place line) 1 (travelled (calm r.links) (d ∷ []) line) =
    whole_placed m station place line fit here (travelled (calm r.links) (d ∷ []) line)
    (subst (λ (f : ℕ). IsPlaced d (both_placed f station place line)
    (taken place (take f line) + taken place (drop f line)) (travelled (calm r.links) (d ∷ []) line))
    its.front_is
    (trip_written r.links its.down station place line its.are its.one (omega (arith, here, limit, size))
    low)) in
    talk_goes (HasPiece (IsOnItsWay start) all_of (put j station (stations r)))
    (write (address_write place station false)) result r later
    (λ answer between asks.
    let g : IsGone 1 (map word (placed station place line)) answer r between =
    gone d (placed station place line) 1 answer r between way.ring (station_mild false place station)
    (length-placed station place line ∙ size) placed_is asks in (
      one_decides answer g.tells,
      record {
        way = way_then start r between way g.way;
        piece = g.stations_are ∙ placed_words station place line its.are address
            ∙ ap (λ (xs : List ℕ). put place station xs) (words_of r.slaves)
            ∙ ap (λ (i : ℕ). put i station (stations r)) same;
      },
    )) done
  where
    either : (m ≡ 0) ⊎ (m ≡ length start.slaves) → length (line_of r) ≡ length start.slaves
        → (m ≡ 0) ⊎ (m ≡ length (line_of r))
    either (inl none) size = inl none
    either (inr all) size = inr (all ∙ sym size)

    either_low : (m ≡ 0) ⊎ (m ≡ length (line_of r)) → front r.links (length (line_of r)) ≡ m
        → front r.links (length (line_of r)) ≤ length (line_of r)
    either_low (inl none) front_is = omega (arith, none, front_is)
    either_low (inr all) front_is = omega (arith, all, front_is)

-- the slaves of a ring have the station addresses of a line, in their order
pub record AreAddressed (line : List Wanted) (result : Result (Unit {0}) StepFault) (r later : RingState)
    : Type 0 where
  pub came : result ≡ Ok tt
  pub way : IsOnItsWay r later
  pub stations_are : stations later ≡ map (λ (w : Wanted). w.station) line

way_here : (r : RingState) → ReachesAll r → IsOnItsWay r r
way_here r ring = record { ring = ring; links = refl; size = refl; found = found_same r.slaves }

pub all_addressed : (line : List Wanted) (result : Result (Unit {0}) StepFault) (r later : RingState)
    → ReachesAll r → HaveAddresses line → length r.slaves ≡ length line
    → (front r.links (length r.slaves) ≡ 0) ⊎ (front r.links (length r.slaves) ≡ length r.slaves)
    → Brings RingTrips r 0 line (Station ∷ []) result later → AreAddressed line result r later
unfolding all_of
all_addressed line result r later ring addresses size pieces brings =
    let long : length (stations r) ≡ length r.slaves = length-map r.slaves station_of in
    let goes : Goes (HasPiece (IsOnItsWay r) all_of ([] ++ map station_wanted line)) result later =
    given_next (IsOnItsWay r) all_of 0 Station 0 line [] (stations r) result r later
    (writes_whole r (front r.links (length r.slaves)) refl pieces) addresses refl (long ∙ size)
    (record { way = way_here r ring; piece = refl }) brings in
    record { came = goes.came; way = goes.so.way; stations_are = goes.so.piece }

-- ---- around a break between two slaves

both_size : (m station k : ℕ) (line : List ControllerState)
    → length (both_placed m station k line) ≡ length line
unfolding both_placed
both_size m station k line =
    length-append (placed station k (take m line)) (placed station k (drop m line))
    ∙ ap (λ (n : ℕ). n + length (placed station k (drop m line))) (length-placed station k (take m line))
    ∙ ap (λ (n : ℕ). length (take m line) + n) (length-placed station k (drop m line))
    ∙ sym (length-append (take m line) (drop m line))
    ∙ ap (λ (xs : List ControllerState). length xs) (take-append-drop m line)

both_words : (m station k : ℕ) (line : List ControllerState)
    → map word (both_placed m station k line)
    ≡ map word (placed station k (take m line)) ++ map word (placed station k (drop m line))
unfolding both_placed
both_words m station k line =
    map-append word (placed station k (take m line)) (placed station k (drop m line))

front_size : (m station k : ℕ) (line : List ControllerState)
    → length (front_placed m station k line) ≡ length line
unfolding front_placed
front_size m station k line =
    length-append (placed station k (take m line)) (drop m line)
    ∙ ap (λ (n : ℕ). n + length (drop m line)) (length-placed station k (take m line))
    ∙ sym (length-append (take m line) (drop m line))
    ∙ ap (λ (xs : List ControllerState). length xs) (take-append-drop m line)

front_words : (m station k : ℕ) (line : List ControllerState)
    → map word (front_placed m station k line)
    ≡ map word (placed station k (take m line)) ++ map word (drop m line)
unfolding front_placed
front_words m station k line = map-append word (placed station k (take m line)) (drop m line)

part_size : (m station k : ℕ) (line : List ControllerState) → m ≤ length line
    → length (map word (placed station k (take m line))) ≡ m
part_size m station k line low =
    length-map (placed station k (take m line)) word ∙ length-placed station k (take m line)
    ∙ length-take-le m line low

writes_behind : (start : RingState) (m : ℕ) → front start.links (length start.slaves) ≡ m
    → m ≤ length start.slaves
    → WritesNext (IsOnItsWay start) (λ (xs : List ℕ). drop m xs) m (StationBehind m)
unfolding WritesNext
writes_behind start m is low j place wanted r at way address inside result later done =
    let station : ℕ = wanted.station in
    let k : ℕ = (place + (65536 - m)) % 65536 in
    let d : DatagramRecord = station_write k station in
    let line : List ControllerState = line_of r in
    let n : ℕ = length line in
    let its : IsLine start r m = line_is start r m way is in
    let limit : length r.slaves ≤ 256 = its.limit in
    let long : length (stations r) ≡ length r.slaves = length-map r.slaves station_of in
    let size : n ≡ length r.slaves = its.size in
    let all : length r.slaves ≡ length start.slaves = way.size in
    let rest : length (drop m (stations r)) ≡ length (stations r) - m = length-drop m (stations r) in
    let back_size : length (drop m line) ≡ n - m = length-drop m line in
    let same : k ≡ j = omega (arith, at, inside, rest, long, limit, low, all) in
    let here : k < length (drop m line) = omega (arith, same, inside, rest, long, size, back_size) in
    let one : taken k (drop m line) ≡ 1 = taken_inside k (drop m line) here in
    let few : taken k (take m line) ≤ 1 = taken_few k (take m line) in
    let c : ℕ = taken k (take m line) + taken k (drop m line) in
    let front_low : front r.links n ≤ n = let f = its.front_is in omega (arith, f, low, size, all) in
    let placed_is : IsPlaced d (both_placed m station k line) c (travelled (calm r.links) (d ∷ []) line) =
    subst (λ (f : ℕ). IsPlaced d (both_placed f station k line)
    (taken k (take f line) + taken k (drop f line)) (travelled (calm r.links) (d ∷ []) line)) its.front_is
    (trip_written r.links its.down station k line its.are its.one
    (omega (arith, here, back_size, limit, size)) front_low) in
    talk_goes (HasPiece (IsOnItsWay start) (λ (xs : List ℕ). drop m xs)
    (put j station (drop m (stations r)))) (behind_question k station) result r later
    (λ answer between asks.
    let g : IsGone c (map word (both_placed m station k line)) answer r between =
    gone d (both_placed m station k line) c answer r between way.ring (station_mild false k station)
    (both_size m station k line ∙ size) placed_is asks in (
      two_decide answer c (omega (arith, one)) (omega (arith, one, few)) g.tells,
      record {
        way = way_then start r between way g.way;
        piece = ap (λ (xs : List ℕ). drop m xs) (g.stations_are ∙ both_words m station k line)
            ∙ seam_drop m (map word (placed station k (take m line)))
            (map word (placed station k (drop m line)))
            (part_size m station k line (omega (arith, low, size, all)))
            ∙ drop_words m station k line its.are address
            ∙ ap (λ (xs : List ℕ). put k station (drop m xs)) (words_of r.slaves)
            ∙ ap (λ (i : ℕ). put i station (drop m (stations r))) same;
      },
    )) done

-- those behind the break
pub behind_addressed : (m : ℕ) (line : List Wanted) (result : Result (Unit {0}) StepFault)
    (r later : RingState) → ReachesAll r → HaveAddresses line → m + length line ≡ length r.slaves
    → front r.links (length r.slaves) ≡ m → Brings RingTrips r m line (StationBehind m ∷ []) result later
    → (result ≡ Ok tt) × IsOnItsWay r later
    × (drop m (stations later) ≡ map (λ (w : Wanted). w.station) line)
behind_addressed m line result r later ring addresses size is brings =
    let long : length (stations r) ≡ length r.slaves = length-map r.slaves station_of in
    let rest : length (drop m (stations r)) ≡ length (stations r) - m = length-drop m (stations r) in
    let at : m ≡ m + 0 = omega arith in
    let goes : Goes (HasPiece (IsOnItsWay r) (λ (xs : List ℕ). drop m xs) ([] ++ map station_wanted line))
    result later =
    given_next (IsOnItsWay r) (λ (xs : List ℕ). drop m xs) m (StationBehind m) m line []
    (drop m (stations r)) result r later (writes_behind r m is (omega (arith, size))) addresses at
    (omega (arith, rest, long, size)) (record { way = way_here r ring; piece = refl }) brings in
    (goes.came, goes.so.way, goes.so.piece)

-- and then those before it, while those keep theirs
record KeepsBehind (start : RingState) (m : ℕ) (xs : List ℕ) (r : RingState) : Type 0 where
  way : IsOnItsWay start r
  rest : drop m (stations r) ≡ xs

writes_before : (start : RingState) (m : ℕ) (xs : List ℕ) → front start.links (length start.slaves) ≡ m
    → m ≤ length start.slaves → turns start.links (length start.slaves) ≡ true
    → is_up start.links 0 ≡ true
    → WritesNext (KeepsBehind start m xs) (λ (ys : List ℕ). take m ys) 0 StationBefore
unfolding WritesNext
writes_before start m xs is low turning up j place wanted r at keeps address inside result later done =
    let way : IsOnItsWay start r = keeps.way in
    let station : ℕ = wanted.station in
    let d : DatagramRecord = turned true (station_write place station) in
    let line : List ControllerState = line_of r in
    let n : ℕ = length line in
    let its : IsLine start r m = line_is start r m way is in
    let limit : length r.slaves ≤ 256 = its.limit in
    let long : length (stations r) ≡ length r.slaves = length-map r.slaves station_of in
    let size : n ≡ length r.slaves = its.size in
    let all : length r.slaves ≡ length start.slaves = way.size in
    let part : length (take m (stations r)) ≡ m =
    length-take-le m (stations r) (omega (arith, long, low, all)) in
    let fits : m ≤ n = omega (arith, low, size, all) in
    let front_part : length (take m line) ≡ m = length-take-le m line fits in
    let same : place ≡ j = omega (arith, at) in
    let here : place < length (take m line) = omega (arith, same, inside, part, front_part) in
    let front_low : front r.links n ≤ n = let f = its.front_is in omega (arith, f, low, size, all) in
    let turns_now : turns r.links n ≡ true =
    ap (λ (i : ℕ). turns r.links i) (size ∙ all)
    ∙ ap (λ (links : Links). turns links (length start.slaves)) way.links ∙ turning in
    let up_now : is_up r.links 0 ≡ true = ap (λ (links : Links). is_up links 0) way.links ∙ up in
    let placed_is : IsPlaced d (front_placed m station place line) 1
    (travelled (calm r.links) (d ∷ []) line) =
    subst (λ (i : ℕ).
    IsPlaced d (front_placed m station place line) i (travelled (calm r.links) (d ∷ []) line))
    (taken_inside place (take m line) here)
    (subst (λ (f : ℕ). IsPlaced d (front_placed f station place line) (taken place (take f line))
    (travelled (calm r.links) (d ∷ []) line)) its.front_is
    (trip_circling r.links station place line its.are turns_now up_now
    (omega (arith, here, front_part, fits, limit, size)) front_low)) in
    talk_goes (HasPiece (KeepsBehind start m xs) (λ (ys : List ℕ). take m ys)
    (put j station (take m (stations r)))) (write (address_write place station true)) result r later
    (λ answer between asks.
    let g : IsGone 1 (map word (front_placed m station place line)) answer r between =
    gone d (front_placed m station place line) 1 answer r between way.ring
    (station_mild true place station) (front_size m station place line ∙ size) placed_is asks in
    let parted : stations between
    ≡ map word (placed station place (take m line)) ++ map word (drop m line) =
    g.stations_are ∙ front_words m station place line in
    let seam : length (map word (placed station place (take m line))) ≡ m =
    part_size m station place line fits in (
      one_decides answer g.tells,
      record {
        way = record {
          way = way_then start r between way g.way;
          rest = ap (λ (ys : List ℕ). drop m ys) parted
              ∙ seam_drop m (map word (placed station place (take m line))) (map word (drop m line)) seam
              ∙ sym (drop-map word m line) ∙ ap (λ (ys : List ℕ). drop m ys) (words_of r.slaves)
              ∙ keeps.rest;
        };
        piece = ap (λ (ys : List ℕ). take m ys) parted
            ∙ seam_take m (map word (placed station place (take m line))) (map word (drop m line)) seam
            ∙ take_words m station place line its.are address
            ∙ ap (λ (ys : List ℕ). put place station (take m ys)) (words_of r.slaves)
            ∙ ap (λ (i : ℕ). put i station (take m (stations r))) same;
      },
    )) done

pub before_addressed : (m : ℕ) (line behind : List Wanted) (result : Result (Unit {0}) StepFault)
    (r later : RingState) → ReachesAll r → HaveAddresses line → length line ≡ m → m ≤ length r.slaves
    → front r.links (length r.slaves) ≡ m → turns r.links (length r.slaves) ≡ true
    → is_up r.links 0 ≡ true → drop m (stations r) ≡ map (λ (w : Wanted). w.station) behind
    → Brings RingTrips r 0 line (StationBefore ∷ []) result later
    → AreAddressed (line ++ behind) result r later
before_addressed m line behind result r later ring addresses size low is turning up rest brings =
    let long : length (stations r) ≡ length r.slaves = length-map r.slaves station_of in
    let part : length (take m (stations r)) ≡ m = length-take-le m (stations r) (omega (arith, long, low)) in
    let goes : Goes (HasPiece (KeepsBehind r m (map station_wanted behind)) (λ (xs : List ℕ). take m xs)
    ([] ++ map station_wanted line)) result later =
    given_next (KeepsBehind r m (map station_wanted behind)) (λ (xs : List ℕ). take m xs) 0 StationBefore 0
    line [] (take m (stations r)) result r later
    (writes_before r m (map station_wanted behind) is low turning up) addresses refl (part ∙ sym size)
    (record { way = record { way = way_here r ring; rest = rest }; piece = refl }) brings in
    record {
      came = goes.came;
      way = goes.so.way.way;
      stations_are = sym (take-append-drop m (stations later))
          ∙ ap (λ (xs : List ℕ). xs ++ drop m (stations later)) goes.so.piece
          ∙ ap (λ (xs : List ℕ). map station_wanted line ++ xs) goes.so.way.rest
          ∙ sym (map-append station_wanted line behind);
    }
