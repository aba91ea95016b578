-- Looks and rounds, one after the other, and how many trips they make.
use Rattle.std.proofs.Common.{◌≡◌, ◌≤◌, ℕ, zero, suc, ◌+◌, ◌*◌, ◌-◌, Bool, true, false, List, length, refl}
use Rattle.std.proofs.Common.{sym, ap, ◌∙◌, ◌&&◌, not, subst, arith, inl, inr, Option, None, Some, Ok, Err}
use Rattle.std.proofs.Math.Nat.{suc-mul}
use Rattle.ec_diag.specs.declared.located.Located.{Located}
use Rattle.ec_map.specs.Item.{ItemRecord}
use Rattle.ec_master.specs.declared.verdict.Verdict.TheVariants.{Good, Short, Over}
use Rattle.ec_run.specs.Cycles.{End, counted}
use Rattle.ec_run.specs.declared.counts.Counts.{Counts}
use Rattle.ec_run.specs.Travels.{IsWithin, Travels, turn_trips}
use Rattle.ec_run.specs.Watched.{PortsTrip, WatchedState, WatchedTrips, untold}
use Rattle.ec_ring.specs.Arrivals.{copies_came}
use Rattle.ec_run.specs.declared.cycles.Cycles.{Cycles}
use Rattle.ec_run.specs.declared.wanted.Wanted.{Wanted}
use Rattle.ec_run.proofs.Laws.{along_within, cycle_within, filled_length, looked_at_within, turn_within}
use Rattle.ec_run.proofs.Laws.{within_less}
use Rattle.ec_acyclic.proofs.Laws.{service_turn_within}
use Rattle.ec_run.proofs.Laws.{within_none, within_one, within_then}
use Rattle.ecat_master.specs.Course.{AreLooks, HeardTrips, IsCourse, IsFollowed, IsLook, IsRound, Sides}
use Rattle.ecat_master.specs.Course.{IsCaredFor, MayBeLooked, MayBeLookedAt, Rounds, is_last_look}
use Rattle.ecat_master.specs.Course.{beside_trips, round_trips}
use Rattle.ecat_master.specs.Last.{in_op}
use Rattle.ecat_master.specs.Over.{ends_well, stops_behind}
use Rattle.ecat_master.specs.Task.{Listens, TakesOutputs, items_with}
use Rattle.ecat_master.specs.declared.run.LinePlan.{LinePlan}

-- ---- looks at the cable

-- what the looks that are left come to, from the ports as they are now, is what all come to
abbrev pub LooksOn : {P : Type 0} → HeardTrips P → P → P → ℕ → ℕ → ℕ → Type 0
LooksOn {P} heard start now slaves all left =
    (found : Option Located) (later : P) → AreLooks heard now slaves left found later
    → AreLooks heard start slaves all found later

-- what follows a look behind which the ports are between, if no other look is needed and if one is
abbrev Behind : {P : Type 0} → HeardTrips P → P → ℕ → ℕ → Option Located → Option Located → P → Bool → Type 0
Behind heard between slaves less first found later true = (found ≡ first) × (later ≡ between)
Behind heard between slaves less first found later false = AreLooks heard between slaves less found later

look_more : {P : Type 0} (heard : HeardTrips P) (now between later : P) (slaves less : ℕ)
    (first found : Option Located) → IsLook heard now slaves first between → is_last_look first ≡ false
    → AreLooks heard between slaves less found later → AreLooks heard now slaves (suc less) found later
unfolding AreLooks
look_more {P} heard now between later slaves less first found look is more = (
  first,
  between,
  look,
  subst (Behind heard between slaves less first found later) (sym is) more,
)

look_last : {P : Type 0} (heard : HeardTrips P) (now later : P) (slaves less : ℕ) (found : Option Located)
    → IsLook heard now slaves found later → is_last_look found ≡ true
    → AreLooks heard now slaves (suc less) found later
unfolding AreLooks
look_last {P} heard now later slaves less found look is =
    let both : (found ≡ found) × (later ≡ later) = (refl, refl) in
    (found, later, look, subst (Behind heard later slaves less found found later) (sym is) both)

look_only : {P : Type 0} (heard : HeardTrips P) (now later : P) (slaves : ℕ) (found : Option Located)
    → IsLook heard now slaves found later → AreLooks heard now slaves 0 found later
unfolding AreLooks
look_only heard now later slaves found look = look

pub looks_on : {P : Type 0} (heard : HeardTrips P) (start now between : P) (slaves all left less : ℕ)
    (first : Option Located) → LooksOn heard start now slaves all left → left ≡ suc less
    → IsLook heard now slaves first between → is_last_look first ≡ false
    → LooksOn heard start between slaves all less
looks_on heard start now between slaves all left less first so_far is look not_last found later more =
    so_far found later
    (subst (λ (n : ℕ). AreLooks heard now slaves n found later) (sym is)
    (look_more heard now between later slaves less first found look not_last more))

pub looks_known : {P : Type 0} (heard : HeardTrips P) (start now later : P) (slaves all left less : ℕ)
    (found : Option Located) → LooksOn heard start now slaves all left → left ≡ suc less
    → IsLook heard now slaves found later → is_last_look found ≡ true
    → AreLooks heard start slaves all found later
looks_known heard start now later slaves all left less found so_far is look last =
    so_far found later
    (subst (λ (n : ℕ). AreLooks heard now slaves n found later) (sym is)
    (look_last heard now later slaves less found look last))

pub looks_end : {P : Type 0} (heard : HeardTrips P) (start now later : P) (slaves all left : ℕ)
    (found : Option Located) → LooksOn heard start now slaves all left → left ≡ 0
    → IsLook heard now slaves found later → AreLooks heard start slaves all found later
looks_end heard start now later slaves all left found so_far is look =
    so_far found later
    (subst (λ (n : ℕ). AreLooks heard now slaves n found later) (sym is)
    (look_only heard now later slaves found look))

-- ---- behind a cycle

pub not_followed : {P : Type 0} (heard : HeardTrips P) (line : List Wanted) (is_last : Bool)
    (before : WatchedState P) → IsFollowed heard line is_last before before
not_followed heard line is_last before = IsFollowed.looked (inl refl)

-- ---- rounds

-- a cycle is counted once, whatever its end
counted_once : (end : End) (c : Counts) → (counted end c).cycles ≡ c.cycles + 1
counted_once (Err fault) c = refl
counted_once (Ok Good) c = refl
counted_once (Ok (Short k)) c = refl
counted_once (Ok (Over k)) c = refl

pub no_rounds : {P D T : Type 0} (sides : Sides P D T) (planned : LinePlan) (s : Cycles) (ports : WatchedState P)
    → IsCourse sides planned s ports None s ports
unfolding Rounds
no_rounds sides planned s ports =
    record { number = 0; rounds = (refl, refl, refl); counts = omega arith }

pub one_round : {P D T : Type 0} (sides : Sides P D T) (planned : LinePlan) (s now after : Cycles)
    (start ports later : WatchedState P) (last : Option End) (end : End)
    → IsCourse sides planned s start last now ports
    → IsRound sides planned now ports end after later
    → IsCourse sides planned s start (Some end) after later
unfolding Rounds
one_round sides planned s now after start ports later last end course round =
    let before : now.counts.cycles ≡ s.counts.cycles + course.number = course.counts in
    let same : round.supplied.counts.cycles ≡ now.counts.cycles =
    ap (λ (c : Cycles). c.counts.cycles) round.takes.now_is in
    let counts : after.counts.cycles ≡ round.supplied.counts.cycles + 1 =
    ap (λ (c : Cycles). c.counts.cycles) round.cycle.after_is ∙ counted_once end round.supplied.counts in
    record {
      number = suc course.number;
      rounds = (now, ports, last, end, course.rounds, round, refl);
      counts = omega (arith, before, same, counts);
    }

-- ---- how many items

items_length : (are_others : Bool) (image : List ℕ) (items : List ItemRecord)
    → length (items_with are_others image items) ≡ length items
items_length true image items = filled_length image items
items_length false image items = refl

-- the outputs of a task leave as many items as there were
pub supplied_length : {D : Type 0} (listens : Listens D) (held : D → List ℕ) (s now : Cycles)
    → TakesOutputs listens held s now → length now.asked ≡ length s.asked
supplied_length listens held s now takes =
    ap (λ (c : Cycles). length c.asked) takes.now_is
    ∙ items_length takes.are_others (held takes.later) s.asked

-- ---- how many trips

-- what the copies told aside, trips of watched ports are trips of the ports
travels_aside : {P : Type 0} (heard : HeardTrips P) (n : ℕ) (before later : WatchedState P)
    → Travels (WatchedTrips heard) n before later → Travels (PortsTrip heard) n before.ports later.ports
unfolding Travels
travels_aside heard zero before later same = ap (λ s. s.ports) same
travels_aside heard (suc n) before later (sent, came, between, trip, rest) = (
  sent,
  came,
  between.ports,
  record { arrivals = trip.arrivals; made = trip.made; copies = trip.copies },
  travels_aside heard n between later rest,
)

pub within_aside : {P : Type 0} (heard : HeardTrips P) (most : ℕ) (before later : WatchedState P)
    → IsWithin (WatchedTrips heard) most before later
    → IsWithin (PortsTrip heard) most before.ports later.ports
within_aside heard most before later within = record {
  number = within.number;
  bound = within.bound;
  travels = travels_aside heard within.number before later within.travels;
}

look_within : {P : Type 0} (heard : HeardTrips P) (before later : P) (slaves : ℕ) (found : Option Located)
    → IsLook heard before slaves found later → IsWithin (PortsTrip heard) 1 before later
look_within heard before later slaves found look =
    let located = look.located in
    within_one (PortsTrip heard) before later _ (copies_came located.came)
    (record { arrivals = located.came; made = located.made; copies = refl })

look_then_within : {P : Type 0} (heard : HeardTrips P) (more slaves : ℕ) (before between later : P)
    (first found : Option Located) (is : Bool) → IsLook heard before slaves first between
    → Behind heard between slaves more first found later is
    → (AreLooks heard between slaves more found later → IsWithin (PortsTrip heard) (more + 1) between later)
    → IsWithin (PortsTrip heard) (suc more + 1) before later
look_then_within heard more slaves before between later first found true look (is, same) others =
    let less : 1 ≤ suc more + 1 = omega arith in
    within_less (PortsTrip heard) 1 (suc more + 1) before later less
    (subst (λ p. IsWithin (PortsTrip heard) 1 before p) (sym same)
    (look_within heard before between slaves first look))
look_then_within heard more slaves before between later first found false look rest others =
    let less : 1 + (more + 1) ≤ suc more + 1 = omega arith in
    within_less (PortsTrip heard) (1 + (more + 1)) (suc more + 1) before later less
    (within_then (PortsTrip heard) 1 (more + 1) before between later
    (look_within heard before between slaves first look) (others rest))

pub looks_within : {P : Type 0} (heard : HeardTrips P) (more slaves : ℕ) (before later : P)
    (found : Option Located) → AreLooks heard before slaves more found later
    → IsWithin (PortsTrip heard) (more + 1) before later
unfolding AreLooks
looks_within heard zero slaves before later found look = look_within heard before later slaves found look
looks_within heard (suc more) slaves before later found (first, between, look, rest) =
    look_then_within heard more slaves before between later first found (is_last_look first) look rest
    (λ others. looks_within heard more slaves between later found others)

looked_within : {P : Type 0} (heard : HeardTrips P) (slaves : ℕ) (before later : WatchedState P)
    → MayBeLooked heard before slaves later → IsWithin (PortsTrip heard) 1 before.ports later.ports
looked_within heard slaves before later (inl same) =
    within_none (PortsTrip heard) 1 before.ports later.ports (ap (λ s. s.ports) same)
looked_within heard slaves before later (inr (found, once)) =
    look_within heard before.ports later.ports slaves found once.look

looked_at_once : {P : Type 0} (heard : HeardTrips P) (line : List Wanted) (before later : WatchedState P)
    → MayBeLookedAt heard line before later → IsWithin (WatchedTrips heard) 1 before later
looked_at_once heard line before later (MayBeLookedAt.none same) =
    within_none (WatchedTrips heard) 1 before later same
looked_at_once heard line before later (MayBeLookedAt.looked_at place wanted seen there looked) =
    looked_at_within (WatchedTrips heard) before later wanted.station seen looked

seen_to_once : {P : Type 0} (heard : HeardTrips P) (line : List Wanted) (before later : WatchedState P)
    → IsCaredFor heard line before later → IsWithin (WatchedTrips heard) 1 before later
seen_to_once heard line before later (IsCaredFor.looked_at looked) =
    looked_at_once heard line before later looked
seen_to_once heard line before later (IsCaredFor.looked_along first result along) =
    along_within (WatchedTrips heard) before later line first result along
seen_to_once heard line before later (IsCaredFor.turned wanted recovery turn there taken) =
    let less : turn_trips ≤ 1 = omega arith in
    within_less (WatchedTrips heard) turn_trips 1 before later less
    (turn_within (WatchedTrips heard) before later wanted recovery turn taken)
seen_to_once heard line before later (IsCaredFor.served place wanted talk turn there its_own taken) =
    service_turn_within (WatchedTrips heard) before later talk turn taken

some_beside : (stop : Bool) → 1 ≤ beside_trips stop
some_beside false = omega arith
some_beside true = omega arith

three_beside : (stop : Bool) → stop ≡ true → 1 + (1 + 1) ≤ beside_trips stop
three_beside true is = omega arith
three_beside false is = absurd (cc (is))

stops_by : (stop other : Bool) → stop && other ≡ true → stop ≡ true
stops_by true other is = refl
stops_by false other is = absurd (cc (is))

may_stop : (planned : LinePlan) (end : End) (all_in_op : Bool)
    → stops_behind planned.plan.now end all_in_op ≡ true → planned.plan.now.stop ≡ true
may_stop planned end all_in_op stops = stops_by planned.plan.now.stop (not (ends_well end all_in_op)) stops

followed_within : {P : Type 0} (heard : HeardTrips P) (line : List Wanted) (is_last stop : Bool)
    (before later : WatchedState P) → (is_last ≡ true → stop ≡ true)
    → IsFollowed heard line is_last before later
    → IsWithin (PortsTrip heard) (beside_trips stop) before.ports later.ports
followed_within heard line is_last stop before later stops (IsFollowed.looked looks) =
    within_less (PortsTrip heard) 1 (beside_trips stop) before.ports later.ports (some_beside stop)
    (looked_within heard (length line) before later looks)
followed_within heard line is_last stop before later stops (IsFollowed.seen_to cared) =
    within_less (PortsTrip heard) 1 (beside_trips stop) before.ports later.ports (some_beside stop)
    (within_aside heard 1 before later (seen_to_once heard line before later cared))
followed_within heard line is_last stop before later stops
    (IsFollowed.ended last cable between looks cared looked) =
    within_less (PortsTrip heard) (1 + (1 + 1)) (beside_trips stop) before.ports later.ports
    (three_beside stop (stops last))
    (within_then (PortsTrip heard) 1 (1 + 1) before.ports cable.ports later.ports
    (looked_within heard (length line) before cable looks)
    (within_aside heard (1 + 1) cable later
    (within_then (WatchedTrips heard) 1 1 cable between later (seen_to_once heard line cable between cared)
    (looked_at_once heard line between later looked))))

round_within : {P D T : Type 0} (sides : Sides P D T) (planned : LinePlan) (s after : Cycles)
    (before later : WatchedState P) (end : End)
    → IsRound sides planned s before end after later
    → IsWithin (PortsTrip sides.heard) (round_trips (length s.asked) planned.plan.now.stop) before.ports
    later.ports
round_within sides planned s after before later end round =
    let trips = PortsTrip sides.heard in
    let stop = planned.plan.now.stop in
    let all_in_op = in_op planned.plan.now.states after.image in
    subst (λ (n : ℕ). IsWithin trips (round_trips n stop) before.ports later.ports)
    (supplied_length sides.listens sides.held s round.supplied round.takes)
    (within_then trips (length round.supplied.asked) (beside_trips stop) before.ports round.behind.ports
    later.ports
    (within_aside sides.heard (length round.supplied.asked) (untold before.ports) round.behind
    (cycle_within (WatchedTrips sides.heard) (untold before.ports) round.behind planned.plan.now.outputs
    planned.expected.now round.supplied after end round.cycle))
    (followed_within sides.heard planned.line.now (stops_behind planned.plan.now end all_in_op) stop
    round.behind later (may_stop planned end all_in_op) round.followed))

-- each asks as many items as the first one
rounds_ask : {P D T : Type 0} (sides : Sides P D T) (planned : LinePlan) (n : ℕ) (s after : Cycles)
    (before later : WatchedState P) (last : Option End)
    → Rounds sides planned n s before last after later
    → length after.asked ≡ length s.asked
unfolding Rounds
rounds_ask sides planned zero s after before later last (is, same, none) =
    ap (λ (c : Cycles). length c.asked) is
rounds_ask sides planned (suc n) s after before later last
    (now, ports, end_before, end, rounds, round, some) =
    ap (λ (c : Cycles). length c.asked) round.cycle.after_is
    ∙ supplied_length sides.listens sides.held now round.supplied round.takes
    ∙ rounds_ask sides planned n s now before ports end_before rounds

pub rounds_within : {P D T : Type 0} (sides : Sides P D T) (planned : LinePlan) (n : ℕ) (s after : Cycles)
    (before later : WatchedState P) (last : Option End)
    → Rounds sides planned n s before last after later
    → IsWithin (PortsTrip sides.heard) (n * round_trips (length s.asked) planned.plan.now.stop) before.ports
    later.ports
unfolding Rounds
rounds_within sides planned zero s after before later last (is, same, none) =
    within_none (PortsTrip sides.heard) _ before.ports later.ports (ap (λ x. x.ports) same)
rounds_within sides planned (suc n) s after before later last
    (now, ports, end_before, end, rounds, round, some) =
    let trips = PortsTrip sides.heard in
    let t : ℕ = round_trips (length s.asked) planned.plan.now.stop in
    let asked : length now.asked ≡ length s.asked =
    rounds_ask sides planned n s now before ports end_before rounds in
    let size : suc n * t ≡ n * t + t = suc-mul n t in
    let less : n * t + t ≤ suc n * t = omega (arith, size) in
    within_less trips (n * t + t) (suc n * t) before.ports later.ports less
    (within_then trips (n * t) t before.ports ports.ports later.ports
    (rounds_within sides planned n s now before ports end_before rounds)
    (subst (λ (k : ℕ). IsWithin trips (round_trips k planned.plan.now.stop) ports.ports later.ports) asked
    (round_within sides planned now after ports later end round)))

-- a course makes so many trips at the most for each of its cycles
pub course_within : {P D T : Type 0} (sides : Sides P D T) (planned : LinePlan) (s after : Cycles)
    (before later : WatchedState P) (last : Option End)
    → IsCourse sides planned s before last after later
    → IsWithin (PortsTrip sides.heard)
    ((after.counts.cycles - s.counts.cycles) * round_trips (length s.asked) planned.plan.now.stop)
    before.ports later.ports
course_within sides planned s after before later last course =
    let counts : after.counts.cycles ≡ s.counts.cycles + course.number = course.counts in
    let same : course.number ≡ after.counts.cycles - s.counts.cycles = omega (arith, counts) in
    let most : ℕ = round_trips (length s.asked) planned.plan.now.stop in
    subst (λ (n : ℕ). IsWithin (PortsTrip sides.heard) (n * most) before.ports later.ports) same
    (rounds_within sides planned course.number s after before later last course.rounds)

-- and asks as many items as before
pub course_asks : {P D T : Type 0} (sides : Sides P D T) (planned : LinePlan) (s after : Cycles)
    (before later : WatchedState P) (last : Option End)
    → IsCourse sides planned s before last after later
    → length after.asked ≡ length s.asked
course_asks sides planned s after before later last course =
    rounds_ask sides planned course.number s after before later last course.rounds
