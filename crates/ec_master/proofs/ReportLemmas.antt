-- What is told of the frames of a cycle is what came back of them; and where a ring's trips would have given
-- it, each count is that of the slaves that were passed.
use Rattle.std.proofs.Common.{◌≡◌, ◌<◌, ◌≤◌, ◌+◌, ◌%◌, ℕ, zero, suc, arith, ap, sym, subst, refl, ◌∙◌}
use Rattle.std.proofs.Common.{List, [], ◌∷◌, ◌++◌, length, map, take, get_or, Ok, Err}
use Rattle.std.specs.Prelude.{Result}
use Rattle.std.specs.List.{AllByRecursion}
use Rattle.std.proofs.lemmas.List.{length-append, length-take, length-map, take-append-le, append_assoc}
use Rattle.std.proofs.lemmas.List.{map-append}
use Rattle.ec_wire.specs.Datagram.{DatagramRecord, blank}
use Rattle.ec_merge.specs.Frames.{joined_frame}
use Rattle.ec_merge.specs.Laws.{distance_joined}
use Rattle.ec_merge.specs.Rule.{distance, joined_count}
use Rattle.ec_esc.specs.State.{ControllerState}
use Rattle.ec_line.specs.After.{Entry}
use Rattle.ec_line.specs.Answered.{AnsweredFrame, sent_of}
use Rattle.ec_line.specs.Request.{OnWay}
use Rattle.ec_line.specs.Run.{AnsweredTrips, trips_run}
use Rattle.ec_line.specs.Trip.{Trip, Passed, passed, joined_of, returned}
use Rattle.ec_map.specs.Item.{ItemRecord, IsItem}
use Rattle.ec_ring.specs.Ring.{RingState, line_of}
use Rattle.ec_ring.specs.declared.links.TheConstants.{MAX_SLAVES}
use Rattle.ec_ring.specs.declared.port.PortFault.{PortFault}
use Rattle.ec_ring.specs.declared.weather.Came.{Came}
use Rattle.ec_ring.specs.declared.weather.Weather.{Weather}
use Rattle.ec_master.specs.Certificate.{carriers, count_of}
use Rattle.ec_master.specs.Cut.{concat, entries_from, frames_of}
use Rattle.ec_master.specs.Ports.{Trips, Outcome, Sends, IsPortCycle, came_or}
use Rattle.ec_master.specs.Report.{moved_in, added, counts_of, ReportRecord, no_report, with_trip, with_trips}
use Rattle.ec_master.specs.Report.{Reported, ReportedTrips, CycleIsTold, counts_by_passes}
use Rattle.ec_master.specs.Given.{AllThatCame, in_turn}
use Rattle.ec_master.specs.Suffice.{Brings, GivenBy, AllGivenBy, FramesSuffice}
use Rattle.ec_master.specs.Travelled.{trips_under, run_under, answers_under}
use Rattle.ec_master.specs.Unordered.{IsAccepted}
use Rattle.ec_master.specs.declared.cycle.CycleFault.{CycleFault}
use Rattle.ec_master.specs.declared.verdict.Verdict.{Verdict}
use Rattle.ec_master.specs.declared.work.TheConstants.{MAX_ITEMS}
use Rattle.ec_master.proofs.CutLemmas.{length-entries}
use Rattle.ec_master.proofs.SlaveLemmas.{trips_ready}
use Rattle.ec_master.proofs.SufficeLemmas.{OnWays, own_given, comes-given, first-given, Behind, frames-trips}
use Rattle.ec_master.proofs.VerdictLemmas.{CountsBy, counts-each, counts-returned, entries_carried}
use Rattle.ec_master.proofs.VerdictLemmas.{entries_under, returned_answers, line_room, count-moved}

-- ---- one frame, datagram by datagram

pub length-moved_in : (sent copy : List DatagramRecord) → length (moved_in sent copy) ≡ length sent
unfolding moved_in
length-moved_in [] copy = refl
length-moved_in (s ∷ ss) [] = omega (arith, length-moved_in ss [])
length-moved_in (s ∷ ss) (c ∷ cs) = omega (arith, length-moved_in ss cs)

-- the number of a datagram that both have
pub moved-there : (sent copy : List DatagramRecord) (k : ℕ) → k < length sent → k < length copy
    → get_or (moved_in sent copy) k 0 ≡ distance (get_or sent k blank).counter (get_or copy k blank).counter
unfolding moved_in
moved-there [] copy k inside there = absurd (omega (arith, inside))
moved-there (s ∷ ss) [] k inside there = absurd (omega (arith, there))
moved-there (s ∷ ss) (c ∷ cs) zero inside there = refl
moved-there (s ∷ ss) (c ∷ cs) (suc k) inside there =
    moved-there ss cs k (omega (arith, inside)) (omega (arith, there))

-- and of one that the copy has not
pub moved-missing : (sent copy : List DatagramRecord) (k : ℕ) → k < length sent → length copy ≤ k
    → get_or (moved_in sent copy) k 0 ≡ 0
unfolding moved_in
moved-missing [] copy k inside missing = absurd (omega (arith, inside))
moved-missing (s ∷ ss) [] zero inside missing = refl
moved-missing (s ∷ ss) [] (suc k) inside missing = moved-missing ss [] k (omega (arith, inside)) (omega arith)
moved-missing (s ∷ ss) (c ∷ cs) zero inside missing = absurd (omega (arith, missing))
moved-missing (s ∷ ss) (c ∷ cs) (suc k) inside missing =
    moved-missing ss cs k (omega (arith, inside)) (omega (arith, missing))

-- in a frame as it was sent no counter has moved
pub moved-itself : (sent : List DatagramRecord) (k : ℕ) → k < length sent → (get_or sent k blank).counter < 65536
    → get_or (moved_in sent sent) k 0 ≡ 0
moved-itself sent k inside small =
    let c : ℕ = (get_or sent k blank).counter in
    let none : distance c c ≡ 0 = omega (arith, small) in
    moved-there sent sent k inside inside ∙ none

length-added : (xs ys : List ℕ) → length ys ≡ length xs → length (added xs ys) ≡ length xs
unfolding added
length-added [] ys same = refl
length-added (x ∷ xs) [] same = absurd (omega (arith, same))
length-added (x ∷ xs) (y ∷ ys) same = omega (arith, length-added xs ys (omega (arith, same)))

added_at : (xs ys : List ℕ) (k : ℕ) → k < length xs → length ys ≡ length xs
    → get_or (added xs ys) k 0 ≡ (get_or xs k 0 + get_or ys k 0) % 65536
unfolding added
added_at [] ys k inside same = absurd (omega (arith, inside))
added_at (x ∷ xs) [] k inside same = absurd (omega (arith, same))
added_at (x ∷ xs) (y ∷ ys) zero inside same = refl
added_at (x ∷ xs) (y ∷ ys) (suc k) inside same =
    added_at xs ys k (omega (arith, inside)) (omega (arith, same))

-- there are as many counts as datagrams, and each is that of both copies together
pub length-counts : (sent : List DatagramRecord) (came : Came) → length (counts_of sent came) ≡ length sent
length-counts sent came =
    let xs : List ℕ = moved_in sent (came_or came.a sent) in
    let ys : List ℕ = moved_in sent (came_or came.b sent) in
    let a : length xs ≡ length sent = length-moved_in sent (came_or came.a sent) in
    let b : length ys ≡ length sent = length-moved_in sent (came_or came.b sent) in
    length-added xs ys (b ∙ sym a) ∙ a

pub count_at : (sent : List DatagramRecord) (came : Came) (k : ℕ) → k < length sent
    → get_or (counts_of sent came) k 0
    ≡ (get_or (moved_in sent (came_or came.a sent)) k 0
    + get_or (moved_in sent (came_or came.b sent)) k 0) % 65536
count_at sent came k inside =
    let xs : List ℕ = moved_in sent (came_or came.a sent) in
    let ys : List ℕ = moved_in sent (came_or came.b sent) in
    let a : length xs ≡ length sent = length-moved_in sent (came_or came.a sent) in
    let b : length ys ≡ length sent = length-moved_in sent (came_or came.b sent) in
    added_at xs ys k (omega (arith, inside, a)) (b ∙ sym a)

-- ---- what is kept

-- one more is kept while there is room
pub take-room : {S : Type 0} (n : ℕ) (xs : List S) (y : S) → length (take n xs) < n
    → take n (xs ++ y ∷ []) ≡ take n xs ++ y ∷ []
take-room zero xs y room = absurd (omega (arith, room))
take-room {S} (suc zero) [] y room = refl
take-room {S} (suc (suc n)) [] y room = refl
take-room {S} (suc n) (x ∷ xs) y room = ap (λ (l : List S). x ∷ l) (take-room n xs y (omega (arith, room)))

pub take-full : {S : Type 0} (n : ℕ) (xs : List S) (y : S) → length (take n xs) ≡ n
    → take n (xs ++ y ∷ []) ≡ take n xs
take-full zero xs y full = refl
take-full (suc n) [] y full = absurd (omega (arith, full))
take-full {S} (suc n) (x ∷ xs) y full = ap (λ (l : List S). x ∷ l) (take-full n xs y (omega (arith, full)))

-- what is kept of the first ones and of those behind them is what is kept of all
pub take-again : {S : Type 0} (n : ℕ) (xs ys : List S) → take n (take n xs ++ ys) ≡ take n (xs ++ ys)
take-again zero xs ys = refl
take-again (suc n) [] ys = refl
take-again {S} (suc n) (x ∷ xs) ys = ap (λ (l : List S). x ∷ l) (take-again n xs ys)

pub take-all : {S : Type 0} (n : ℕ) (xs : List S) → length xs ≤ n → take n xs ≡ xs
take-all zero [] fits = refl
take-all zero (x ∷ xs) fits = absurd (omega (arith, fits))
take-all (suc n) [] fits = refl
take-all {S} (suc n) (x ∷ xs) fits = ap (λ (l : List S). x ∷ l) (take-all n xs (omega (arith, fits)))

pub take-whole : {S : Type 0} (n : ℕ) (xs : List S) → length xs ≤ n → take n (xs ++ []) ≡ xs
take-whole zero [] fits = refl
take-whole zero (x ∷ xs) fits = absurd (omega (arith, fits))
take-whole (suc n) [] fits = refl
take-whole {S} (suc n) (x ∷ xs) fits = ap (λ (l : List S). x ∷ l) (take-whole n xs (omega (arith, fits)))

-- one more than there is room for is kept while there is room
pub kept-room : {S : Type 0} (n : ℕ) (xs : List S) (y : S) → length xs < n
    → take n (xs ++ y ∷ []) ≡ xs ++ y ∷ []
kept-room n xs y room = take-all n (xs ++ y ∷ []) (omega (arith, room, length-append xs (y ∷ [])))

pub kept-full : {S : Type 0} (n : ℕ) (xs : List S) (y : S) → length xs ≡ n → take n (xs ++ y ∷ []) ≡ xs
kept-full n xs y full =
    take-append-le n xs (y ∷ []) (omega (arith, full)) ∙ take-all n xs (omega (arith, full))

-- ---- ports that keep a report

-- what such ports brought is what the ports brought, and the report has it
pub record TellsBrought {P : Type 0} (trips : Trips P) (before later : Reported P)
    (frames : List (List DatagramRecord)) (came : AllThatCame) : Type 0 where
  pub brought : Brings trips before.ports frames came later.ports
  pub told : later.report ≡ with_trips before.report frames came

nothing-came : (r : ReportRecord) (frames : List (List DatagramRecord)) → r ≡ with_trips r frames []
unfolding with_trips
nothing-came r [] = refl
nothing-came r (sent ∷ rest) = refl

pub tells_brought : {P : Type 0} (trips : Trips P) (before later : Reported P)
    (frames : List (List DatagramRecord)) (came : AllThatCame)
    → Brings (ReportedTrips trips) before frames came later → TellsBrought trips before later frames came
unfolding Brings with_trips
tells_brought {P} trips before later frames [] brings = record {
  brought = ap (λ (r : Reported P). r.ports) brings;
  told = ap (λ (r : Reported P). r.report) brings ∙ nothing-came before.report frames;
}
tells_brought trips before later [] (came ∷ more) brings = absurd brings
tells_brought trips before later (sent ∷ rest) (came ∷ more) brings =
    let here = brings.1 in
    let behind = tells_brought trips brings.0 later rest more brings.2 in
    record {
      brought = (brings.0.ports, here.made, behind.brought);
      told = behind.told ∙ ap (λ (r : ReportRecord). with_trips r rest more) here.told;
    }

-- ---- counts are passes

-- what moved in two runs of datagrams, one after the other
moved-more : (ss cs ts ds : List DatagramRecord) → length cs ≡ length ss
    → moved_in (ss ++ ts) (cs ++ ds) ≡ moved_in ss cs ++ moved_in ts ds
unfolding moved_in
moved-more [] [] ts ds same = refl
moved-more [] (c ∷ cs) ts ds same = absurd (omega (arith, same))
moved-more (s ∷ ss) [] ts ds same = absurd (omega (arith, same))
moved-more (s ∷ ss) (c ∷ cs) ts ds same =
    ap (λ (l : List ℕ). distance s.counter c.counter ∷ l) (moved-more ss cs ts ds (omega (arith, same)))

-- the joined frame of two copies that are no strangers has moved as both have
moved-joined : (sent a b : List DatagramRecord) → AllByRecursion (λ d. d.counter < 65536) sent
    → length a ≡ length sent → length b ≡ length sent
    → added (moved_in sent a) (moved_in sent b) ≡ moved_in sent (joined_frame sent a b)
unfolding moved_in added
moved-joined [] a b small of_a of_b = refl
moved-joined (s ∷ ss) [] b small of_a of_b = absurd (omega (arith, of_a))
moved-joined (s ∷ ss) (x ∷ xs) [] small of_a of_b = absurd (omega (arith, of_b))
moved-joined (s ∷ ss) (x ∷ xs) (y ∷ ys) small of_a of_b =
    ap (λ (n : ℕ). n ∷ added (moved_in ss xs) (moved_in ss ys))
    (sym (distance_joined s.counter x.counter y.counter small.0))
    ∙ ap (λ (l : List ℕ). distance s.counter (joined_count s.counter x.counter y.counter) ∷ l)
    (moved-joined ss xs ys small.1 (omega (arith, of_a)) (omega (arith, of_b)))

-- what moved on trips over a line, one after the other
unfoldable moved_on : List Trip → List ControllerState → List ℕ
moved_on [] line = []
moved_on (t ∷ ts) line =
    moved_in (sent_of t.entries) (joined_of t (passed t line)) ++ moved_on ts (passed t line).line

small-sent : (es : List Entry) → AllByRecursion (λ (e : Entry). OnWay e.request e.sent) es
    → AllByRecursion (λ (d : DatagramRecord). d.counter < 65536) (sent_of es)
small-sent [] ways = tt
small-sent (e ∷ es) ways = (ways.0.counter, small-sent es ways.1)

-- a trip that gives what came counts so
counts-given : (t : Trip) (line : List ControllerState) (came : Came) → OnWays t → GivenBy t line (Ok came)
    → counts_of (sent_of t.entries) came ≡ moved_in (sent_of t.entries) (joined_of t (passed t line))
counts-given t line came ways given =
    let s : List DatagramRecord = sent_of t.entries in
    let is = own_given t line came ways given in
    moved-joined s (came_or came.a s) (came_or came.b s) (small-sent t.entries ways)
    is.own_a.count is.own_b.count
    ∙ ap (λ (j : List DatagramRecord). moved_in s j) is.joined

-- one frame more counts so
counts-first : (r : ReportRecord) (t : Trip) (line : List ControllerState) (came : Result Came PortFault)
    → OnWays t → GivenBy t line came
    → (with_trip r (sent_of t.entries) came).counts
    ≡ take MAX_ITEMS (r.counts ++ moved_in (sent_of t.entries) (joined_of t (passed t line)))
counts-first r t line (Err failed) ways given = absurd given
counts-first r t line (Ok came) ways given =
    ap (λ (l : List ℕ). take MAX_ITEMS (r.counts ++ l)) (counts-given t line came ways given)

length-kept : {S : Type 0} (n : ℕ) (xs : List S) → length (take n xs) ≤ n
length-kept n xs = omega (arith, length-take n xs)

-- behind a frame that is joined the others go out
behind : {X : Type 0} (between : AllThatCame) (rest : List (List DatagramRecord)) (outcome : Outcome)
    (answer : Result (List DatagramRecord) CycleFault) (joined : List DatagramRecord) → answer ≡ Ok joined
    → ((others : Outcome) → Sends in_turn between rest others [] → X) → Behind between rest outcome answer → X
behind between rest outcome (Err fault) joined is more goes_on =
    absurd (let no : Err fault ≡ Ok joined = is in cc)
behind between rest outcome (Ok frame) joined is more goes_on = more goes_on.0 goes_on.1

-- frames whose copies come back as the trips give them count so
counts-run : (r : ReportRecord) (ts : List Trip) (line : List ControllerState) (came : AllThatCame)
    (outcome : Outcome) → length r.counts ≤ MAX_ITEMS → AllByRecursion OnWays ts → AllGivenBy ts line came
    → Sends in_turn came (map (λ (t : Trip). sent_of t.entries) ts) outcome []
    → (with_trips r (map (λ (t : Trip). sent_of t.entries) ts) came).counts
    ≡ take MAX_ITEMS (r.counts ++ moved_on ts line)
unfolding Sends with_trips moved_on
counts-run r [] line came outcome kept ways given sends = sym (take-whole MAX_ITEMS r.counts kept)
counts-run r (t ∷ ts) line came outcome kept ways given sends =
    let p : Passed = passed t line in
    let sent : List DatagramRecord = sent_of t.entries in
    let rest : List (List DatagramRecord) = map (λ (u : Trip). sent_of u.entries) ts in
    let c : Result Came PortFault = sends.2.came in
    let parts = first-given t ts line came c sends.1 sends.2.made given in
    let first : ReportRecord = with_trip r sent c in
    let here = counts-first r t line c ways.0 parts.0 in
    let room : length first.counts ≤ MAX_ITEMS =
    omega (arith, ap length here, length-kept MAX_ITEMS (r.counts ++ moved_in sent (joined_of t p))) in
    ap (λ (l : AllThatCame). (with_trips r (sent ∷ rest) l).counts) sends.2.made
    ∙ behind sends.1 rest outcome sends.0 (joined_of t p)
    (comes-given t line c sends.0 ways.0 parts.0 sends.2.comes)
    (λ others more. counts-run first ts p.line sends.1 others room ways.1 parts.1 more) sends.3
    ∙ ap (λ (l : List ℕ). take MAX_ITEMS (l ++ moved_on ts p.line)) here
    ∙ take-again MAX_ITEMS (r.counts ++ moved_in sent (joined_of t p)) (moved_on ts p.line)
    ∙ ap (λ (l : List ℕ). take MAX_ITEMS l)
    (append_assoc r.counts (moved_in sent (joined_of t p)) (moved_on ts p.line))

length-answered : (es : List Entry) (xs : List ControllerState) (gs : List DatagramRecord)
    → AnsweredFrame es xs gs → length gs ≡ length (sent_of es)
length-answered [] xs [] answered = refl
length-answered [] xs (g ∷ gs) answered = absurd answered
length-answered (e ∷ es) xs [] answered = absurd answered
length-answered (e ∷ es) xs (g ∷ gs) answered = omega (arith, length-answered es xs gs answered.1)

-- what moved on trips is what moved from all that was sent to all that was joined
moved_on-all : (who : Trip → List ControllerState) (ts : List Trip) (line : List ControllerState)
    → AnsweredTrips ts who (trips_run ts line).joined
    → moved_on ts line ≡ moved_in (sent_of (entries_carried ts)) (concat (trips_run ts line).joined)
unfolding moved_on trips_run moved_in
moved_on-all who [] line answered = refl
moved_on-all who (t ∷ ts) line answered =
    let j : List DatagramRecord = joined_of t (passed t line) in
    let more : List DatagramRecord = concat (trips_run ts (passed t line).line).joined in
    ap (λ (l : List ℕ). moved_in (sent_of t.entries) j ++ l)
    (moved_on-all who ts (passed t line).line answered.1)
    ∙ sym (moved-more (sent_of t.entries) j (sent_of (entries_carried ts)) more
    (length-answered t.entries (who t) j answered.0))
    ∙ ap (λ (l : List DatagramRecord). moved_in l (j ++ more))
    (sym (map-append (λ (e : Entry). e.sent) t.entries (entries_carried ts)))

-- of items that the slaves answer who were passed, the counts are those of the passes
moved-passes : (j : ℕ) (items : List ItemRecord) (us : List Trip) (gs : List DatagramRecord)
    (line : List ControllerState) → length line ≤ 256 → AllByRecursion IsItem items
    → CountsBy line (entries_from j items) us gs
    → moved_in (sent_of (entries_from j items)) gs ≡ counts_by_passes items us line
unfolding moved_in counts_by_passes entries_from
moved-passes j [] us gs line room items counts = refl
moved-passes j (r ∷ rs) [] gs line room items counts = absurd counts
moved-passes j (r ∷ rs) (u ∷ us) [] line room items counts = absurd counts
moved-passes j (r ∷ rs) (u ∷ us) (g ∷ gs) line room items counts =
    ap (λ (n : ℕ). n ∷ moved_in (sent_of (entries_from (suc j) rs)) gs)
    (count-moved r u line g.counter room items.0 counts.0)
    ∙ ap (λ (l : List ℕ). count_of r u line ∷ l) (moved-passes (suc j) rs us gs line room items.1 counts.1)

-- where a ring's trips would have given what came, each count is that of the slaves that were passed
counts-passes : (items : List ItemRecord) (expected : List ℕ) (came : AllThatCame)
    (result : Result Verdict CycleFault) (items_later : List ItemRecord) → AllByRecursion IsItem items
    → length items ≤ MAX_ITEMS → IsPortCycle in_turn came items expected result items_later []
    → (ws : List Weather) (r : RingState) → length r.slaves ≤ MAX_SLAVES → IsAccepted r.slaves items
    → AllGivenBy (trips_under ws r items) (line_of r) came
    → (with_trips no_report (map sent_of (frames_of items)) came).counts
    ≡ counts_by_passes items (carriers (trips_under ws r items)) (line_of r)
counts-passes items expected came result items_later are few cycle ws r room accepted given =
    let line : List ControllerState = line_of r in
    let ts : List Trip = trips_under ws r items in
    let frames : List (List DatagramRecord) = map (λ (t : Trip). sent_of t.entries) ts in
    let who : Trip → List ControllerState = λ t. returned t line in
    let gs : List DatagramRecord = answers_under ws r items in
    let answered : AnsweredTrips ts who (run_under ws r items).joined =
    returned_answers ws r items accepted are in
    let each : CountsBy line (entries_from 0 items) (carriers ts) gs =
    subst (λ (es : List Entry). CountsBy line es (carriers ts) gs) (entries_under ws r items)
    (counts-each line ts (run_under ws r items).joined
    (counts-returned ts line (run_under ws r items).joined answered)) in
    let sends : Sends in_turn came frames cycle.outcome [] =
    subst (λ (fs : List (List DatagramRecord)). Sends in_turn came fs cycle.outcome [])
    (sym (frames-trips ws r items)) cycle.sends in
    let size : length (moved_in (sent_of (entries_from 0 items)) gs) ≤ MAX_ITEMS =
    omega (
      arith,
      length-moved_in (sent_of (entries_from 0 items)) gs,
      length-map (entries_from 0 items) (λ (e : Entry). e.sent),
      length-entries 0 items,
      few,
    ) in
    ap (λ (fs : List (List DatagramRecord)). (with_trips no_report fs came).counts)
    (sym (frames-trips ws r items))
    ∙ counts-run no_report ts line came cycle.outcome (omega arith)
    (trips_ready ws r items accepted are).entries given sends
    ∙ ap (λ (l : List ℕ). take MAX_ITEMS l) (moved_on-all who ts line answered)
    ∙ ap (λ (es : List Entry). take MAX_ITEMS (moved_in (sent_of es) gs)) (entries_under ws r items)
    ∙ take-all MAX_ITEMS (moved_in (sent_of (entries_from 0 items)) gs) size
    ∙ moved-passes 0 items (carriers ts) gs line (line_room r room) are each

-- ---- a cycle over ports that keep a report

pub cycle_is_told : {P : Type 0} (trips : Trips P) (before later : Reported P) (items : List ItemRecord)
    (expected : List ℕ) (result : Result Verdict CycleFault) (items_later : List ItemRecord)
    → AllByRecursion IsItem items → length items ≤ MAX_ITEMS → before.report ≡ no_report
    → FramesSuffice (ReportedTrips trips) before items expected result items_later later
    → CycleIsTold trips before.ports items expected result items_later later.report later.ports
cycle_is_told trips before later items expected result items_later are few anew says =
    let frames : List (List DatagramRecord) = map sent_of (frames_of items) in
    let tells = tells_brought trips before later frames says.came says.brought in
    let told : later.report ≡ with_trips no_report frames says.came =
    tells.told ∙ ap (λ (r : ReportRecord). with_trips r frames says.came) anew in
    record {
      came = says.came;
      brought = tells.brought;
      cycle = says.cycle;
      says = says.says;
      says_moving = says.says_moving;
      told = told;
      passes = λ ws r room accepted given. ap (λ (x : ReportRecord). x.counts) told
          ∙ counts-passes items expected says.came result items_later are few says.cycle ws r room accepted
          given;
    }
