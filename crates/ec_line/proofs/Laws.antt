-- The laws of a line: what each law of src/promises.rt promises, clause by clause, and what crates above cite
-- besides of steady bytes, of claims and of gains.
use Rattle.std.proofs.Common.{◌≡◌, ℕ, ◌+◌, ◌*◌, ◌<◌, ◌≤◌, true, cond, List, [], ◌∷◌, length, None, Some, eqb}
use Rattle.std.proofs.Common.{◌++◌, map, drop, false}
use Rattle.std.specs.Prelude.{◌↔◌, slice_index}
use Rattle.std.specs.List.{sum_by, AllByRecursion, Contains}
use Rattle.std.specs.Option.{option_map}
use Rattle.ec_regs.specs.Bits.{bit}
use Rattle.ec_regs.specs.declared.sync_man.SyncMan.{SyncMan}
use Rattle.ec_regs.specs.declared.registers.TheConstants.{PROCESS_MEMORY, PROCESS_MEMORY_SIZE}
use Rattle.ec_regs.specs.declared.registers.TheConstants.{STATION_ADDRESS}
use Rattle.ec_wire.specs.Datagram.{DatagramRecord, ado_of}
use Rattle.ec_merge.specs.Frames.{IsOwn, joined_record}
use Rattle.ec_areas.specs.Areas.{is_locked}
use Rattle.ec_areas.specs.Records.{fmmus_of, sync_manager_at, sync_managers_of}
use Rattle.ec_esc.specs.State.{ControllerState, IsController, word_at}
use Rattle.ec_esc.specs.Pass.{serves_range_read, pass}
use Rattle.ec_line.specs.Answers.{Answers, AllAgree}
use Rattle.ec_line.specs.Answered.{Answered, sent_of, AnsweredFrame}
use Rattle.ec_line.specs.Claims.{effect_of, claim, gain, taken}
use Rattle.ec_line.specs.Mapping.{without_status, mapping_of, mapping}
use Rattle.ec_line.specs.Moved.{AllMoved}
use Rattle.ec_line.specs.Moving.{IsAlike, HasMoved}
use Rattle.ec_line.specs.Request.{Request, OnWay}
use Rattle.ec_wire.specs.declared.kind.Kind.TheVariants.{Lrd, Lwr, Lrw, Brd}
use Rattle.ec_line.specs.Accepted.{Accepts, AcceptsAll}
use Rattle.ec_line.specs.After.{after, Entry, after_frame}
use Rattle.ec_line.specs.Trip.{line_pass, Trip, passed, returned}
use Rattle.ec_line.specs.Steady.{is_input, is_steady, SameSteady, IsLater}
use Rattle.ec_line.specs.Fit.{Reads, Writes, IsFitAlone, AllApart, IsFitLine}
use Rattle.ec_line.specs.Memory.{SameMemories}
use Rattle.ec_line.specs.Moving.{AllAlike, Visit, MovingTrips, joined_on_each, behind, CountsReturned}
use Rattle.ec_line.specs.Moving.{AnsweredAtMoments, SameWritten, SameShownWritten}
use Rattle.ec_line.specs.Run.{trips_run, TripsReady, AnsweredTrips, CountsWholeAll, after_trips}
use Rattle.ec_line.specs.Run.{reached_trips, visited_trips, IsWholeTrip}
use Rattle.ec_line.specs.Shown.{ShowsLastInRun, SameShownWhere, NoAreaTwice, ShowsLast}
use Rattle.ec_esc.specs.declared.counting.TheConstants.{MOST_CONTROLLERS}
use Rattle.ec_line.proofs.StepLemmas as steps
use Rattle.ec_line.proofs.AcceptedLemmas as accepted
use Rattle.ec_line.proofs.OwnLemmas as own
use Rattle.ec_line.proofs.SteadyLemmas as steady
use Rattle.ec_line.proofs.SetLemmas as sets
use Rattle.ec_line.proofs.FitLemmas as fit
use Rattle.ec_line.proofs.CertificateLemmas as certificate
use Rattle.ec_line.proofs.FrameLemmas as frames
use Rattle.ec_line.proofs.JoinLemmas as joins
use Rattle.ec_line.proofs.AnswersLemmas as answers
use Rattle.ec_line.proofs.CoreLemmas as core
use Rattle.ec_line.proofs.RunLemmas as runs
use Rattle.ec_line.proofs.ShownLemmas as shown
use Rattle.ec_line.proofs.ShownRunLemmas as shown_runs
use Rattle.ec_line.proofs.MemoryLemmas as memories
use Rattle.ec_line.proofs.AlikeLemmas as alike
use Rattle.ec_line.proofs.MovingRunLemmas as moving_runs
use Rattle.ec_line.proofs.MovingWrittenLemmas as moving_written
use Rattle.ec_line.proofs.MovingShownLemmas as moving_shown_runs
use Rattle.ec_line.proofs.MappingLemmas as mappings

-- ---- one pass, one copy

-- a pass, of any data that arrive, is the controller's answer
pub step : (r : Request) (c : ControllerState) (d : DatagramRecord) → OnWay r d
    → Answered r (c ∷ []) d (pass c d).datagram
step = steps.step

-- a pass leaves the controller after the item, with the data that arrived
pub after_pass : (r : Request) (c : ControllerState) (d : DatagramRecord) → IsController c → Accepts r c
    → OnWay r d
    → (pass c d).state ≡ after r d.payload c
after_pass = accepted.after_pass

-- what a copy brings that passed a fit line is the answer of the line
pub copy_answered : (es : List Entry) (line : List ControllerState) → IsFitLine line
    → AllByRecursion (AcceptsAll es) line
    → AllByRecursion (λ e. OnWay e.request e.sent) es
    → AnsweredFrame es line (line_pass line (sent_of es)).frame
copy_answered es line fit accepts entries = (core.copy_of es line fit accepts entries).0

-- a copy that passed a fit line leaves each controller after the frame
pub copy_left : (es : List Entry) (line : List ControllerState) → IsFitLine line
    → AllByRecursion (AcceptsAll es) line
    → AllByRecursion (λ e. OnWay e.request e.sent) es
    → (line_pass line (sent_of es)).line ≡ map (after_frame es) line
copy_left es line fit accepts entries = (core.copy_of es line fit accepts entries).1

-- copy A is no stranger, whatever it passed
pub own_a : (t : Trip) (line : List ControllerState) → AllByRecursion (λ e. OnWay e.request e.sent) t.entries
    → IsOwn (sent_of t.entries) (passed t line).a
own_a = own.own_a

-- copy B is no stranger, whatever it passed
pub own_b : (t : Trip) (line : List ControllerState) → AllByRecursion (λ e. OnWay e.request e.sent) t.entries
    → IsOwn (sent_of t.entries) (passed t line).b
own_b = own.own_b

-- the counters of copy A have moved by at most three for each controller
pub moved_a : (t : Trip) (line : List ControllerState)
    → AllByRecursion (λ e. OnWay e.request e.sent) t.entries
    → AllMoved (3 * length line) (sent_of t.entries) (passed t line).a
moved_a = own.moved_a

-- and those of copy B
pub moved_b : (t : Trip) (line : List ControllerState)
    → AllByRecursion (λ e. OnWay e.request e.sent) t.entries
    → AllMoved (3 * length line) (sent_of t.entries) (passed t line).b
moved_b = own.moved_b

-- ---- steady bytes

-- a register is steady
pub register_steady : (managers : List SyncMan) (a : ℕ) → a < PROCESS_MEMORY → is_steady managers a ≡ true
register_steady = steady.register_steady

-- a byte of an area of inputs is steady
pub input_steady : (managers : List SyncMan) (a : ℕ) → is_input managers a ≡ true → is_steady managers a ≡ true
input_steady = steady.input_steady

-- states of a controller whose steady bytes are those of a state between them have the same steady bytes
pub same_steady_trans : (x y z : ControllerState) → IsController x → SameSteady x y → SameSteady y z → SameSteady x z
same_steady_trans = steady.same_steady_trans

-- a line of controllers that are fit alone has its own steady bytes
pub later-refl : (xs : List ControllerState) → AllByRecursion IsFitAlone xs → IsLater xs xs
later-refl = core.later-refl

-- steady bytes last through an accepted request
pub after_steady : (r : Request) (payload : List ℕ) (c : ControllerState) → IsController c → Accepts r c
    → SameSteady c (after r payload c)
after_steady = steady.after_steady

-- steady bytes last through an accepted frame
pub after_frame_steady : (es : List Entry) (c : ControllerState) → IsController c → AcceptsAll es c
    → SameSteady c (after_frame es c)
after_frame_steady es c controller accepts =
    (frames.after_frame_keeps es c c controller controller (steady.same_steady_refl c) accepts).1

-- a controller after a request is a controller
pub after_controller : (r : Request) (payload : List ℕ) (c : ControllerState) → IsController c
    → IsController (after r payload c)
after_controller = steady.after_controller

-- ---- what hangs on steady bytes lasts with them

-- the station address lasts
pub station_lasts : (x y : ControllerState) → IsController x → SameSteady x y
    → word_at y.memory STATION_ADDRESS ≡ word_at x.memory STATION_ADDRESS
station_lasts = steady.station_lasts

-- the sync managers last
pub managers_last : (x y : ControllerState) → IsController x → SameSteady x y
    → sync_managers_of y.memory ≡ sync_managers_of x.memory
managers_last = steady.managers_last

-- the FMMUs last
pub fmmus_last : (x y : ControllerState) → IsController x → SameSteady x y
    → fmmus_of y.memory ≡ fmmus_of x.memory
fmmus_last = steady.fmmus_last

-- what is claimed of an accepted request lasts
pub claim_lasts : (r : Request) (x y : ControllerState) (i : ℕ) → IsFitAlone x → Accepts r x → SameSteady x y
    → claim r y i ≡ claim r x i
claim_lasts = steady.claim_lasts

-- what is taken of a request lasts
pub taken_lasts : (r : Request) (x y : ControllerState) → IsController x → SameSteady x y
    → taken r y ≡ taken r x
taken_lasts = steady.taken_lasts

-- what is gained of a request lasts
pub gain_lasts : (r : Request) (x y : ControllerState) → IsController x → SameSteady x y → gain r y ≡ gain r x
gain_lasts = steady.gain_lasts

-- a request that is accepted is accepted later
pub accepts_lasts : (r : Request) (x y : ControllerState) → IsController x → SameSteady x y → Accepts r x
    → Accepts r y
accepts_lasts = steady.accepts_lasts

-- a controller that is fit alone stays fit
pub fit_lasts : (x y : ControllerState) → IsFitAlone x → IsController y → SameSteady x y → IsFitAlone y
fit_lasts = steady.fit_lasts

-- ---- claims and takes

-- within the data a controller claims what its half for reading gives
pub claim_in : (r : Request) (c : ControllerState) (i : ℕ) → i < 8 * r.count
    → claim r c i ≡ option_map (bit c.memory) ((effect_of r c).reading.places i)
claim_in = steady.claim_in

-- behind the data a controller claims nothing
pub claim_out : (r : Request) (c : ControllerState) (i : ℕ) → 8 * r.count ≤ i → claim r c i ≡ None
claim_out = steady.claim_out

-- of a broadcast read a controller claims the bits of the range that are 1
pub broadcast_claim : (a n : ℕ) (c : ControllerState) (i : ℕ) → i < 8 * n
    → claim (record { kind = Brd; address = a; count = n }) c i
    ≡ cond (serves_range_read c (ado_of a) n)
    (cond (eqb (bit c.memory (8 * ado_of a + i)) 1) (Some (bit c.memory (8 * ado_of a + i))) None) None
broadcast_claim = steady.broadcast_claim

-- a logical read claims the bit that a readable pair names
pub claim_lrd : (a n : ℕ) (c : ControllerState) (i p : ℕ) → IsFitAlone c → i < 8 * n → Reads c (8 * a + i) p
    → claim (record { kind = Lrd; address = a; count = n }) c i ≡ Some (bit c.memory p)
claim_lrd = sets.claim_lrd

-- a logical exchange claims the bit that a readable pair names
pub claim_lrw : (a n : ℕ) (c : ControllerState) (i p : ℕ) → IsFitAlone c → i < 8 * n → Reads c (8 * a + i) p
    → claim (record { kind = Lrw; address = a; count = n }) c i ≡ Some (bit c.memory p)
claim_lrw = sets.claim_lrw

-- where no readable pair names a data bit a logical read claims nothing
pub unclaimed_lrd : (a n : ℕ) (c : ControllerState) (i : ℕ) → ((p : ℕ) → Reads c (8 * a + i) p → ⊥)
    → claim (record { kind = Lrd; address = a; count = n }) c i ≡ None
unclaimed_lrd = sets.unclaimed_lrd

-- where no readable pair names a data bit a logical exchange claims nothing
pub unclaimed_lrw : (a n : ℕ) (c : ControllerState) (i : ℕ) → ((p : ℕ) → Reads c (8 * a + i) p → ⊥)
    → claim (record { kind = Lrw; address = a; count = n }) c i ≡ None
unclaimed_lrw = sets.unclaimed_lrw

-- of a logical write a bit that a writable pair names takes the pair's data bit
pub taken_lwr : (a n : ℕ) (c : ControllerState) (p i : ℕ) → IsFitAlone c → i < 8 * n → Writes c (8 * a + i) p
    → taken (record { kind = Lwr; address = a; count = n }) c p ≡ Some i
taken_lwr = sets.taken_lwr

-- of a logical exchange a bit that a writable pair names takes the pair's data bit
pub taken_lrw : (a n : ℕ) (c : ControllerState) (p i : ℕ) → IsFitAlone c → i < 8 * n → Writes c (8 * a + i) p
    → taken (record { kind = Lrw; address = a; count = n }) c p ≡ Some i
taken_lrw = sets.taken_lrw

-- of a logical write a bit that no writable pair names takes nothing
pub untaken_lwr : (a n : ℕ) (c : ControllerState) (p : ℕ) → ((i : ℕ) → i < 8 * n → Writes c (8 * a + i) p → ⊥)
    → taken (record { kind = Lwr; address = a; count = n }) c p ≡ None
untaken_lwr = sets.untaken_lwr

-- of a logical exchange a bit that no writable pair names takes nothing
pub untaken_lrw : (a n : ℕ) (c : ControllerState) (p : ℕ) → ((i : ℕ) → i < 8 * n → Writes c (8 * a + i) p → ⊥)
    → taken (record { kind = Lrw; address = a; count = n }) c p ≡ None
untaken_lrw = sets.untaken_lrw

-- ---- gains

-- each controller counts a broadcast read once
pub broadcast_gain : (a n : ℕ) (c : ControllerState)
    → Accepts (record { kind = Brd; address = a; count = n }) c
    → gain (record { kind = Brd; address = a; count = n }) c ≡ 1
broadcast_gain = fit.broadcast_gain

-- controllers count a request at most three times each
pub sum_bound : (r : Request) (xs : List ControllerState) → sum_by (gain r) xs ≤ 3 * length xs
sum_bound = certificate.sum_bound

-- ---- answers

-- nobody answers with what was sent
pub nobody_answers : (r : Request) (sent : ℕ → ℕ) → Answers (claim r) [] sent sent
nobody_answers r sent = answers.answers_nobody (claim r) sent

-- a set of controllers has at most one answer
pub one_answer : (r : Request) (xs : List ControllerState) (sent got other : ℕ → ℕ)
    → Answers (claim r) xs sent got
    → Answers (claim r) xs sent other → (i : ℕ) → got i ≡ other i
one_answer r xs sent got other first second i =
    answers.answers_once (claim r) xs sent got other first second i

-- sets with the same members answer the same
pub same_members : (r : Request) (xs ys : List ControllerState) (sent got : ℕ → ℕ)
    → ((c : ControllerState) → Contains xs c ↔ Contains ys c) → Answers (claim r) xs sent got
    → Answers (claim r) ys sent got
same_members r xs ys sent got same answer = answers.answers_same_members (claim r) xs ys sent got same answer

-- those that answer one after the other have answered together
pub answered_then : (r : Request) (xs ys : List ControllerState) (d m e : DatagramRecord)
    → AllAgree (claim r) ys xs
    → Answered r xs d m → Answered r ys m e → Answered r (xs ++ ys) d e
answered_then = frames.answered_then

-- those that answer one copy each, which are joined, have answered together
pub answered_joined : (r : Request) (xs ys : List ControllerState) (s a b : DatagramRecord) → OnWay r s
    → AllAgree (claim r) xs ys
    → AllAgree (claim r) ys xs → Answered r xs s a → Answered r ys s b
    → Answered r (xs ++ ys) s (joined_record s a b)
answered_joined = joins.answered_joined

-- ---- a line

-- of controllers that are apart those behind the first n are apart
pub apart-drop : (n : ℕ) (xs : List ControllerState) → AllApart xs → AllApart (drop n xs)
apart-drop = core.apart-drop

-- ---- the trips of a cycle over a fit line

-- what came back and was joined is the answer of those that the copies passed which came back
pub trips_answered : (ts : List Trip) (line : List ControllerState) → TripsReady ts line
    → AnsweredTrips ts (λ t. returned t line) (trips_run ts line).joined
trips_answered ts line ready = (runs.core_run ts line line ready (core.later-refl line ready.fit.alone)).0

-- each controller is left by each frame as often as a copy passed it
pub trips_left : (ts : List Trip) (line : List ControllerState) → TripsReady ts line
    → (trips_run ts line).line ≡ visited_trips ts line
trips_left ts line ready = (runs.core_run ts line line ready (core.later-refl line ready.fit.alone)).1

-- each controller keeps its steady bytes
pub trips_steady : (ts : List Trip) (line : List ControllerState) → TripsReady ts line
    → IsLater line (trips_run ts line).line
trips_steady ts line ready = (runs.core_run ts line line ready (core.later-refl line ready.fit.alone)).2

-- where both copies pass the line once and come back the answer is that of the whole line
pub whole_answered : (ts : List Trip) (line : List ControllerState) → TripsReady ts line
    → AllByRecursion IsWholeTrip ts
    → AnsweredTrips ts (λ t. line) (trips_run ts line).joined
whole_answered ts line ready whole =
    (runs.whole_run ts line line ready (core.later-refl line ready.fit.alone) whole).0

-- where both copies pass the line once and come back each controller is left once by each frame
pub whole_left : (ts : List Trip) (line : List ControllerState) → TripsReady ts line
    → AllByRecursion IsWholeTrip ts
    → (trips_run ts line).line ≡ after_trips ts line
whole_left ts line ready whole =
    (runs.whole_run ts line line ready (core.later-refl line ready.fit.alone) whole).1

-- where the counters have moved as the whole line counts the answer is that of the whole line
pub good_counters_answered : (ts : List Trip) (line : List ControllerState) → length line ≤ MOST_CONTROLLERS
    → TripsReady ts line → CountsWholeAll ts line (trips_run ts line).joined
    → AnsweredTrips ts (λ t. line) (trips_run ts line).joined
good_counters_answered ts line room ready good =
    (runs.good_run ts line line room ready (core.later-refl line ready.fit.alone) good).0

-- where the counters have moved as the whole line counts each memory is as if each frame had passed it once
pub good_counters_memories : (ts : List Trip) (line : List ControllerState) → length line ≤ MOST_CONTROLLERS
    → TripsReady ts line → CountsWholeAll ts line (trips_run ts line).joined
    → SameMemories (trips_run ts line).line (after_trips ts line)
good_counters_memories ts line room ready good =
    (runs.good_run ts line line room ready (core.later-refl line ready.fit.alone) good).1

-- where the counters have moved so a shown byte of a controller is as if each frame had passed it once, if in
-- each frame the last entry that shows it is the last that writes it
pub good_counters_shown : (ts : List Trip) (line : List ControllerState) (k : ℕ)
    → length line ≤ MOST_CONTROLLERS
    → TripsReady ts line → CountsWholeAll ts line (trips_run ts line).joined → k < PROCESS_MEMORY_SIZE
    → SameShownWhere (ShowsLastInRun ts (PROCESS_MEMORY + k)) k line (trips_run ts line).line
    (after_trips ts line)
good_counters_shown ts line k room ready good inside =
    shown_runs.good_shown (ShowsLastInRun ts (PROCESS_MEMORY + k)) k ts line line room (λ x last. last) inside
    ready (core.later-refl line ready.fit.alone) good

-- where no two entries of a frame write into one area of outputs the last entry that shows a byte is the
-- last that writes it
pub no_area_twice : (x : ControllerState) (address : ℕ) (es : List Entry) → NoAreaTwice x es
    → ShowsLast x address es
no_area_twice = shown.shows_last

-- whatever was lost, each memory is that after the frames of which a copy reached the controller
pub reached_memories : (ts : List Trip) (line : List ControllerState) → TripsReady ts line
    → SameMemories (trips_run ts line).line (reached_trips ts line)
reached_memories ts line ready = runs.reached_run ts line line ready (core.later-refl line ready.fit.alone)

-- a frame twice is a frame once, for memory
pub twice_is_once : (es : List Entry) (c : ControllerState) → IsController c → AcceptsAll es c
    → (after_frame es (after_frame es c)).memory ≡ (after_frame es c).memory
twice_is_once es c controller accepts =
    memories.twice_is_once es c c controller controller (steady.same_steady_refl c) accepts

-- ---- what hangs on the mapping

-- the same steady bytes have one mapping
pub mapping_steady : (x y : ControllerState) → IsController x → SameSteady x y → mapping_of y ≡ mapping_of x
mapping_steady = alike.mapping_steady

-- controllers with one mapping have the same sync manager under each number, but for its status byte
pub manager_by_mapping : (c d : ControllerState) (number : ℕ) → mapping_of d ≡ mapping_of c → number < 8
    → without_status (sync_manager_at d.memory number) ≡ without_status (sync_manager_at c.memory number)
manager_by_mapping = mappings.manager_by_mapping

-- they count an accepted request alike
pub gain_by_mapping : (r : Request) (c d : ControllerState) → mapping_of d ≡ mapping_of c → Accepts r c
    → gain r d ≡ gain r c
gain_by_mapping = mappings.gain_by_mapping

-- and are alike
pub alike_by_mapping : (c d : ControllerState) → mapping_of d ≡ mapping_of c → IsController d → IsAlike c d
alike_by_mapping = mappings.alike_by_mapping

-- where also what is shown is as it was, and each byte that no area of inputs and no mailbox locks, the
-- controller has moved
pub moved_by_mapping : (c d : ControllerState) → mapping_of d ≡ mapping_of c → IsController d
    → d.shown ≡ c.shown
    → ((a : ℕ) → PROCESS_MEMORY ≤ a → is_locked (sync_managers_of c.memory) a ≡ false
    → slice_index d.memory a ≡ slice_index c.memory a)
    → HasMoved c d
moved_by_mapping = mappings.moved_by_mapping

-- the same sync managers guard a byte of inputs or of a mailbox
pub locked_by_mapping : (c d : ControllerState) (a : ℕ) → mapping_of d ≡ mapping_of c
    → is_locked (sync_managers_of d.memory) a ≡ is_locked (sync_managers_of c.memory) a
locked_by_mapping = mappings.locked_by_mapping

-- a controller that does nothing has moved, and so has one that moves twice
pub moved-refl : (x : ControllerState) → HasMoved x x
moved-refl = alike.moved-refl

pub moved-trans : (x y z : ControllerState) → HasMoved x y → HasMoved y z → HasMoved x z
moved-trans = alike.moved-trans

-- ---- alike lines

-- a line that is alike to a fit one is fit
pub alike_fit : (xs ys : List ControllerState) → AllAlike xs ys → IsFitLine xs → IsFitLine ys
alike_fit = alike.fit_line

-- and accepts what that one accepts
pub alike_accepts : (es : List Entry) (xs ys : List ControllerState) → AllAlike xs ys
    → AllByRecursion (AcceptsAll es) xs → AllByRecursion (AcceptsAll es) ys
alike_accepts = alike.accepts_line

-- and is as long
pub alike_length : (xs ys : List ControllerState) → AllAlike xs ys → length ys ≡ length xs
alike_length = alike.alike-length

-- ---- the trips of a cycle over a line that moves

-- where each slave moves between the passages, leaving its mapping and its outputs, each counter of a joined
-- frame has moved as those count whom the copies passed that came back
pub counts_returned : (ts : List Trip) (line : List ControllerState) (runs : List (List Visit))
    → TripsReady ts line → MovingTrips ts runs line → CountsReturned ts line (joined_on_each ts runs)
counts_returned ts line runs ready moving =
    moving_runs.run_counts ts line line runs ready (alike.all_alike-refl line) moving

-- where the counters have moved as the whole line counts each joined frame is the answer of the line's
-- members, each as it was at one moment
pub good_moments : (ts : List Trip) (line : List ControllerState) (runs : List (List Visit))
    → length line ≤ MOST_CONTROLLERS → TripsReady ts line → MovingTrips ts runs line
    → CountsWholeAll ts line (joined_on_each ts runs)
    → AnsweredAtMoments ts line runs (joined_on_each ts runs)
good_moments ts line runs room ready moving good =
    moving_runs.run_moments ts line line runs room ready (alike.all_alike-refl line) moving good

-- then each bit that an accepted request writes is as if each frame had passed each member once
pub moving_outputs : (ts : List Trip) (line : List ControllerState) (runs : List (List Visit))
    → length line ≤ MOST_CONTROLLERS → TripsReady ts line → MovingTrips ts runs line
    → CountsWholeAll ts line (joined_on_each ts runs) → SameWritten line (behind runs line) (after_trips ts line)
moving_outputs ts line runs room ready moving good =
    let all = alike.all_alike-refl line in
    moving_written.run_written ts line line runs room ready all
    (moving_runs.run_alike ts line line runs ready all moving) moving good

-- and the applications are shown each such bit so, where in each frame the last entry that shows its byte is
-- the last that writes it
pub moving_shown : (ts : List Trip) (line : List ControllerState) (runs : List (List Visit))
    → length line ≤ MOST_CONTROLLERS → TripsReady ts line → MovingTrips ts runs line
    → CountsWholeAll ts line (joined_on_each ts runs)
    → SameShownWritten ts line (behind runs line) (after_trips ts line)
moving_shown ts line runs room ready moving good =
    let all = alike.all_alike-refl line in
    moving_shown_runs.run_shown ts line line runs room ready all
    (moving_runs.run_alike ts line line runs ready all moving) moving good

-- whatever the counters, each member is alike to what it was at first
pub moving_alike : (ts : List Trip) (line : List ControllerState) (runs : List (List Visit))
    → TripsReady ts line → MovingTrips ts runs line → AllAlike line (behind runs line)
moving_alike ts line runs ready moving =
    moving_runs.run_alike ts line line runs ready (alike.all_alike-refl line) moving

-- and so the line has the mapping that it had
pub moving_mapping : (ts : List Trip) (line : List ControllerState) (runs : List (List Visit))
    → TripsReady ts line → MovingTrips ts runs line → mapping (behind runs line) ≡ mapping line
moving_mapping ts line runs ready moving =
    alike.mapping_alike line (behind runs line) (moving_alike ts line runs ready moving)

-- each run of trips over a line is one over a line that moves, at which nothing moves
pub still_lines : (ts : List Trip) (line : List ControllerState) → (runs : List (List Visit))
    × MovingTrips ts runs line × (joined_on_each ts runs ≡ (trips_run ts line).joined)
    × (behind runs line ≡ (trips_run ts line).line)
still_lines = moving_runs.still_run
