-- Where a verdict is good and copies are at most fifteen rounds late, none is.
use Rattle.std.proofs.Common.{◌≡◌, ◌≤◌, ◌<◌, ◌+◌, ◌*◌, ◌-◌, ◌%◌, ℕ, suc, Bool, true, false, cond, eqb, ltb}
use Rattle.std.proofs.Common.{sym, subst, ◌∙◌, ap, refl, arith, List, [], ◌∷◌, ◌++◌, length, map, None, Some}
use Rattle.std.proofs.Common.{Ok, Err}
use Rattle.std.specs.Prelude.{Option, Result}
use Rattle.std.specs.List.{AllByRecursion}
use Rattle.std.proofs.lemmas.Bool.{eqb-true}
use Rattle.std.proofs.lemmas.List.{length-append}
use Rattle.ec_regs.proofs.Laws.{each-front, each-back, each-map}
use Rattle.ec_wire.specs.Datagram.{DatagramRecord}
use Rattle.ec_esc.specs.State.{ControllerState}
use Rattle.ec_esc.specs.declared.counting.TheConstants.{MOST_CONTROLLERS}
use Rattle.ec_merge.specs.Frames.{joined_record, joined_frame}
use Rattle.ec_merge.specs.Rule.{distance, joined_count}
use Rattle.ec_line.specs.After.{Entry}
use Rattle.ec_line.specs.Answered.{sent_of}
use Rattle.ec_line.specs.Moved.{AllMoved}
use Rattle.ec_line.specs.Request.{OnWay}
use Rattle.ec_line.specs.Trip.{Trip, passed}
use Rattle.ec_line.proofs.Laws.{moved_a, moved_b}
use Rattle.ec_map.specs.Item.{ItemRecord}
use Rattle.ec_ring.specs.Travel.{as_trip}
use Rattle.ec_ring.specs.declared.port.PortFault.{PortFault}
use Rattle.ec_ring.specs.declared.weather.Came.{Came}
use Rattle.ec_master.specs.Cut.{concat, cut, entries_from, frames_of}
use Rattle.ec_master.specs.Ports.{came_or, ComesTo, PortTrip, Outcome, with_first, Sends, EndsIn}
use Rattle.ec_master.specs.Ports.{IsPortCycle}
use Rattle.ec_master.specs.Rounds.{round_counter, IsOfRound, CopyOfRound, IsRecent, AreRecent, AreOfRound}
use Rattle.ec_master.specs.Given.{AllThatCame, in_turn}
use Rattle.ec_master.specs.Verdict.{verdict, verdict_from}
use Rattle.ec_master.specs.declared.cycle.CycleFault.{CycleFault}
use Rattle.ec_master.specs.declared.verdict.Verdict.{Verdict}
use Rattle.ec_master.specs.declared.verdict.Verdict.TheVariants.{Good, Short, Over}
use Rattle.ec_master.proofs.CutLemmas.{length-entries}
use Rattle.ec_master.proofs.PortLemmas.{trip_sizes}
use Rattle.ec_master.proofs.SlaveLemmas.{concat-cut, each-concat}
use Rattle.ec_master.proofs.TravelLemmas.{sizes-count, length-sent_of}

-- ---- one datagram

-- the counter of a round is that of a round d before it and 2,048 for each of these
round_before : (k j d : ℕ) → k ≡ j + d → (round_counter j + 2048 * d) % 65536 ≡ round_counter k
round_before k j d is = omega (arith, is)

-- two copies that gained little and are together at most thirty rounds late count too much where one is late
none_late : (s a b ra rb da db ga gb : ℕ) → s < 65536 → ra < 65536 → rb < 65536
    → (ra + 2048 * da) % 65536 ≡ s → (rb + 2048 * db) % 65536 ≡ s → da ≤ 15 → db ≤ 15 → ga ≤ 1023
    → gb ≤ 1023 → a ≡ (ra + ga) % 65536 → b ≡ (rb + gb) % 65536 → distance s (joined_count s a b) < 4096
    → (da ≡ 0) × (db ≡ 0)
none_late s a b ra rb da db ga gb small_s small_a small_b round_a round_b late_a late_b few_a few_b is_a is_b few =
    let sum : da + db ≡ 0 =
    omega (
      arith,
      small_s,
      small_a,
      small_b,
      round_a,
      round_b,
      late_a,
      late_b,
      few_a,
      few_b,
      is_a,
      is_b,
      few,
    ) in
    (omega (arith, sum), omega (arith, sum))

-- what went out in this round has its counter
Sent : ℕ → DatagramRecord → Type 0
Sent k s = s.counter ≡ round_counter k

-- what counts as little as a line does
Few : ℕ → DatagramRecord → Type 0
Few k g = distance (round_counter k) g.counter < 4096

of_this_round : (k j : ℕ) (d : DatagramRecord) → IsOfRound j d → k ≡ j + 0 → IsOfRound k d
of_this_round k j d is same = record {
  gain = is.gain;
  few = is.few;
  counter = is.counter ∙ ap (λ (r : ℕ). (round_counter r + is.gain) % 65536) (omega (arith, same));
}

one_datagram : (k ja jb : ℕ) (s x y : DatagramRecord) → ja ≤ k → k ≤ ja + 15 → jb ≤ k → k ≤ jb + 15
    → Sent k s → IsOfRound ja x → IsOfRound jb y → Few k (joined_record s x y)
    → IsOfRound k x × IsOfRound k y
unfolding Sent Few
one_datagram k ja jb s x y past_a late_a past_b late_b sent is_x is_y few =
    let back_a : k ≡ ja + (k - ja) = omega (arith, past_a) in
    let back_b : k ≡ jb + (k - jb) = omega (arith, past_b) in
    let at : distance s.counter (joined_count s.counter x.counter y.counter) < 4096 =
    subst (λ (r : ℕ). distance r (joined_count s.counter x.counter y.counter) < 4096) (sym sent) few in
    let none = none_late s.counter x.counter y.counter (round_counter ja) (round_counter jb) (k - ja) (k - jb)
    is_x.gain is_y.gain (omega (arith, sent)) (omega arith) (omega arith)
    (round_before k ja (k - ja) back_a ∙ sym sent) (round_before k jb (k - jb) back_b ∙ sym sent)
    (omega (arith, late_a)) (omega (arith, late_b)) is_x.few is_y.few is_x.counter is_y.counter at in (
      of_this_round k ja x is_x (omega (arith, back_a, none.0)),
      of_this_round k jb y is_y (omega (arith, back_b, none.1)),
    )

-- ---- one frame

-- a copy, or the sent frame in its place, is of a round that is not long past
record LateFrame (k : ℕ) (copy : List DatagramRecord) : Type 0 where
  pub round : ℕ
  pub past : round ≤ k
  pub late : k ≤ round + 15
  pub is : AllByRecursion (IsOfRound round) copy

sent_of_round : (k : ℕ) (s : DatagramRecord) → Sent k s → IsOfRound k s
unfolding Sent
sent_of_round k s sent = record { gain = 0; few = omega arith; counter = omega (arith, sent) }

late_or : (k : ℕ) (sent : List DatagramRecord) (copy : Option (List DatagramRecord))
    → AllByRecursion (Sent k) sent → IsRecent k copy → LateFrame k (came_or copy sent)
late_or k sent None went recent = record {
  round = k;
  past = omega arith;
  late = omega arith;
  is = each-map (Sent k) (IsOfRound k) sent (λ s is. sent_of_round k s is) went;
}
late_or k sent (Some copy) went recent =
    record { round = recent.round; past = recent.past; late = recent.late; is = recent.is }

or_copy : (k : ℕ) (sent : List DatagramRecord) (copy : Option (List DatagramRecord))
    → AllByRecursion (IsOfRound k) (came_or copy sent) → CopyOfRound k copy
or_copy k sent None is = tt
or_copy k sent (Some copy) is = is

both_of_round : (k ja jb : ℕ) (ss xs ys : List DatagramRecord) → ja ≤ k → k ≤ ja + 15 → jb ≤ k
    → k ≤ jb + 15 → length xs ≡ length ss → length ys ≡ length ss → AllByRecursion (Sent k) ss
    → AllByRecursion (IsOfRound ja) xs → AllByRecursion (IsOfRound jb) ys
    → AllByRecursion (Few k) (joined_frame ss xs ys)
    → AllByRecursion (IsOfRound k) xs × AllByRecursion (IsOfRound k) ys
both_of_round k ja jb [] [] [] pa la pb lb one two sent is_x is_y few = (tt, tt)
both_of_round k ja jb [] [] (y ∷ ys) pa la pb lb one two sent is_x is_y few = absurd (omega (arith, two))
both_of_round k ja jb [] (x ∷ xs) ys pa la pb lb one two sent is_x is_y few = absurd (omega (arith, one))
both_of_round k ja jb (s ∷ ss) [] ys pa la pb lb one two sent is_x is_y few = absurd (omega (arith, one))
both_of_round k ja jb (s ∷ ss) (x ∷ xs) [] pa la pb lb one two sent is_x is_y few =
    absurd (omega (arith, two))
both_of_round k ja jb (s ∷ ss) (x ∷ xs) (y ∷ ys) pa la pb lb one two sent is_x is_y few =
    let here = one_datagram k ja jb s x y pa la pb lb sent.0 is_x.0 is_y.0 few.0 in
    let rest = both_of_round k ja jb ss xs ys pa la pb lb (omega (arith, one)) (omega (arith, two)) sent.1
    is_x.1 is_y.1 few.1 in
    ((here.0, rest.0), (here.1, rest.1))

-- what came of a frame that is joined and counts little
one_frame : (k : ℕ) (sent : List DatagramRecord) (came : Result Came PortFault) (joined : List DatagramRecord)
    → AllByRecursion (Sent k) sent → AreRecent k came → ComesTo sent came (Ok joined)
    → AllByRecursion (Few k) joined → AreOfRound k came
one_frame k sent (Err failed) joined went recent comes few =
    absurd (let no : Ok joined ≡ Err _ = comes in cc)
one_frame k sent (Ok came) joined went recent comes few =
    let a = late_or k sent came.a went recent.0 in
    let b = late_or k sent came.b went recent.1 in
    let both = both_of_round k a.round b.round sent (came_or came.a sent) (came_or came.b sent) a.past a.late
    b.past b.late comes.0.count comes.1.count went a.is b.is
    (subst (λ (g : List DatagramRecord). AllByRecursion (Few k) g) comes.2 few) in
    (or_copy k sent came.a both.0, or_copy k sent came.b both.1)

-- ---- the frames of a cycle

-- the first of joined frames, and those behind it
firsts : (first : List DatagramRecord) (others : Outcome) (joined : List (List DatagramRecord))
    → Ok joined ≡ with_first first others → (rest : List (List DatagramRecord)) × (others ≡ Ok rest)
    × (joined ≡ first ∷ rest)
firsts first (Ok rest) joined is = (rest, refl, let e : Ok joined ≡ Ok (first ∷ rest) = is in cc)
firsts first (Err fault) joined is = absurd (let e : Ok joined ≡ Err fault = is in cc)

-- what a frame comes to, and those behind it
abbrev Goes : AllThatCame → List (List DatagramRecord) → Outcome → Result (List DatagramRecord) CycleFault
    → Type 0
Goes between rest outcome (Err fault) = (outcome ≡ Err fault) × ([] ≡ between)
Goes between rest outcome (Ok joined) =
    (others : Outcome) × Sends in_turn between rest others [] × (outcome ≡ with_first joined others)

each_frame : (k : ℕ) (sent : List DatagramRecord) (first : Result Came PortFault) (between : AllThatCame)
    (rest : List (List DatagramRecord)) (joined : List (List DatagramRecord))
    (answer : Result (List DatagramRecord) CycleFault) → AllByRecursion (Sent k) sent → AreRecent k first
    → ComesTo sent first answer → Goes between rest (Ok joined) answer
    → AllByRecursion (Few k) (concat joined)
    → ((others : List (List DatagramRecord)) → Sends in_turn between rest (Ok others) []
    → AllByRecursion (Few k) (concat others) → AllByRecursion (AreOfRound k) between)
    → AreOfRound k first × AllByRecursion (AreOfRound k) between
each_frame k sent first between rest joined (Err fault) went recent comes goes few more =
    absurd (let e : Ok joined ≡ Err fault = goes.0 in cc)
each_frame k sent first between rest joined (Ok frame) went recent comes goes few more =
    let split = firsts frame goes.0 joined goes.2 in
    let all : AllByRecursion (Few k) (frame ++ concat split.0) =
    subst (λ (js : List (List DatagramRecord)). AllByRecursion (Few k) (concat js)) split.2 few in (
      one_frame k sent first frame went recent comes (each-front (Few k) frame (concat split.0) all),
      more split.0
          (subst (λ (o : Outcome). Sends in_turn between rest o []) split.1 goes.1)
          (each-back (Few k) frame (concat split.0) all),
    )

all_frames : (k : ℕ) (frames : List (List DatagramRecord)) (came : AllThatCame)
    (joined : List (List DatagramRecord)) → AllByRecursion (AllByRecursion (Sent k)) frames
    → AllByRecursion (AreRecent k) came → Sends in_turn came frames (Ok joined) []
    → AllByRecursion (Few k) (concat joined) → AllByRecursion (AreOfRound k) came
unfolding Sends
all_frames k [] came joined went recent sends few =
    subst (λ (c : AllThatCame). AllByRecursion (AreOfRound k) c) sends.1 tt
all_frames k (sent ∷ rest) came joined went recent sends few =
    let trip = sends.2 in
    let parts : AllByRecursion (AreRecent k) (trip.came ∷ sends.1) =
    subst (λ (c : AllThatCame). AllByRecursion (AreRecent k) c) trip.made recent in
    subst (λ (c : AllThatCame). AllByRecursion (AreOfRound k) c) (sym trip.made)
    (each_frame k sent trip.came sends.1 rest joined sends.0 went.0 parts.0 trip.comes sends.3 few
    (λ others more little. all_frames k rest sends.1 others went.1 parts.1 more little))

-- there are as many joined datagrams as went out
count_frame : (came between : AllThatCame) (sent : List DatagramRecord) (rest : List (List DatagramRecord))
    (joined : List (List DatagramRecord)) (answer : Result (List DatagramRecord) CycleFault)
    → PortTrip in_turn came sent answer between → Goes between rest (Ok joined) answer
    → ((others : List (List DatagramRecord)) → Sends in_turn between rest (Ok others) []
    → length (concat others) ≡ length (concat rest))
    → length (concat joined) ≡ length (sent ++ concat rest)
count_frame came between sent rest joined (Err fault) trip goes more =
    absurd (let e : Ok joined ≡ Err fault = goes.0 in cc)
count_frame came between sent rest joined (Ok frame) trip goes more =
    let split = firsts frame goes.0 joined goes.2 in
    let here : length frame ≡ length sent =
    sizes-count sent frame (trip_sizes in_turn came between sent frame trip) in
    let behind = more split.0 (subst (λ (o : Outcome). Sends in_turn between rest o []) split.1 goes.1) in
    ap (λ (js : List (List DatagramRecord)). length (concat js)) split.2
    ∙ length-append frame (concat split.0) ∙ (λ i. here i + behind i)
    ∙ sym (length-append sent (concat rest))

count_frames : (frames : List (List DatagramRecord)) (came : AllThatCame)
    (joined : List (List DatagramRecord)) → Sends in_turn came frames (Ok joined) []
    → length (concat joined) ≡ length (concat frames)
unfolding Sends
count_frames [] came joined sends =
    let none : joined ≡ [] = let e : Ok joined ≡ Ok [] = sends.0 in cc in
    ap (λ (js : List (List DatagramRecord)). length (concat js)) none
count_frames (sent ∷ rest) came joined sends =
    count_frame came sends.1 sent rest joined sends.0 sends.2 sends.3
    (λ others more. count_frames rest sends.1 others more)

length-frames : (fs : List (List Entry)) → length (concat (map sent_of fs)) ≡ length (concat fs)
length-frames [] = refl
length-frames (f ∷ fs) =
    length-append (sent_of f) (concat (map sent_of fs))
    ∙ (λ i. length-sent_of f i + length-frames fs i) ∙ sym (length-append f (concat fs))

sends-count : (came : AllThatCame) (items : List ItemRecord) (joined : List (List DatagramRecord))
    → Sends in_turn came (map sent_of (frames_of items)) (Ok joined) []
    → length (concat joined) ≡ length items
sends-count came items joined sends =
    count_frames (map sent_of (frames_of items)) came joined sends ∙ length-frames (frames_of items)
    ∙ ap (λ (es : List Entry). length es) (concat-cut (entries_from 0 items)) ∙ length-entries 0 items

-- ---- a good verdict

good_first : (b c : Bool) (v : Verdict) (n : ℕ) → cond b v (cond c (Short n) (Over n)) ≡ Good
    → (b ≡ true) × (v ≡ Good)
good_first true c v n good = (refl, good)
good_first false true v n good = absurd (cc)
good_first false false v n good = absurd (cc)

good_few : (k n : ℕ) (items : List ItemRecord) (answers : List DatagramRecord) (expected : List ℕ)
    → length answers ≡ length items → length expected ≡ length items
    → AllByRecursion (λ (r : ItemRecord). r.counter ≡ round_counter k) items
    → AllByRecursion (λ (e : ℕ). e < 4096) expected → verdict_from n items answers expected ≡ Good
    → AllByRecursion (Few k) answers
unfolding verdict_from Few
good_few k n [] [] expected size counts begun few good = tt
good_few k n [] (g ∷ gs) expected size counts begun few good = absurd (omega (arith, size))
good_few k n (r ∷ rs) [] expected size counts begun few good = tt
good_few k n (r ∷ rs) (g ∷ gs) [] size counts begun few good = absurd (omega (arith, counts))
good_few k n (r ∷ rs) (g ∷ gs) (e ∷ es) size counts begun few good =
    let count : ℕ = distance r.counter g.counter in
    let step = good_first (eqb count e) (ltb count e) (verdict_from (suc n) rs gs es) n good in
    let same : distance (round_counter k) g.counter ≡ e =
    ap (λ (c : ℕ). distance c g.counter) (sym begun.0) ∙ eqb-true count e step.0 in (
      subst (λ (m : ℕ). m < 4096) (sym same) few.0,
      good_few k (suc n) rs gs es (omega (arith, size)) (omega (arith, counts)) begun.1 few.1 step.1,
    )

-- the frames of items that begin a round go out with its counter
entries_begun : (k n : ℕ) (items : List ItemRecord)
    → AllByRecursion (λ (r : ItemRecord). r.counter ≡ round_counter k) items
    → AllByRecursion (λ (e : Entry). Sent k e.sent) (entries_from n items)
unfolding entries_from Sent
entries_begun k n [] begun = tt
entries_begun k n (r ∷ rs) begun = (begun.0, entries_begun k (suc n) rs begun.1)

frame_begun : (k : ℕ) (f : List Entry) → AllByRecursion (λ (e : Entry). Sent k e.sent) f
    → AllByRecursion (Sent k) (sent_of f)
frame_begun k [] all = tt
frame_begun k (e ∷ es) all = (all.0, frame_begun k es all.1)

frames_begun : (k : ℕ) (fs : List (List Entry))
    → AllByRecursion (λ f. AllByRecursion (λ (e : Entry). Sent k e.sent) f) fs
    → AllByRecursion (AllByRecursion (Sent k)) (map sent_of fs)
frames_begun k [] all = tt
frames_begun k (f ∷ fs) all = (frame_begun k f all.0, frames_begun k fs all.1)

pub this_round : (k : ℕ) (items : List ItemRecord) (expected : List ℕ) (came : AllThatCame)
    (later : List ItemRecord) → AllByRecursion (λ (r : ItemRecord). r.counter ≡ round_counter k) items
    → length expected ≡ length items → AllByRecursion (λ (e : ℕ). e < 4096) expected
    → AllByRecursion (AreRecent k) came → IsPortCycle in_turn came items expected (Ok Good) later []
    → AllByRecursion (AreOfRound k) came
this_round k items expected came later begun counts few recent cycle =
    by_outcome cycle.outcome cycle.sends cycle.ends
  where
    by_outcome : (outcome : Outcome)
        → Sends in_turn came (map sent_of (frames_of items)) outcome []
        → EndsIn items expected outcome (Ok Good) later → AllByRecursion (AreOfRound k) came
    by_outcome (Err fault) sends ends = absurd (let e : Ok Good ≡ Err fault = ends.0 in cc)
    by_outcome (Ok joined) sends ends =
        let good : verdict items (concat joined) expected ≡ Good =
        let e : Ok Good ≡ Ok (verdict items (concat joined) expected) = ends.0 in cc in
        all_frames k (map sent_of (frames_of items)) came joined
        (frames_begun k (frames_of items)
        (each-concat (λ (e : Entry). Sent k e.sent) (cut (entries_from 0 items))
        (subst (λ (es : List Entry). AllByRecursion (λ (e : Entry). Sent k e.sent) es)
        (sym (concat-cut (entries_from 0 items))) (entries_begun k 0 items begun))))
        recent sends
        (good_few k 0 items (concat joined) expected (sends-count came items joined sends) counts begun few
        good)

-- ---- over a line

-- counters that moved little are of the round with whose counter they went out
moved_of_round : (k n : ℕ) (es : List Entry) (gs : List DatagramRecord) → n ≤ 1023
    → AllByRecursion (λ (e : Entry). e.sent.counter ≡ round_counter k) es → AllMoved n (sent_of es) gs
    → AllByRecursion (IsOfRound k) gs
moved_of_round k n [] [] few went moved = tt
moved_of_round k n [] (g ∷ gs) few went moved = absurd moved
moved_of_round k n (e ∷ es) [] few went moved = absurd moved
moved_of_round k n (e ∷ es) (g ∷ gs) few went moved = (
  record {
    gain = moved.0.gain;
    few = omega (arith, moved.0.few, few);
    counter = moved.0.counter ∙ ap (λ (c : ℕ). (c + moved.0.gain) % 65536) went.0;
  },
  moved_of_round k n es gs few went.1 moved.1,
)

came_of_round : (k : ℕ) (lost : Bool) (copy : List DatagramRecord) → AllByRecursion (IsOfRound k) copy
    → CopyOfRound k (cond lost None (Some copy))
came_of_round k true copy is = tt
came_of_round k false copy is = is

pub of_round : (k : ℕ) (t : Trip) (line : List ControllerState) → length line ≤ MOST_CONTROLLERS
    → AllByRecursion (λ (e : Entry). OnWay e.request e.sent) t.entries
    → AllByRecursion (λ (e : Entry). e.sent.counter ≡ round_counter k) t.entries
    → AreOfRound k (Ok (as_trip t (passed t line)).came)
of_round k t line room ways went =
    let few : 3 * length line ≤ 1023 = omega (arith, room) in (
      came_of_round k t.lost_a (passed t line).a
          (moved_of_round k (3 * length line) t.entries (passed t line).a few went (moved_a t line ways)),
      came_of_round k t.lost_b (passed t line).b
          (moved_of_round k (3 * length line) t.entries (passed t line).b few went (moved_b t line ways)),
    )
