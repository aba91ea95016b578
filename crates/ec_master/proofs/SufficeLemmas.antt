-- Frames whose copies come back as a ring's trips give them are joined as those are, so the end of the cycle
-- is certified by the counters.
use Rattle.std.proofs.Common.{◌≡◌, ◌≢◌, ◌≤◌, inl, inr, ℕ, Bool, true, false, cond, sym, subst, ap, refl, ◌∙◌}
use Rattle.std.proofs.Common.{List, [], ◌∷◌, length, map, None, Some, Ok, Err}
use Rattle.std.specs.Prelude.{Result}
use Rattle.std.specs.List.{AllByRecursion}
use Rattle.std.proofs.lemmas.Simd.{map-map}
use Rattle.ec_wire.specs.Datagram.{DatagramRecord}
use Rattle.ec_merge.specs.Frames.{IsOwn, joined_frame}
use Rattle.ec_merge.proofs.Laws.{own_no_fault, joined_frame_symmetric}
use Rattle.ec_esc.specs.State.{ControllerState}
use Rattle.ec_line.specs.After.{Entry}
use Rattle.ec_line.specs.Answered.{sent_of}
use Rattle.ec_line.specs.Request.{OnWay}
use Rattle.ec_line.specs.Run.{trips_run}
use Rattle.ec_line.specs.Trip.{Trip, Passed, passed, joined_of}
use Rattle.ec_line.proofs.Laws.{own_a, own_b}
use Rattle.ec_map.specs.Item.{ItemRecord, IsItem}
use Rattle.ec_map.specs.Share.{expected_of}
use Rattle.ec_ring.specs.Ring.{RingState, line_of}
use Rattle.ec_ring.specs.Travel.{as_trip}
use Rattle.ec_ring.specs.declared.links.TheConstants.{MAX_SLAVES}
use Rattle.ec_ring.specs.declared.weather.Came.{Came}
use Rattle.ec_ring.specs.declared.weather.Weather.{Weather}
use Rattle.ec_master.specs.Certificate.{verdict_under}
use Rattle.ec_master.specs.Cut.{frames_of}
use Rattle.ec_master.specs.Ports.{came_or, ComesTo, Outcome, with_first, Sends, taken_on}
use Rattle.ec_master.specs.Ports.{EndsIn, IsPortCycle}
use Rattle.ec_master.specs.Given.{AllThatCame, in_turn, exchanged, Gives}
use Rattle.ec_master.specs.Suffice.{GivenBy, AllGivenBy, SaysOf}
use Rattle.ec_master.specs.Suffice.{SaysOfEach}
use Rattle.ec_master.specs.Travelled.{trips_under, run_under, answers_under}
use Rattle.ec_master.specs.Again.{AskTheSame}
use Rattle.ec_master.specs.Unordered.{by_station, AreAnswers, IsAccepted}
use Rattle.ec_master.specs.Verdict.{verdict}
use Rattle.ec_master.specs.Work.{with_answers}
use Rattle.ec_master.specs.declared.cycle.CycleFault.{CycleFault}
use Rattle.ec_ring.specs.declared.port.PortFault.{PortFault}
use Rattle.ec_master.specs.declared.verdict.Verdict.{Verdict}
use Rattle.ec_master.specs.declared.verdict.Verdict.TheVariants.{Good, Short, Over}
use Rattle.ec_master.proofs.AgainLemmas.{again, still_expected, asks-itself, asks-answers}
use Rattle.ec_master.proofs.CarryLemmas.{either, own_itself}
use Rattle.ec_master.proofs.CertificateLemmas.{good_answers, good_memories, good_shows}
use Rattle.ec_master.proofs.SlaveLemmas.{entries-trips_of, trips_ready}
use Rattle.ec_master.proofs.VerdictLemmas.{verdict-counts}

-- ---- one frame

-- every datagram of a trip is one of its request
abbrev pub OnWays : Trip → Type 0
OnWays t = AllByRecursion (λ (e : Entry). OnWay e.request e.sent) t.entries

-- copies that are no strangers, and are joined as the trip's are
pub record JoinsAs (t : Trip) (p : Passed) (came : Came) : Type 0 where
  pub own_a : IsOwn (sent_of t.entries) (came_or came.a (sent_of t.entries))
  pub own_b : IsOwn (sent_of t.entries) (came_or came.b (sent_of t.entries))
  pub joined : joined_frame (sent_of t.entries) (came_or came.a (sent_of t.entries))
      (came_or came.b (sent_of t.entries))
      ≡ joined_of t p

stands_for : (lost : Bool) (sent copy : List DatagramRecord)
    → came_or (cond lost None (Some copy)) sent ≡ cond lost sent copy
stands_for true sent copy = refl
stands_for false sent copy = refl

-- those that the trip gives, in their places and exchanged
own_gives : (t : Trip) (p : Passed) → IsOwn (sent_of t.entries) p.a → IsOwn (sent_of t.entries) p.b
    → JoinsAs t p (as_trip t p).came
own_gives t p is_own_a is_own_b =
    let s : List DatagramRecord = sent_of t.entries in
    let is_a = stands_for t.lost_a s p.a in
    let is_b = stands_for t.lost_b s p.b in
    record {
      own_a = subst (IsOwn s) (sym is_a) (either (IsOwn s) t.lost_a s p.a (own_itself s) is_own_a);
      own_b = subst (IsOwn s) (sym is_b) (either (IsOwn s) t.lost_b s p.b (own_itself s) is_own_b);
      joined =
          ap (λ (x : List DatagramRecord). joined_frame s x (came_or (cond t.lost_b None (Some p.b)) s)) is_a
          ∙ ap (λ (y : List DatagramRecord). joined_frame s (cond t.lost_a s p.a) y) is_b;
    }

own_exchanged : (t : Trip) (p : Passed) (came : Came) → JoinsAs t p came → JoinsAs t p (exchanged came)
own_exchanged t p came is =
    let s : List DatagramRecord = sent_of t.entries in
    record {
      own_a = is.own_b;
      own_b = is.own_a;
      joined = joined_frame_symmetric s (came_or came.b s) (came_or came.a s) ∙ is.joined;
    }

joins : (t : Trip) (p : Passed) (came : Came) → JoinsAs t p (as_trip t p).came → Gives t p (Ok came)
    → JoinsAs t p came
joins t p came is (inl same) = subst (JoinsAs t p) (sym same) is
joins t p came is (inr other) =
    subst (JoinsAs t p) (sym other) (own_exchanged t p (as_trip t p).came is)

pub own_given : (t : Trip) (line : List ControllerState) (came : Came) → OnWays t → GivenBy t line (Ok came)
    → JoinsAs t (passed t line) came
own_given t line came ways given =
    let p : Passed = passed t line in
    joins t p came (own_gives t p (own_a t line ways) (own_b t line ways)) given

-- so they come to the joined frame of the trip
pub comes-joined : (t : Trip) (p : Passed) (came : Result Came PortFault)
    (answer : Result (List DatagramRecord) CycleFault) → IsOwn (sent_of t.entries) p.a
    → IsOwn (sent_of t.entries) p.b → Gives t p came → ComesTo (sent_of t.entries) came answer
    → answer ≡ Ok (joined_of t p)
comes-joined t p (Err failed) answer is_own_a is_own_b given comes = absurd given
comes-joined t p (Ok came) (Err fault) is_own_a is_own_b given comes =
    let is = joins t p came (own_gives t p is_own_a is_own_b) given in
    absurd (own_no_fault (sent_of t.entries) _ _ is.own_a is.own_b comes.1 comes.2)
comes-joined t p (Ok came) (Ok joined) is_own_a is_own_b given comes =
    let is = joins t p came (own_gives t p is_own_a is_own_b) given in
    ap (λ (f : List DatagramRecord). Ok f) (comes.2 ∙ is.joined)

pub comes-given : (t : Trip) (line : List ControllerState) (came : Result Came PortFault)
    (answer : Result (List DatagramRecord) CycleFault) → OnWays t → GivenBy t line came
    → ComesTo (sent_of t.entries) came answer → answer ≡ Ok (joined_of t (passed t line))
comes-given t line came answer ways given comes =
    comes-joined t (passed t line) came answer (own_a t line ways) (own_b t line ways) given comes

-- ---- the frames of a cycle

-- the first trip gives what came first, and those behind it the rest
pub first-given : (t : Trip) (ts : List Trip) (line : List ControllerState) (came : AllThatCame)
    (first : Result Came PortFault) (rest : AllThatCame) → came ≡ first ∷ rest → AllGivenBy (t ∷ ts) line came
    → GivenBy t line first × AllGivenBy ts (passed t line).line rest
unfolding AllGivenBy
first-given t ts line came first rest is given = subst (AllGivenBy (t ∷ ts) line) is given

-- what one frame comes to, and the others behind it
abbrev pub Behind : AllThatCame → List (List DatagramRecord) → Outcome → Result (List DatagramRecord) CycleFault
    → Type 0
Behind between rest outcome (Err fault) = (outcome ≡ Err fault) × ([] ≡ between)
Behind between rest outcome (Ok joined) =
    (others : Outcome) × Sends in_turn between rest others [] × (outcome ≡ with_first joined others)

pub behind-joined : (between : AllThatCame) (rest : List (List DatagramRecord)) (outcome : Outcome)
    (answer : Result (List DatagramRecord) CycleFault) (joined : List DatagramRecord)
    (js : List (List DatagramRecord))
    → answer ≡ Ok joined → ((others : Outcome) → Sends in_turn between rest others [] → others ≡ Ok js)
    → Behind between rest outcome answer → outcome ≡ Ok (joined ∷ js)
behind-joined between rest outcome (Err fault) joined js is more behind =
    absurd (let no : Err fault ≡ Ok joined = is in cc)
behind-joined between rest outcome (Ok frame) joined js is more behind =
    let same : frame ≡ joined = let e : Ok frame ≡ Ok joined = is in cc in
    behind.2 ∙ ap (with_first frame) (more behind.0 behind.1)
    ∙ ap (λ (f : List DatagramRecord). Ok (f ∷ js)) same

-- frames of trips whose copies come back as the trips give them are all joined as the trips are
given-run : (ts : List Trip) (line : List ControllerState) (came : AllThatCame) (outcome : Outcome)
    → AllByRecursion OnWays ts → AllGivenBy ts line came
    → Sends in_turn came (map (λ (t : Trip). sent_of t.entries) ts) outcome []
    → outcome ≡ Ok (trips_run ts line).joined
unfolding Sends trips_run
given-run [] line came outcome ways given sends = sends.0
given-run (t ∷ ts) line came outcome ways given sends =
    let p : Passed = passed t line in
    let parts = first-given t ts line came sends.2.came sends.1 sends.2.made given in
    behind-joined sends.1 (map (λ (u : Trip). sent_of u.entries) ts) outcome sends.0 (joined_of t p)
    (trips_run ts p.line).joined
    (comes-given t line sends.2.came sends.0 ways.0 parts.0 sends.2.comes)
    (λ others more. given-run ts p.line sends.1 others ways.1 parts.1 more)
    sends.3

-- ---- the end of a cycle

-- the frames of a work are those of its trips
pub frames-trips : (ws : List Weather) (r : RingState) (items : List ItemRecord)
    → map (λ (t : Trip). sent_of t.entries) (trips_under ws r items) ≡ map sent_of (frames_of items)
frames-trips ws r items =
    sym (map-map sent_of (λ (t : Trip). t.entries) (trips_under ws r items))
    ∙ ap (λ (fs : List (List Entry)). map sent_of fs)
    (entries-trips_of ws r.links (length r.slaves) (frames_of items))

pub taken-good : (v : Verdict) (items : List ItemRecord) (answers : List DatagramRecord) → v ≡ Good
    → taken_on v items answers ≡ with_answers items answers
taken-good v items answers good = ap (λ (x : Verdict). taken_on x items answers) good

pub taken-other : (v : Verdict) (items : List ItemRecord) (answers : List DatagramRecord) → v ≢ Good
    → taken_on v items answers ≡ items
taken-other Good items answers other = absurd (other refl)
taken-other (Short k) items answers other = refl
taken-other (Over k) items answers other = refl

-- joined frames of a ring's trips end in what is said of the ring
says : (ws : List Weather) (r : RingState) (items : List ItemRecord) (expected : List ℕ)
    (result : Result Verdict CycleFault)
    (items_later : List ItemRecord) → length r.slaves ≤ MAX_SLAVES → IsAccepted r.slaves items
    → AllByRecursion IsItem items
    → expected ≡ map (expected_of (line_of r)) items
    → EndsIn items expected (Ok (run_under ws r items).joined) result items_later
    → SaysOf ws r items result items_later
says ws r items expected result items_later room accepted are counts ends =
    let answers : List DatagramRecord = answers_under ws r items in
    let v : Verdict = verdict items answers expected in
    let same : v ≡ verdict_under ws r items = ap (verdict items answers) counts in
    let by_counts = same ∙ verdict-counts ws r items room accepted are in
    let asked : (x : Verdict) → x ≡ v → AskTheSame items (taken_on x items answers) =
    λ x is. elim x as (λ (x : Verdict). x ≡ v → AskTheSame items (taken_on x items answers)) [
      | Good ↦ λ is. asks-answers (by_station r.slaves) items _
          (good_answers ws r items room accepted are (sym same ∙ sym is))
      | Short k ↦ λ is. asks-itself items
      | Over k ↦ λ is. asks-itself items
    ] is in
    record {
      counted = ends.0 ∙ ap (λ (x : Verdict). Ok x) by_counts;
      good = λ good.
          let is : v ≡ Good = let e : Ok v ≡ Ok Good = sym ends.0 ∙ good in cc in
          subst (AreAnswers (by_station r.slaves) items) (sym (ends.1 ∙ taken-good v items answers is))
          (good_answers ws r items room accepted are (sym same ∙ is));
      memories = λ good n.
          let is : v ≡ Good = let e : Ok v ≡ Ok Good = sym ends.0 ∙ good in cc in
          good_memories ws r items n room accepted are (sym same ∙ is);
      outputs = λ good n k s inside there shows.
          let is : v ≡ Good = let e : Ok v ≡ Ok Good = sym ends.0 ∙ good in cc in
          good_shows ws r items n k s room accepted are (sym same ∙ is) inside there shows;
      untouched = λ other. ends.1
          ∙ taken-other v items answers (λ is. other (ends.0 ∙ ap (λ (x : Verdict). Ok x) is));
      asks_the_same = subst (AskTheSame items) (sym ends.1) (asked v refl);
      again = λ others asks. again ws r items others accepted are asks;
      still_expected = λ others also asks. still_expected ws r items others accepted are also asks;
    }

pub frames-suffice : (items : List ItemRecord) (expected : List ℕ) (came : AllThatCame)
    (result : Result Verdict CycleFault)
    (items_later : List ItemRecord) → AllByRecursion IsItem items
    → IsPortCycle in_turn came items expected result items_later []
    → SaysOfEach items expected came result items_later
frames-suffice items expected came result items_later are cycle ws r room accepted counts given =
    let ts : List Trip = trips_under ws r items in
    let line : List ControllerState = line_of r in
    let sends : Sends in_turn came (map (λ (t : Trip). sent_of t.entries) ts) cycle.outcome [] =
    subst (λ (fs : List (List DatagramRecord)). Sends in_turn came fs cycle.outcome [])
    (sym (frames-trips ws r items)) cycle.sends in
    let joined = given-run ts line came cycle.outcome (trips_ready ws r items accepted are).entries given
    sends in
    says ws r items expected result items_later room accepted are counts
    (subst (λ (o : Outcome). EndsIn items expected o result items_later) joined cycle.ends)
