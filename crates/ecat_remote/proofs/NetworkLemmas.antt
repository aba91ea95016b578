-- Over a network that gives whatever it will, what a cycle brings is what the ring's own trips give.
use Rattle.std.specs.Prelude.{◌≡◌, ◌≢◌, ◌⊎◌, ◌≤◌, ◌<◌, ℕ, Bool, true, false}
use Rattle.std.specs.Prelude.{List, [], ◌∷◌, ◌++◌, length, map, Option, None, Some, Ok, Err, Result, refl}
use Rattle.std.specs.List.{AllByRecursion}
use Rattle.std.proofs.Common.{arith, ap, sym, subst, ◌∙◌, inl, inr, cond, suc}
use Rattle.ec_wire.specs.Datagram.{DatagramRecord}
use Rattle.ec_esc.specs.State.{ControllerState, IsController}
use Rattle.ec_line.specs.After.{Entry}
use Rattle.ec_line.specs.Answered.{sent_of}
use Rattle.ec_line.specs.Trip.{Trip, passed}
use Rattle.ec_line.specs.Run.{trips_run}
use Rattle.ec_map.specs.Item.{ItemRecord}
use Rattle.ec_map.specs.Share.{expected_of}
use Rattle.ec_ring.specs.Ring.{RingState, line_of, with_line}
use Rattle.ec_ring.specs.Travel.{Travelled, travelled, with_a_first, with_b_first, trip_of, as_trip}
use Rattle.ec_ring.specs.Walk.{is_circulating, walked_from_a, walked_from_b}
use Rattle.ec_ring.specs.declared.links.Links.{Links}
use Rattle.ec_ring.specs.declared.links.TheConstants.{MAX_SLAVES}
use Rattle.ec_ring.specs.declared.port.Port.{Port}
use Rattle.ec_ring.specs.declared.port.Port.TheVariants.{A, B}
use Rattle.ec_ring.specs.Arrivals.{copies_came, copies_of}
use Rattle.ec_ring.specs.declared.arrivals.Arrivals.{Arrivals}
use Rattle.ec_ring.specs.declared.port.PortFault.{PortFault}
use Rattle.ec_ring.specs.declared.weather.Came.{Came}
use Rattle.ec_ring.specs.declared.weather.Weather.{Weather}
use Rattle.ec_ring.proofs.Laws.{travelled-trip, length-walked_from_a, length-walked_from_b}
use Rattle.ec_ring.proofs.Laws.{length-controllers}
use Rattle.ec_seal.specs.Taken.{Made, losing}
use Rattle.ec_seal.specs.Trips.{numbered_trip, both_opened}
use Rattle.ec_seal.proofs.Laws.{brings_own, line_behind, numbered_is}
use Rattle.ec_master.specs.Cut.{entries_from, fits_frame, cut_onto, cut, frames_of}
use Rattle.ec_master.specs.Given.{AllThatCame, exchanged}
use Rattle.ec_master.specs.Suffice.{Brings, GivenBy, AllGivenBy}
use Rattle.ec_master.specs.Suffice.{SaysOfEach}
use Rattle.ec_master.specs.Travelled.{trips_of}
use Rattle.ec_master.specs.Unordered.{IsAccepted}
use Rattle.ec_master.specs.declared.cycle.CycleFault.{CycleFault}
use Rattle.ec_master.specs.declared.verdict.Verdict.{Verdict}
use Rattle.ecat_remote.specs.History.{Went}
use Rattle.ecat_remote.specs.Network.{by_number, Takes, NoneFailed, TakesAll, Gave, NetworkGaveAll}
use Rattle.ecat_remote.specs.Network.{AreAllTaken, IsGivenBy, IsOfCycle, pasts_of}
use Rattle.ecat_remote.specs.Taken.{Gives, Heard, AreBoth, IsCopyOfTrip, sent_from, opened_came, sought}
use Rattle.ecat_remote.specs.Trips.{RemoteState, RemoteTrip, RemoteTrips, HeardCopies, HeardTrips, IsTurn}
use Rattle.ecat_remote.specs.Trips.{HasRoom, arrivals_of}
use Rattle.ecat_remote.specs.declared.copies.NumberedCopy.{NumberedCopy}
use Rattle.ecat_remote.specs.declared.enough.Both.{Both}
use Rattle.ecat_remote.proofs.HistoryLemmas.{meets, made_now}
use Rattle.ecat_remote.proofs.TakenLemmas.{another}

-- ---- two copies of one trip

-- copies as they were received are those by their numbers, or exchanged
abbrev InEither : Option NumberedCopy → Option NumberedCopy → Type 0
InEither a b =
    let both : Both = record { a = a; b = b } in
    (opened_came both ≡ both_opened (by_number both))
    ⊎ (opened_came both ≡ exchanged (both_opened (by_number both)))

-- a copy that was sent from a port
abbrev copy_from : Port → List DatagramRecord → Option NumberedCopy
copy_from from frame = Some (record { from = from; frame = frame })

first_alone : (from : Port) (frame : List DatagramRecord)
    → InEither (copy_from from frame) None
first_alone A frame = inl refl
first_alone B frame = inr refl

second_alone : (from : Port) (frame : List DatagramRecord)
    → InEither None (copy_from from frame)
second_alone A frame = inr refl
second_alone B frame = inl refl

two : (from other : Port) (frame second : List DatagramRecord)
    → Some from ≢ Some other → InEither (copy_from from frame) (copy_from other second)
two A A frame second apart = absurd (apart refl)
two A B frame second apart = inl refl
two B A frame second apart = inr refl
two B B frame second apart = absurd (apart refl)

in_either : (a b : Option NumberedCopy)
    → ((copy : NumberedCopy) → b ≡ Some copy → sent_from a ≢ Some copy.from) → InEither a b
in_either None None apart = inl refl
in_either (Some copy) None apart = first_alone copy.from copy.frame
in_either None (Some copy) apart = second_alone copy.from copy.frame
in_either (Some copy) (Some other) apart =
    two copy.from other.from copy.frame other.frame (apart other refl)

pub both_in_either : {C : Type 0} (gives : Gives C) (heard : Heard C) (since trip : ℕ)
    (sent : List DatagramRecord) (both : Both) (later : C) → AreBoth gives heard since trip sent both later
    → InEither both.a both.b
both_in_either gives heard since trip sent both later are =
    in_either both.a both.b
    (λ copy is.
    another (sought trip sent (sent_from both.a)) are.b.packet copy
    (subst (IsCopyOfTrip (sought trip sent (sent_from both.a)) are.b.packet) is are.b.is))

-- ---- one trip

-- what came of a trip is what its own copies give, with nothing late
pub trip_given : {C : Type 0} (gives : Gives C) (heard : Heard C) (before later : RemoteState C)
    (es : List Entry) (both : Both) (came : Came) (w : Weather) (line : List ControllerState)
    → AllByRecursion IsController line → is_circulating (sent_of es) ≡ false
    → Takes gives heard before (sent_of es) both came later
    → Gave (record { number = before.next; frame = sent_of es; weather = w; line = line }) (by_number both)
    → GivenBy (trip_of (losing (by_number both) w) es (length line)) line (Ok came)
trip_given gives heard before later es both came w line are still takes gave =
    let f : List DatagramRecord = sent_of es in
    let n : ℕ = before.next in
    let m : Made = record { number = n; frame = f; weather = w; line = line } in
    let v : Weather = losing (by_number both) w in
    let t : Trip = trip_of v es (length line) in
    let own : both_opened (by_number both) ≡ (as_trip t (passed t line)).came =
    brings_own m (by_number both) (meets gives heard before later f both w line are takes.turn takes.taken gave)
    ∙ ap (λ (x : Travelled). x.came) (travelled-trip v es line still) in
    elim (both_in_either gives heard (heard before.carrier) n f both later.carrier takes.taken) [
      | inl is ↦ inl (takes.opened ∙ is ∙ own)
      | inr is ↦ inr (takes.opened ∙ is ∙ ap exchanged own)
    ]

-- and the trips leave the same line
pub line_left : {C : Type 0} (before later : RemoteState C) (es : List Entry)
    (w : Weather) (line : List ControllerState) (taken : Came) → AllByRecursion IsController line
    → is_circulating (sent_of es) ≡ false → IsTurn before (sent_of es) later
    → (numbered_trip before.next w (sent_of es) line).line
    ≡ (passed (trip_of (losing taken w) es (length line)) line).line
line_left before later es w line taken are still turn =
    let m : Made = record { number = before.next; frame = sent_of es; weather = w; line = line } in
    sym (line_behind m taken (made_now before later (sent_of es) w line are turn))
    ∙ ap (λ (x : Travelled). x.line) (travelled-trip (losing taken w) es line still)

-- a trip leaves as many controllers as there were
length-travelled : (w : Weather) (f : List DatagramRecord) (line : List ControllerState)
    → length (travelled w f line).line ≡ length line
unfolding travelled
length-travelled w f line =
    let P : Bool → Type 0 =
    λ first. length (cond first (with_b_first w f line) (with_a_first w f line)).line ≡ length line in
    elim w.b_first as P [
      | true ↦ length-walked_from_a w.a f (walked_from_b w.b f line).line ∙ length-walked_from_b w.b f line
      | false ↦ length-walked_from_b w.b f (walked_from_a w.a f line).line ∙ length-walked_from_a w.a f line
    ]

length-left : {C : Type 0} (before later : RemoteState C) (es : List Entry) (w : Weather)
    (line : List ControllerState) (taken : Came) → AllByRecursion IsController line
    → IsTurn before (sent_of es) later
    → length (numbered_trip before.next w (sent_of es) line).line ≡ length line
length-left before later es w line taken are turn =
    let m : Made = record { number = before.next; frame = sent_of es; weather = w; line = line } in
    ap (λ (l : List ControllerState). length l)
    (sym (line_behind m taken (made_now before later (sent_of es) w line are turn)))
    ∙ length-travelled (losing taken w) (sent_of es) line

-- ---- the trips of frames

-- a trip of a frame that has room for a number is made
trip_made : {C : Type 0} (gives : Gives C) (heard : Heard C) (before later : RemoteState C)
    (sent : List DatagramRecord) (came : Came) → HasRoom sent
    → RemoteTrips gives heard before sent (Ok came) later → RemoteTrip gives heard before sent came later
trip_made gives heard before later sent came room (inl refused) =
    absurd (omega (arith, refused.full, room))
trip_made gives heard before later sent came room (inr trip) = trip

-- on trips of which none failed copies were taken
pub all_taken : {C : Type 0} (gives : Gives C) (heard : Heard C)
    (before later : RemoteState C) (frames : List (List DatagramRecord)) (came : AllThatCame) → NoneFailed came
    → AllByRecursion HasRoom frames → Brings (RemoteTrips gives heard) before frames came later
    → AreAllTaken gives heard before frames came later
unfolding Brings TakesAll
all_taken gives heard before later frames [] none room brought =
    record { taken = []; takes = (refl, brought) }
all_taken gives heard before later [] (c ∷ more) none room brought = absurd brought
all_taken gives heard before later (sent ∷ frames) (Err failed ∷ more) none room brought = absurd none
all_taken {C} gives heard before later (sent ∷ frames) (Ok came ∷ more) none room brought =
    let between : RemoteState C = brought.0 in
    let trip : RemoteTrip gives heard before sent came between =
    trip_made gives heard before between sent came room.0 brought.1 in
    let rest : AreAllTaken gives heard between frames more later =
    all_taken gives heard between later frames more none room.1 brought.2 in
    record {
      taken = trip.taken.both ∷ rest.taken;
      takes = (
        between,
        record { taken = trip.taken.taken; opened = trip.taken.opened; turn = trip.turn },
        rest.takes,
      );
    }

-- no trip is of the past
no_past : {C : Type 0} (number : ℕ) (frames : List (List DatagramRecord)) (before later : RemoteState C)
    → later ≡ before → Went before (pasts_of number frames []) later
no_past number [] before later same = same
no_past number (sent ∷ frames) before later same = same

both_arrived : (a b : Option (List DatagramRecord))
    → copies_of (arrivals_of (record { a = a; b = b })) ≡ record { a = a; b = b }
both_arrived None None = refl
both_arrived None (Some b) = refl
both_arrived (Some a) None = refl
both_arrived (Some a) (Some b) = refl

-- copies are those that are known to have arrived
copies_arrived : (came : Came) → copies_of (arrivals_of came) ≡ came
copies_arrived came = both_arrived came.a came.b

-- a trip of which it is known where the copies arrived is such a trip of these copies
pub heard_trip : {C : Type 0} (gives : Gives C) (heard : Heard C)
    (before later : RemoteState C) (sent : List DatagramRecord) (arrivals : Result Arrivals PortFault)
    → HeardTrips gives heard before sent arrivals later
    → RemoteTrips gives heard before sent (copies_came arrivals) later
heard_trip gives heard before later sent (Ok arrivals) trip =
    subst (λ (came : Came). RemoteTrips gives heard before sent (Ok came) later)
    (sym (copies_arrived trip.copies) ∙ sym (ap copies_of trip.arrived)) trip.trip
heard_trip gives heard before later sent (Err failed) trip = trip

brings_copies : {C : Type 0} (gives : Gives C) (heard : Heard C)
    (before later : RemoteState C) (frames : List (List DatagramRecord)) (came : AllThatCame)
    → Brings (HeardCopies gives heard) before frames came later
    → Brings (RemoteTrips gives heard) before frames came later
unfolding Brings
brings_copies gives heard before later frames [] brought = brought
brings_copies gives heard before later [] (c ∷ more) brought = absurd brought
brings_copies gives heard before later (sent ∷ frames) (c ∷ more) brought =
    let trip : HeardCopies gives heard before sent c brought.0 = brought.1 in (
      brought.0,
      subst (λ (came : Result Came PortFault). RemoteTrips gives heard before sent came brought.0)
          (sym trip.copies) (heard_trip gives heard before brought.0 sent trip.arrivals trip.made),
      brings_copies gives heard brought.0 later frames more brought.2,
    )

-- so copies were taken on them
pub all_watched : {C : Type 0} (gives : Gives C) (heard : Heard C)
    (before later : RemoteState C) (frames : List (List DatagramRecord)) (came : AllThatCame) → NoneFailed came
    → AllByRecursion HasRoom frames → Brings (HeardCopies gives heard) before frames came later
    → AreAllTaken gives heard before frames came later
all_watched gives heard before later frames came none room brought =
    all_taken gives heard before later frames came none room
    (brings_copies gives heard before later frames came brought)

-- these trips are of the past behind them
pub all_past : {C : Type 0} (gives : Gives C) (heard : Heard C)
    (before later : RemoteState C) (frames : List (List DatagramRecord)) (taken : List Both)
    (came : AllThatCame) → TakesAll gives heard before frames taken came later
    → Went before (pasts_of before.next frames taken) later
unfolding TakesAll
all_past gives heard before later frames taken [] takes =
    subst (λ (l : List Both). Went before (pasts_of before.next frames l) later) (sym takes.0)
    (no_past before.next frames before later takes.1)
all_past gives heard before later [] taken (c ∷ more) takes = absurd takes
all_past gives heard before later (sent ∷ frames) [] (c ∷ more) takes = absurd takes
all_past gives heard before later (sent ∷ frames) (both ∷ taken) (Err f ∷ more) takes = absurd takes
all_past {C} gives heard before later (sent ∷ frames) (both ∷ taken) (Ok came ∷ more) takes =
    let between : RemoteState C = takes.0 in
    let turn : IsTurn before sent between = takes.1.turn in (
      between,
      record { number = refl; turn = turn },
      subst (λ (k : ℕ). Went between (pasts_of k frames taken) later) turn.next
          (all_past gives heard between later frames taken more takes.2),
    )

-- a frame whose first circulating bit is not set
abbrev Still : List Entry → Type 0
Still es = is_circulating (sent_of es) ≡ false

-- in some weathers the trips of frames give what came, and leave the line that was left
record AllGiven (links : Links) (n : ℕ) (fs : List (List Entry)) (line : List ControllerState)
    (came : AllThatCame) (behind : List ControllerState) : Type 0 where
  weathers : List Weather
  given : AllGivenBy (trips_of weathers links n fs) line came
  left : length came ≡ length fs → behind ≡ (trips_run (trips_of weathers links n fs) line).line

none_out : (trip : ℕ) (line behind : List ControllerState) (frames : List (List DatagramRecord))
    (taken : List Both) → taken ≡ [] → NetworkGaveAll trip line frames taken behind → behind ≡ line
none_out trip line behind frames taken is gave =
    subst (λ (l : List Both). NetworkGaveAll trip line frames l behind) is gave

all_given : {C : Type 0} (gives : Gives C) (heard : Heard C) (before later : RemoteState C) (links : Links)
    (n : ℕ) (fs : List (List Entry)) (line : List ControllerState) (taken : List Both) (came : AllThatCame)
    (behind : List ControllerState)
    → length line ≡ n → AllByRecursion IsController line → AllByRecursion Still fs
    → TakesAll gives heard before (map sent_of fs) taken came later
    → NetworkGaveAll before.next line (map sent_of fs) taken behind
    → AllGiven links n fs line came behind
unfolding TakesAll AllGivenBy trips_of trips_run
all_given gives heard before later links n [] line taken [] behind size are still takes gave = record {
  weathers = [];
  given = tt;
  left = λ same. none_out before.next line behind [] taken takes.0 gave;
}
all_given gives heard before later links n (es ∷ fs) line taken [] behind size are still takes gave =
    record { weathers = []; given = tt; left = λ same. absurd (omega (arith, same)) }
all_given gives heard before later links n [] line taken (c ∷ more) behind size are still takes gave =
    absurd takes
all_given gives heard before later links n (es ∷ fs) line [] (c ∷ more) behind size are still takes gave =
    absurd takes
all_given gives heard before later links n (es ∷ fs) line (both ∷ taken) (Err f ∷ more) behind size are still
    takes gave = absurd takes
all_given {C} gives heard before later links n (es ∷ fs) line (both ∷ taken) (Ok came ∷ more) behind size are
    still takes gave =
    let between : RemoteState C = takes.0 in
    let here : Takes gives heard before (sent_of es) both came between = takes.1 in
    let turn : IsTurn before (sent_of es) between = here.turn in
    let number : ℕ = before.next in
    let w : Weather = gave.0 in
    let v : Weather = losing (by_number both) w in
    let next : List ControllerState = (numbered_trip number w (sent_of es) line).line in
    let gave_more : NetworkGaveAll between.next next (map sent_of fs) taken behind =
    subst (λ (k : ℕ). NetworkGaveAll k next (map sent_of fs) taken behind) (sym turn.next) gave.2 in
    let rest : AllGiven links n fs next more behind =
    all_given gives heard between later links n fs next taken more behind
    (length-left before between es w line (by_number both) are turn ∙ size)
    (numbered_is number w (sent_of es) line are) still.1 takes.2 gave_more in
    let left : next ≡ (passed (trip_of v es n) line).line =
    subst (λ (k : ℕ). next ≡ (passed (trip_of v es k) line).line) size
    (line_left before between es w line (by_number both) are still.0 turn) in
    record {
      weathers = v ∷ rest.weathers;
      given = (
        subst (λ (k : ℕ). GivenBy (trip_of v es k) line (Ok came)) size
            (trip_given gives heard before between es both came w line are still.0 here gave.1),
        subst (λ (l : List ControllerState). AllGivenBy (trips_of rest.weathers links n fs) l more) left
            rest.given,
      );
      left = λ same. rest.left (omega (arith, same))
          ∙ ap (λ (l : List ControllerState). (trips_run (trips_of rest.weathers links n fs) l).line) left;
    }

-- ---- the frames of items

-- a frame of entries of each of which this holds, and of one at least
abbrev AtLeastOne : (Entry → Type 0) → List Entry → Type 0
AtLeastOne P es = (0 < length (sent_of es)) × AllByRecursion P es

each_more : (P : Entry → Type 0) (es : List Entry) (e : Entry) → AllByRecursion P es → P e
    → AllByRecursion P (es ++ e ∷ [])
each_more P [] e all one = (one, tt)
each_more P (x ∷ es) e all one = (all.0, each_more P es e all.1 one)

some_more : (es : List Entry) (e : Entry) → 0 < length (sent_of (es ++ e ∷ []))
some_more [] e = omega arith
some_more (x ∷ es) e = omega arith

each_onto : (P : Entry → Type 0) (frame es : List Entry) → AtLeastOne P frame → AllByRecursion P es
    → AllByRecursion (AtLeastOne P) (cut_onto frame es)
unfolding cut_onto
each_onto P frame [] some all = (some, tt)
each_onto P frame (e ∷ es) some all =
    let Q : Bool → Type 0 =
    λ b. AllByRecursion (AtLeastOne P)
    (cond b (cut_onto (frame ++ e ∷ []) es) (frame ∷ cut_onto (e ∷ []) es)) in
    elim (fits_frame (frame ++ e ∷ [])) as Q [
      | true ↦ each_onto P (frame ++ e ∷ []) es (some_more frame e, each_more P frame e some.1 all.0) all.1
      | false ↦ (some, each_onto P (e ∷ []) es (some_more [] e, (all.0, tt)) all.1)
    ]

-- what holds of each entry holds of each frame's
each_cut : (P : Entry → Type 0) (es : List Entry) → AllByRecursion P es
    → AllByRecursion (AtLeastOne P) (cut es)
unfolding cut
each_cut P [] all = tt
each_cut P (e ∷ es) all = each_onto P (e ∷ []) es (some_more [] e, (all.0, tt)) all.1

-- no entry is sent circulating
abbrev Calm : Entry → Type 0
Calm e = e.sent.circulating ≡ false

calm_entries : (k : ℕ) (items : List ItemRecord) → AllByRecursion Calm (entries_from k items)
unfolding entries_from
calm_entries k [] = tt
calm_entries k (r ∷ rs) = (refl, calm_entries (suc k) rs)

still_frames : (fs : List (List Entry)) → AllByRecursion (AtLeastOne Calm) fs → AllByRecursion Still fs
still_frames [] all = tt
still_frames ([] ∷ fs) all = (refl, still_frames fs all.1)
still_frames ((e ∷ es) ∷ fs) all = (all.0.1.0, still_frames fs all.1)

-- over a ring in some weathers the frames of items bring what they brought
pub given_by : {C : Type 0} (gives : Gives C) (heard : Heard C) (before later : RemoteState C) (r : RingState)
    (items : List ItemRecord) (taken : List Both) (came : AllThatCame) (behind : List ControllerState)
    → AllByRecursion IsController (line_of r)
    → TakesAll gives heard before (map sent_of (frames_of items)) taken came later
    → NetworkGaveAll before.next (line_of r) (map sent_of (frames_of items)) taken behind
    → IsGivenBy r items came behind
given_by gives heard before later r items taken came behind are takes gave =
    let is : AllGiven r.links (length r.slaves) (frames_of items) (line_of r) came behind =
    all_given gives heard before later r.links (length r.slaves) (frames_of items) (line_of r) taken came behind
    (length-controllers r.slaves) are
    (still_frames (frames_of items) (each_cut Calm (entries_from 0 items) (calm_entries 0 items))) takes gave in
    record { weathers = is.weathers; given = is.given; left = is.left }

-- so the end of the cycle says of the ring all that a cycle over it says
pub says_of : {C : Type 0} (gives : Gives C) (heard : Heard C) (before later : RemoteState C) (r : RingState)
    (items : List ItemRecord) (expected : List ℕ) (taken : List Both) (came : AllThatCame)
    (behind : List ControllerState) (result : Result Verdict CycleFault) (items_later : List ItemRecord)
    → length r.slaves ≤ MAX_SLAVES → IsAccepted r.slaves items
    → expected ≡ map (expected_of (line_of r)) items → SaysOfEach items expected came result items_later
    → TakesAll gives heard before (map sent_of (frames_of items)) taken came later
    → NetworkGaveAll before.next (line_of r) (map sent_of (frames_of items)) taken behind
    → IsOfCycle r items came behind result items_later
says_of gives heard before later r items expected taken came behind result items_later room accepted counts
    says takes gave =
    let is : IsGivenBy r items came behind =
    given_by gives heard before later r items taken came behind accepted.are takes gave in
    record {
      weathers = is.weathers;
      says = says is.weathers r room accepted counts is.given;
      left = λ same. ap (λ (l : List ControllerState). with_line r l) (sym (is.left same));
    }
