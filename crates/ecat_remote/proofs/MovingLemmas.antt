-- Over a line that moves, what a cycle brings is what the ring's own trips give.
use Rattle.std.specs.Prelude.{◌≡◌, ◌^◌, ◌≤◌, ◌<◌, ℕ, Bool, true, false, ◌||◌}
use Rattle.std.specs.Prelude.{if◌then◌else◌, List, [], ◌∷◌, length, map, Option, None, Some, IfSome, is_none}
use Rattle.std.specs.Prelude.{Result, Ok, Err, refl}
use Rattle.std.specs.Option.{option_map}
use Rattle.std.proofs.Common.{arith, ap, sym, subst, ◌∙◌, inl, inr}
use Rattle.ec_wire.specs.Datagram.{DatagramRecord}
use Rattle.ec_esc.specs.State.{ControllerState}
use Rattle.ec_line.specs.After.{Entry}
use Rattle.ec_line.specs.Answered.{sent_of}
use Rattle.ec_line.specs.Moving.{Visit, MovingTrips, copy_a, copy_b, laters}
use Rattle.ec_line.specs.Trip.{Trip}
use Rattle.ec_map.specs.Item.{ItemRecord}
use Rattle.ec_map.specs.Share.{expected_of}
use Rattle.ec_ring.specs.Reach.{arrival_a, arrival_b}
use Rattle.ec_ring.specs.Ring.{RingState, line_of}
use Rattle.ec_ring.specs.Travel.{trip_of, as_trip}
use Rattle.ec_ring.specs.declared.links.Links.{Links}
use Rattle.ec_ring.specs.declared.links.TheConstants.{MAX_SLAVES}
use Rattle.ec_ring.specs.declared.weather.Came.{Came}
use Rattle.ec_ring.specs.declared.weather.Weather.{Weather}
use Rattle.ec_number.specs.Number.{Bears, CameUnder, opened, number_a, number_b}
use Rattle.ec_number.proofs.Laws.{under-bears}
use Rattle.ec_seal.specs.Moving.{GoesBackMoving, MeetsMoving}
use Rattle.ec_seal.specs.Taken.{BearsOneOf, losing}
use Rattle.ec_seal.specs.Trips.{both_opened}
use Rattle.ec_seal.proofs.Laws.{taken_moving_a, taken_moving_b}
use Rattle.ec_master.specs.Cut.{frames_of}
use Rattle.ec_master.specs.Given.{AllThatCame, exchanged}
use Rattle.ec_master.specs.Moments.{IsMovingCycle, GivenByMoving, AllGivenByMoving, copies_moving}
use Rattle.ec_master.specs.Moments.{SaysOfEachMoving, SaysOfMoving}
use Rattle.ec_master.specs.Travelled.{trips_of}
use Rattle.ec_master.specs.Unordered.{IsAccepted}
use Rattle.ec_master.specs.declared.cycle.CycleFault.{CycleFault}
use Rattle.ec_master.specs.declared.verdict.Verdict.{Verdict}
use Rattle.ecat_remote.specs.Moving.{GaveMoving, NetworkGaveMoving, losing_each}
use Rattle.ecat_remote.specs.Network.{by_number, Takes, TakesAll}
use Rattle.ecat_remote.specs.Taken.{Gives, Heard, AreBoth}
use Rattle.ecat_remote.specs.Trips.{RemoteState, IsTurn}
use Rattle.ecat_remote.specs.declared.enough.Both.{Both}
use Rattle.ec_ring.specs.declared.port.Port.TheVariants.{A, B}
use Rattle.ecat_remote.proofs.HistoryLemmas.{with_both, came_by_number}
use Rattle.ecat_remote.proofs.NetworkLemmas.{both_in_either}

-- ---- one trip

-- a copy that was taken, opened, is what the trip gives that loses what was not taken
gives_one : (wl none : Bool) (frame : List DatagramRecord) (taken : Option (List DatagramRecord))
    → IfSome taken (λ (copy : List DatagramRecord). ((wl || none) ≡ false) × (opened copy ≡ frame))
    → option_map opened taken ≡ (if is_none taken || none then None else Some frame)
gives_one wl none frame None own = refl
gives_one false false frame (Some copy) own = ap Some own.1
gives_one false true frame (Some copy) own = absurd (let no : true ≡ false = own.0 in cc)
gives_one true none frame (Some copy) own = absurd (let no : true ≡ false = own.0 in cc)

bears_if : (n : ℕ) (sent : List DatagramRecord) (o : Option (List DatagramRecord)) → n < 2 ^ 64
    → IfSome o (CameUnder n sent) → IfSome o (λ (copy : List DatagramRecord). Bears n copy)
bears_if n sent None small came = tt
bears_if n sent (Some copy) small came = under-bears n sent copy small came

meets_moving : {C : Type 0} (gives : Gives C) (heard : Heard C) (before later : RemoteState C) (f : List Entry)
    (both : Both) (w : Weather) (size : ℕ) (vs : List Visit) → IsTurn before (sent_of f) later
    → AreBoth gives heard (heard before.carrier) before.next (sent_of f) both later.carrier
    → GaveMoving before.next (trip_of w f size) vs (by_number both)
    → MeetsMoving before.next (trip_of w f size) vs (by_number both)
meets_moving gives heard before later f both w size vs turn are gave =
    let n : ℕ = before.next in
    let sent : List DatagramRecord = sent_of f in
    let P : List DatagramRecord → Type 0 = λ copy. BearsOneOf n copy → GoesBackMoving n (trip_of w f size) vs copy in
    let since : ℕ = heard before.carrier in
    let below : n < 2 ^ 63 = turn.below in
    record {
      number = turn.below;
      at_a = gave.at_a;
      at_b = gave.at_b;
      a = with_both P (λ copy. Bears (number_a n) copy) (by_number both).a gave.a
          (bears_if (number_a n) sent (by_number both).a (omega (arith, below))
          (came_by_number gives heard since n sent both later.carrier A are));
      b = with_both P (λ copy. Bears (number_b n) copy) (by_number both).b gave.b
          (bears_if (number_b n) sent (by_number both).b (omega (arith, below))
          (came_by_number gives heard since n sent both later.carrier B are));
    }

trip_moving : {C : Type 0} (gives : Gives C) (heard : Heard C) (before later : RemoteState C) (f : List Entry)
    (both : Both) (came : Came) (w : Weather) (size : ℕ) (vs : List Visit)
    → Takes gives heard before (sent_of f) both came later
    → GaveMoving before.next (trip_of w f size) vs (by_number both)
    → GivenByMoving (trip_of (losing (by_number both) w) f size) vs (Ok came)
trip_moving gives heard before later f both came w size vs takes gave =
    let n : ℕ = before.next in
    let t : Trip = trip_of w f size in
    let u : Trip = trip_of (losing (by_number both) w) f size in
    let m : MeetsMoving n t vs (by_number both) =
    meets_moving gives heard before later f both w size vs takes.turn takes.taken gave in
    let a : option_map opened (by_number both).a
    ≡ (if is_none (by_number both).a || is_none (arrival_a w.a size) then None else Some (copy_a t vs).frame) =
    gives_one w.lost_a (is_none (arrival_a w.a size)) (copy_a t vs).frame (by_number both).a
    (taken_moving_a n t vs (by_number both) m) in
    let b : option_map opened (by_number both).b
    ≡ (if is_none (by_number both).b || is_none (arrival_b w.b size) then None else Some (copy_b t vs).frame) =
    gives_one w.lost_b (is_none (arrival_b w.b size)) (copy_b t vs).frame (by_number both).b
    (taken_moving_b n t vs (by_number both) m) in
    let own : both_opened (by_number both) ≡ (as_trip u (copies_moving u vs)).came =
    ap (λ (o : Option (List DatagramRecord)).
    record { a = o; b = option_map opened (by_number both).b }) a
    ∙ ap (λ (o : Option (List DatagramRecord)).
    record {
      a = if is_none (by_number both).a || is_none (arrival_a w.a size) then None else Some (copy_a t vs).frame;
      b = o;
    }) b in
    elim (both_in_either gives heard (heard before.carrier) n (sent_of f) both later.carrier takes.taken) [
      | inl is ↦ inl (takes.opened ∙ is ∙ own)
      | inr is ↦ inr (takes.opened ∙ is ∙ ap exchanged own)
    ]

-- ---- the trips of frames

pub all_moving : {C : Type 0} (gives : Gives C) (heard : Heard C) (before later : RemoteState C) (links : Links)
    (size : ℕ) (fs : List (List Entry)) (ws : List Weather) (runs : List (List Visit)) (taken : List Both)
    (came : AllThatCame)
    → TakesAll gives heard before (map sent_of fs) taken came later
    → NetworkGaveMoving before.next size fs ws runs taken
    → AllGivenByMoving (trips_of (losing_each taken ws) links size fs) runs came
unfolding TakesAll AllGivenByMoving trips_of
all_moving gives heard before later links size fs ws runs taken [] takes gave = tt
all_moving gives heard before later links size [] ws runs taken (c ∷ more) takes gave = absurd takes
all_moving gives heard before later links size (f ∷ fs) ws runs [] (c ∷ more) takes gave = absurd takes
all_moving gives heard before later links size (f ∷ fs) ws runs (both ∷ taken) (Err x ∷ more) takes gave =
    absurd takes
all_moving gives heard before later links size (f ∷ fs) [] runs (both ∷ taken) (Ok came ∷ more) takes gave =
    absurd gave
all_moving gives heard before later links size (f ∷ fs) (w ∷ ws) [] (both ∷ taken) (Ok came ∷ more) takes gave =
    absurd gave
all_moving {C} gives heard before later links size (f ∷ fs) (w ∷ ws) (vs ∷ runs) (both ∷ taken)
    (Ok came ∷ more) takes gave =
    let between : RemoteState C = takes.0 in
    let here : Takes gives heard before (sent_of f) both came between = takes.1 in (
      trip_moving gives heard before between f both came w size vs here gave.0,
      all_moving gives heard between later links size fs ws runs taken more takes.2
          (subst (λ (k : ℕ). NetworkGaveMoving k size fs ws runs taken) (sym here.turn.next) gave.1),
    )

-- the slaves move so, whatever is lost on the last hop
pub moves_losing : (links : Links) (size : ℕ) (fs : List (List Entry)) (ws : List Weather)
    (runs : List (List Visit)) (taken : List Both) (line : List ControllerState)
    → MovingTrips (trips_of ws links size fs) runs line
    → MovingTrips (trips_of (losing_each taken ws) links size fs) runs line
unfolding trips_of
moves_losing links size fs ws runs [] line moves = moves
moves_losing links size fs [] runs (both ∷ taken) line moves = moves
moves_losing links size [] (w ∷ ws) runs (both ∷ taken) line moves = moves
moves_losing links size (f ∷ fs) (w ∷ ws) [] (both ∷ taken) line moves = absurd moves
moves_losing links size (f ∷ fs) (w ∷ ws) (vs ∷ runs) (both ∷ taken) line moves = (
  record { starts = moves.0.starts; moves = moves.0.moves },
  moves_losing links size fs ws runs taken (laters vs) moves.1,
)

-- so the end of the cycle says of the ring that moves all that a cycle over it says
pub says_moving : {C : Type 0} (gives : Gives C) (heard : Heard C) (before later : RemoteState C) (r : RingState)
    (items : List ItemRecord) (expected : List ℕ) (ws : List Weather) (runs : List (List Visit))
    (taken : List Both) (came : AllThatCame) (result : Result Verdict CycleFault) (items_later : List ItemRecord)
    → length r.slaves ≤ MAX_SLAVES → IsAccepted r.slaves items → IsMovingCycle ws r items runs
    → expected ≡ map (expected_of (line_of r)) items
    → SaysOfEachMoving items expected came result items_later
    → TakesAll gives heard before (map sent_of (frames_of items)) taken came later
    → NetworkGaveMoving before.next (length r.slaves) (frames_of items) ws runs taken
    → SaysOfMoving (losing_each taken ws) r items runs result items_later
says_moving gives heard before later r items expected ws runs taken came result items_later room accepted moves
    counts says takes gave =
    says (losing_each taken ws) r runs room accepted
    (moves_losing r.links (length r.slaves) (frames_of items) ws runs taken (line_of r) moves) counts
    (all_moving gives heard before later r.links (length r.slaves) (frames_of items) ws runs taken came takes gave)
