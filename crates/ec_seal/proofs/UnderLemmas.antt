-- What arrives of a numbered frame bears its number and came of the frame under it: every true copy is taken.
use Rattle.std.specs.Prelude.{◌≡◌, ◌<◌, ℕ, ◌*◌, ◌^◌, Bool, true, false, if◌then◌else◌}
use Rattle.std.specs.Prelude.{List, length, Option, None, Some, IfSome}
use Rattle.std.specs.Option.{option_map}
use Rattle.std.proofs.Common.{sym, subst}
use Rattle.ec_wire.specs.Datagram.{DatagramRecord}
use Rattle.ec_esc.specs.State.{ControllerState}
use Rattle.ec_ring.specs.Travel.{came_of}
use Rattle.ec_ring.specs.Walk.{Walked, walked, walked_from_a, walked_from_b}
use Rattle.ec_ring.specs.declared.links.Links.{Links}
use Rattle.ec_ring.specs.declared.port.Port.{Port}
use Rattle.ec_ring.specs.declared.port.Port.TheVariants.{A, B}
use Rattle.ec_ring.specs.declared.weather.Weather.{Weather}
use Rattle.ec_number.specs.Number.{numbered, Bears, CameUnder, number_a, number_b}
use Rattle.ec_number.proofs.Laws.{with_number-bears, own_under, apart-number}
use Rattle.ec_seal.specs.Trips.{CountersFit, numbered_trip, two_travelled, two_a_first, two_b_first}
use Rattle.ec_seal.proofs.ArriveLemmas.{from_comes}
use Rattle.ec_seal.proofs.CarryLemmas.{AreControllers}
use Rattle.ec_seal.proofs.ComesLemmas.{FrameComes, comes_own}
use Rattle.ec_seal.proofs.WalkLemmas.{numbered_from, numbered_arrival, turned_from, a_is, b_is}

-- what follows for a value follows for the one there is
pub if_some : {X : Type 0} (o : Option X) (P Q : X → Type 0) → ((x : X) → P x → Q x) → IfSome o P → IfSome o Q
if_some None P Q f holds = tt
if_some (Some x) P Q f holds = f x holds

-- ---- one copy

arrival_bears : (b : Bool) (n : ℕ) (o : Option (List DatagramRecord × Port)) → n < 2 ^ 64
    → IfSome (option_map (numbered_arrival b n) o) (λ (x : List DatagramRecord × Port). Bears n x.0)
arrival_bears b n None small = tt
arrival_bears b n (Some x) small = with_number-bears b n x.0 small

pub walk_bears : (n : ℕ) (ds : List DatagramRecord) (from : Port) (links : Links) (line : List ControllerState)
    → n < 2 ^ 64 → AreControllers line
    → IfSome (walked from links (numbered n ds) line).arrived (λ (x : List DatagramRecord × Port). Bears n x.0)
walk_bears n ds from links line small all =
    let P : Walked → Type 0 = λ w. IfSome w.arrived (λ (x : List DatagramRecord × Port). Bears n x.0) in
    subst P (sym (numbered_from n ds from links line all))
    (arrival_bears (turned_from from links (length line)) n (walked from links ds line).arrived small)

arrival_under : (b : Bool) (n k : ℕ) (ds : List DatagramRecord) (o : Option (List DatagramRecord × Port))
    → IfSome o (λ (x : List DatagramRecord × Port). FrameComes k ds x.0)
    → IfSome (option_map (numbered_arrival b n) o) (λ (x : List DatagramRecord × Port). CameUnder n ds x.0)
arrival_under b n k ds None comes = tt
arrival_under b n k ds (Some x) comes = own_under b n ds x.0 (comes_own k ds x.0 comes)

pub walk_under : (n : ℕ) (ds : List DatagramRecord) (from : Port) (links : Links) (line : List ControllerState)
    → AreControllers line → CountersFit ds
    → IfSome (walked from links (numbered n ds) line).arrived
    (λ (x : List DatagramRecord × Port). CameUnder n ds x.0)
walk_under n ds from links line all fit =
    let P : Walked → Type 0 = λ w. IfSome w.arrived (λ (x : List DatagramRecord × Port). CameUnder n ds x.0) in
    subst P (sym (numbered_from n ds from links line all))
    (arrival_under (turned_from from links (length line)) n (3 * length line) ds (walked from links ds line).arrived
    (from_comes from links ds line fit))

pub one_number : (m n : ℕ) (f g : List DatagramRecord) (from : Port) (links : Links)
    (line : List ControllerState) → AreControllers line → CountersFit f → m < 2 ^ 64 → n < 2 ^ 64
    → IfSome (walked from links (numbered m f) line).arrived
    (λ (x : List DatagramRecord × Port). CameUnder n g x.0 → m ≡ n)
one_number m n f g from links line all fit in_m in_n =
    if_some (walked from links (numbered m f) line).arrived
    (λ (x : List DatagramRecord × Port). CameUnder m f x.0)
    (λ (x : List DatagramRecord × Port). CameUnder n g x.0 → m ≡ n)
    (λ x came other. apart-number m n f g x.0 in_m in_n came other)
    (walk_under m f from links line all fit)

-- ---- both copies

came_back : (P : List DatagramRecord → Type 0) (lost : Bool) (w : Walked)
    → IfSome w.arrived (λ (x : List DatagramRecord × Port). P x.0)
    → IfSome (came_of lost w) P
came_back P true w holds = tt
came_back P false w holds = arrived w.arrived holds
  where
    arrived : (o : Option (List DatagramRecord × Port)) → IfSome o (λ (x : List DatagramRecord × Port). P x.0)
        → IfSome (option_map (λ (x : List DatagramRecord × Port). x.0) o) P
    arrived None holds = tt
    arrived (Some x) holds = holds

pub trip_a_under : (n : ℕ) (w : Weather) (ds : List DatagramRecord) (line : List ControllerState)
    → AreControllers line → CountersFit ds
    → IfSome (numbered_trip n w ds line).came.a (CameUnder (number_a n) ds)
unfolding two_travelled
trip_a_under n w ds line all fit =
    let sent : List DatagramRecord = numbered (number_a n) ds in
    let other : List DatagramRecord = numbered (number_b n) ds in
    let behind : Walked = walked_from_b w.b other line in
    let P : List DatagramRecord → Type 0 = CameUnder (number_a n) ds in
    let Q : Bool → Type 0 = λ first.
    IfSome (if first then two_b_first w sent other line else two_a_first w sent other line).came.a P in
    elim w.b_first as Q [
      | true ↦ came_back P w.lost_a (walked_from_a w.a sent behind.line)
          (walk_under (number_a n) ds A w.a behind.line (b_is w.b other line all) fit)
      | false ↦ came_back P w.lost_a (walked_from_a w.a sent line)
          (walk_under (number_a n) ds A w.a line all fit)
    ]

pub trip_b_under : (n : ℕ) (w : Weather) (ds : List DatagramRecord) (line : List ControllerState)
    → AreControllers line → CountersFit ds
    → IfSome (numbered_trip n w ds line).came.b (CameUnder (number_b n) ds)
unfolding two_travelled
trip_b_under n w ds line all fit =
    let sent : List DatagramRecord = numbered (number_b n) ds in
    let other : List DatagramRecord = numbered (number_a n) ds in
    let behind : Walked = walked_from_a w.a other line in
    let P : List DatagramRecord → Type 0 = CameUnder (number_b n) ds in
    let Q : Bool → Type 0 = λ first.
    IfSome (if first then two_b_first w other sent line else two_a_first w other sent line).came.b P in
    elim w.b_first as Q [
      | true ↦ came_back P w.lost_b (walked_from_b w.b sent line)
          (walk_under (number_b n) ds B w.b line all fit)
      | false ↦ came_back P w.lost_b (walked_from_b w.b sent behind.line)
          (walk_under (number_b n) ds B w.b behind.line (a_is w.a other line all) fit)
    ]
