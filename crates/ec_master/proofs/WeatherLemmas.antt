-- Frames go out over a ring in weathers, each under its own: what comes back is what the ring's trips give.
use Rattle.std.proofs.Common.{◌≡◌, ◌∙◌, ℕ, refl, sym, ap, subst, inl, arith}
use Rattle.std.proofs.Common.{List, [], ◌∷◌, map, length, Ok, Err}
use Rattle.std.specs.Prelude.{Result}
use Rattle.std.specs.List.{AllByRecursion}
use Rattle.ec_esc.specs.State.{ControllerState}
use Rattle.ec_line.specs.After.{Entry}
use Rattle.ec_line.specs.Answered.{sent_of}
use Rattle.ec_line.specs.Run.{trips_run}
use Rattle.ec_line.specs.Trip.{Trip, passed}
use Rattle.ec_map.specs.Item.{ItemRecord, IsItem}
use Rattle.ec_ring.specs.Ring.{RingState, line_of, with_line}
use Rattle.ec_ring.specs.Travel.{Travelled, travelled, trip_of, as_trip}
use Rattle.ec_ring.specs.declared.links.Links.{Links}
use Rattle.ec_ring.specs.declared.port.PortFault.{PortFault}
use Rattle.ec_ring.specs.declared.weather.Came.{Came}
use Rattle.ec_ring.specs.declared.weather.Weather.{Weather}
use Rattle.ec_ring.proofs.Laws.{length-controllers}
use Rattle.ec_master.specs.Cut.{frames_of}
use Rattle.ec_master.specs.Given.{AllThatCame}
use Rattle.ec_master.specs.Suffice.{Brings, GivenBy, AllGivenBy}
use Rattle.ec_master.specs.Travelled.{trips_of}
use Rattle.ec_master.specs.WeatherTrips.{InWeather, WeatherTrips, next_weather}
use Rattle.ec_master.proofs.CarryLemmas.{travelled-frame}
use Rattle.ec_master.proofs.JudgedLemmas.{Sent, frames-sent}
use Rattle.ec_master.proofs.TravelLemmas.{IsLaterRing, later_ring-start, later_ring-next, line-next}
use Rattle.ec_master.proofs.TravelLemmas.{trips-next}

-- what came of a frame is what a trip over the ring gives, and the ring behind it is the trip's
record IsGiven (t : Trip) (now later : RingState) (came : Result Came PortFault) : Type 0 where
  gives : GivenBy t (line_of now) came
  ring : later ≡ with_line now (passed t (line_of now)).line

given_by-ok : (t : Trip) (line : List ControllerState) (came : Result Came PortFault)
    → came ≡ Ok (as_trip t (passed t line)).came → GivenBy t line came
given_by-ok t line (Err failed) is =
    absurd (let no : Err failed ≡ Ok (as_trip t (passed t line)).came = is in cc)
given_by-ok t line (Ok came) is =
    inl (let e : Ok came ≡ Ok (as_trip t (passed t line)).came = is in cc)

given : (before later : InWeather) (f : List Entry) (came : Result Came PortFault) → Sent f
    → WeatherTrips before (sent_of f) came later
    → IsGiven (trip_of (next_weather before.ahead before.ring.links) f (length before.ring.slaves)) before.ring
    later.ring came
given before later f came sent made =
    let r : RingState = before.ring in
    let w : Weather = next_weather before.ahead r.links in
    let line : List ControllerState = line_of r in
    let t : Trip = trip_of w f (length r.slaves) in
    let way : travelled w (sent_of f) line ≡ as_trip t (passed t line) =
    travelled-frame w f (sent_of f) line
    (record { datagrams = refl; way = sent.0; not_circulating = sent.1 })
    ∙ ap (λ (n : ℕ). as_trip (trip_of w f n) (passed (trip_of w f n) line)) (length-controllers r.slaves) in
    record {
      gives = given_by-ok t line came (made.came_back ∙ ap (λ (x : Travelled). Ok x.came) way);
      ring = made.ring ∙ ap (λ (x : Travelled). with_line r x.line) way;
    }

-- what came of all frames is what the trips of the ring as it was at first give
pub record AreGiven (ws : List Weather) (at_first now later : RingState) (fs : List (List Entry))
    (came : AllThatCame) : Type 0 where
  pub gives : AllGivenBy (trips_of ws at_first.links (length at_first.slaves) fs) (line_of now) came
  pub ring : length came ≡ length fs → later ≡ with_line at_first
      (trips_run (trips_of ws at_first.links (length at_first.slaves) fs) (line_of now)).line

all_given : (fs : List (List Entry)) (at_first : RingState) (before later : InWeather) (came : AllThatCame)
    → IsLaterRing at_first before.ring → AllByRecursion Sent fs
    → Brings WeatherTrips before (map sent_of fs) came later
    → AreGiven before.ahead at_first before.ring later.ring fs came
unfolding Brings trips_of trips_run AllGivenBy
all_given [] at_first before later [] is sent brings = record {
  gives = tt;
  ring = λ all. ap (λ (p : InWeather). p.ring) brings ∙ is.line;
}
all_given [] at_first before later (c ∷ more) is sent brings = absurd brings
all_given (f ∷ fs) at_first before later [] is sent brings =
    record { gives = tt; ring = λ all. absurd (omega (arith, all)) }
all_given (f ∷ fs) at_first before later (c ∷ more) is sent brings =
    let links : Links = at_first.links in
    let n : ℕ = length at_first.slaves in
    let ws : List Weather = before.ahead in
    let line : List ControllerState = line_of before.ring in
    let t : Trip = trip_of (next_weather ws links) f n in
    let between : InWeather = brings.0 in
    let same_links : before.ring.links ≡ links = ap (λ (r : RingState). r.links) is.line in
    let same_size : length before.ring.slaves ≡ n = sym (length-controllers before.ring.slaves) ∙ is.size in
    let here : IsGiven t before.ring between.ring c =
    subst (λ (m : ℕ). IsGiven (trip_of (next_weather ws links) f m) before.ring between.ring c) same_size
    (subst (λ (l : Links). IsGiven (trip_of (next_weather ws l) f (length before.ring.slaves)) before.ring
    between.ring c) same_links (given before between f c sent.0 brings.1)) in
    let behind = all_given fs at_first between later more
    (later_ring-next at_first before.ring between.ring t is here.ring) sent.1 brings.2 in
    let next : line_of between.ring ≡ (passed t line).line = line-next before.ring between.ring t here.ring in
    record {
      gives = subst (λ (ts : List Trip). AllGivenBy ts line (c ∷ more)) (sym (trips-next ws links n f fs)) (
        here.gives,
        subst (λ (vs : List Weather). AllGivenBy (trips_of vs links n fs) (passed t line).line more)
            brings.1.ahead
            (subst (λ (l : List ControllerState). AllGivenBy (trips_of between.ahead links n fs) l more) next
            behind.gives),
      );
      ring = λ all. behind.ring (omega (arith, all))
          ∙ ap (λ (l : List ControllerState). with_line at_first (trips_run (trips_of between.ahead links n fs) l).line)
          next
          ∙ ap (λ (vs : List Weather). with_line at_first (trips_run (trips_of vs links n fs) (passed t line).line).line)
          brings.1.ahead
          ∙ ap (λ (ts : List Trip). with_line at_first (trips_run ts line).line)
          (sym (trips-next ws links n f fs));
    }

-- of the frames of a work
pub weathers_give : (items : List ItemRecord) (before later : InWeather) (came : AllThatCame)
    → AllByRecursion IsItem items → Brings WeatherTrips before (map sent_of (frames_of items)) came later
    → AreGiven before.ahead before.ring before.ring later.ring (frames_of items) came
weathers_give items before later came are brings =
    all_given (frames_of items) before.ring before later came (later_ring-start before.ring)
    (frames-sent items are) brings
