-- One frame more has travelled; in the end none is left.
use Rattle.std.proofs.Common.{◌≡◌, ℕ, ◌+◌, ◌∙◌, ◌<◌, ◌≤◌, ap, sym, arith, length, List}
use Rattle.ec_wire.specs.Datagram.{DatagramRecord}
use Rattle.ec_line.specs.Trip.{Trip, Passed, passed, joined_of}
use Rattle.ec_ring.specs.Ring.{RingState, line_of, with_line}
use Rattle.ec_ring.specs.Travel.{trip_of}
use Rattle.ec_ring.specs.declared.links.Links.{Links}
use Rattle.ec_ring.specs.declared.weather.Weather.{Weather}
use Rattle.ec_ring.proofs.Laws.{length-controllers}
use Rattle.ec_master.specs.Cut.{frame_at}
use Rattle.ec_master.specs.Work.{with_answers_at}
use Rattle.ec_master.specs.WeatherTrips.{behind_next, next_weather}
use Rattle.ec_master.proofs.TravelLemmas.{Finished, finished, finished-next, finished-none, finished-all}
use Rattle.ec_master.proofs.TravelLemmas.{later_ring-start, later_ring-next, line-next}
use Rattle.ec_master.proofs.WorkLemmas.{length-with_answers_at}
use Rattle.ec_master.proofs.ring.travel.Goals as goal

pub loop-first-init : goal.loop-first-init
loop-first-init g c = record {
  left = ap (λ (ws : List Weather). finished ws (g.T.Travel.ring c.args.ring.now).links
      (length (g.T.Travel.ring c.args.ring.now).slaves) 0 c.args.work.now (line_of (g.T.Travel.ring c.args.ring.now)))
      c.new-ahead.ensures;
  ring = later_ring-start (g.T.Travel.ring c.args.ring.now);
  inside = omega arith;
}

pub overflow_add-first : goal.overflow_add-first
overflow_add-first g c =
    omega (
      arith,
      c.count-first.ensures.count,
      c.exchange-joined.ensures.room,
      c.exchange-joined.ensures.limit,
    )

pub loop-first-smaller : goal.loop-first-smaller
loop-first-smaller g c =
    omega (
      arith,
      c.count-first.ensures.count,
      c.exchange-joined.ensures.some,
      c.exchange-joined.ensures.room,
      ap length c.take_answers.ensures,
      length-with_answers_at c.loop-first.first c.loop-first.work c.exchange-joined.result,
    )

pub loop-first-preserved : goal.loop-first-preserved
loop-first-preserved g c =
    let r0 : RingState = g.T.Travel.ring c.args.ring.now in
    let r : RingState = g.T.Travel.ring c.loop-first.ring in
    let later : RingState = g.T.Travel.ring c.exchange-joined.new.ring in
    let n : ℕ = length r0.slaves in
    let k : ℕ = c.loop-first.first in
    let items = c.loop-first.work in
    let ws : List Weather = c.loop-first.ahead in
    let t : Trip = trip_of (next_weather ws r0.links) (frame_at k items) n in
    let places : length r.slaves ≡ n = sym (length-controllers r.slaves) ∙ c.loop-first.invariant.ring.size in
    let weather : c.take_next-under.result ≡ next_weather ws r0.links
    = c.take_next-under.ensures.weather ∙ ap (λ (l : Links). next_weather ws l) c.links-links.ensures.links in
    let same : trip_of c.take_next-under.result (frame_at k items) (length r.slaves) ≡ t
    = (λ i. trip_of (weather i) (frame_at k items) (places i)) in
    let p : Passed = passed t (line_of r) in
    let joined : c.exchange-joined.result ≡ joined_of t p
    = c.exchange-joined.ensures.joined ∙ ap (λ (x : Trip). joined_of x (passed x (line_of r))) same in
    let ring : later ≡ with_line r p.line
    = c.exchange-joined.ensures.ring ∙ ap (λ (x : Trip). with_line r (passed x (line_of r)).line) same in
    let size : c.count-first.result ≡ length (joined_of t p)
    = c.count-first.ensures.count ∙ ap (λ (ds : List DatagramRecord). length ds) joined in
    let count : length (joined_of t p) ≡ length (frame_at k items)
    = ap (λ (ds : List DatagramRecord). length ds) (sym joined) ∙ c.exchange-joined.ensures.count in
    let inside : k < length items = omega (arith, c.loop-first-test.true, c.len.ensures.count) in
    let weathers : c.take_next-under.new.self ≡ behind_next ws = c.take_next-under.ensures.ahead in
    let answered : c.take_answers.new.self ≡ with_answers_at k items (joined_of t p)
    = c.take_answers.ensures ∙ ap (with_answers_at k items) joined in
    let line : line_of later ≡ p.line = line-next r later t ring in
    record {
      left =
          (λ i. finished (weathers i) r0.links n (k + size i) (answered i) (line i))
          ∙ sym (finished-next ws r0.links n k items (line_of r) inside count) ∙ c.loop-first.invariant.left;
      ring = later_ring-next r0 r later t c.loop-first.invariant.ring ring;
      inside =
          omega (
            arith,
            c.count-first.ensures.count,
            c.exchange-joined.ensures.room,
            ap length c.take_answers.ensures,
            length-with_answers_at k items c.exchange-joined.result,
          );
    }

pub returns-clause-work : goal.returns-clause-work
returns-clause-work g c =
    let r0 : RingState = g.T.Travel.ring c.args.ring.now in
    let past : length c.loop-first.work ≤ c.loop-first.first =
    omega (arith, c.loop-first-test.false, c.len.ensures.count) in
    ap (λ (f : Finished). f.work)
    (sym (finished-none _ r0.links (length r0.slaves) c.loop-first.first c.loop-first.work
    (line_of (g.T.Travel.ring c.loop-first.ring)) past)
    ∙ c.loop-first.invariant.left ∙ finished-all c.args.weather.now r0 c.args.work.now)

pub returns-clause-ring : goal.returns-clause-ring
returns-clause-ring g c =
    let r0 : RingState = g.T.Travel.ring c.args.ring.now in
    let past : length c.loop-first.work ≤ c.loop-first.first =
    omega (arith, c.loop-first-test.false, c.len.ensures.count) in
    c.loop-first.invariant.ring.line
    ∙ ap (λ (f : Finished). with_line r0 f.line)
    (sym (finished-none _ r0.links (length r0.slaves) c.loop-first.first c.loop-first.work
    (line_of (g.T.Travel.ring c.loop-first.ring)) past)
    ∙ c.loop-first.invariant.left ∙ finished-all c.args.weather.now r0 c.args.work.now)
