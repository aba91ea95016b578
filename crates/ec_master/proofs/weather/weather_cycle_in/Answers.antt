-- What the frames come to is judged, and the work is what the verdict makes of it.
use Rattle.std.proofs.Common.{◌≡◌, ◌∙◌, ap, sym, subst, refl, List, length, map}
use Rattle.std.proofs.lemmas.List.{length-map}
use Rattle.ec_wire.specs.Datagram.{DatagramRecord}
use Rattle.ec_map.specs.Item.{ItemRecord}
use Rattle.ec_map.specs.Share.{expected_of}
use Rattle.ec_ring.specs.Ring.{RingState, line_of}
use Rattle.ec_master.specs.Again.{AskTheSame}
use Rattle.ec_master.specs.Ports.{taken_on}
use Rattle.ec_master.specs.Travelled.{answers_under, ring_under}
use Rattle.ec_master.specs.Unordered.{by_station, IsAccepted}
use Rattle.ec_master.specs.Certificate.{verdict_under}
use Rattle.ec_master.specs.Verdict.{verdict}
use Rattle.ec_master.specs.declared.verdict.Verdict.{Verdict}
use Rattle.ec_master.specs.declared.verdict.Verdict.TheVariants.{Good, Short, Over}
use Rattle.ec_master.specs.Work.{with_answers}
use Rattle.ec_master.proofs.AgainLemmas.{again, still_expected, asks-itself, asks-answers}
use Rattle.ec_master.proofs.CertificateLemmas as certificate
use Rattle.ec_master.proofs.JudgedLemmas.{judged}
use Rattle.ec_master.proofs.WorkLemmas.{length-with_answers}
use Rattle.ec_master.proofs.weather.weather_cycle_in.Given as given
use Rattle.ec_master.proofs.weather.weather_cycle_in.Goals as goal

pub conclude-requires-clause-taken : goal.conclude-requires-clause-taken
conclude-requires-clause-taken g c =
    ap (λ (rs : List ItemRecord). length rs) c.travel.ensures.work ∙ length-with_answers _ _
    ∙ ap (λ (rs : List ItemRecord). length rs) (sym c.assign.ensures)

pub conclude-requires-clause-expected : goal.conclude-requires-clause-expected
conclude-requires-clause-expected g c =
    ap length c.requires ∙ length-map _ _ ∙ ap (λ (rs : List ItemRecord). length rs) (sym c.assign.ensures)

verdict_is : (g : given.Over) (c : goal.After-conclude g)
    → c.conclude.result ≡ verdict_under c.args.weather.now (g.T.Travel.ring c.args.ring.now) c.args.work.now
verdict_is g c =
    judged c.args.weather.now (g.T.Travel.ring c.args.ring.now) c.args.work.now c.args.expected.now
    c.travel.new.work c.conclude.result c.are_items.ensures.items c.requires c.travel.ensures.work
    (subst (λ (items : List ItemRecord). (answers : List DatagramRecord) → length answers ≡ length items
    → c.travel.new.work ≡ with_answers items answers
    → c.conclude.result ≡ verdict items answers c.args.expected.now)
    c.assign.ensures c.conclude.ensures.judged)

taken_is : (g : given.Over) (c : goal.After-conclude g)
    → c.conclude.new.work ≡ taken_on c.conclude.result c.args.work.now
    (answers_under c.args.weather.now (g.T.Travel.ring c.args.ring.now) c.args.work.now)
taken_is g c =
    let answers : List DatagramRecord =
    answers_under c.args.weather.now (g.T.Travel.ring c.args.ring.now) c.args.work.now in
    subst (λ (items : List ItemRecord). c.conclude.new.work ≡ taken_on c.conclude.result items answers)
    c.assign.ensures
    (c.conclude.ensures.taken answers
    (c.travel.ensures.work ∙ ap (λ (items : List ItemRecord). with_answers items answers) (sym c.assign.ensures)))

ring : (g : given.Over) (c : goal.After-conclude g)
    → g.T.Travel.ring c.travel.new.ring ≡ ring_under c.args.weather.now (g.T.Travel.ring c.args.ring.now)
    c.args.work.now
ring g c = c.travel.ensures.ring

pub returns-clause-judged : goal.returns-clause-judged
returns-clause-judged g c = verdict_is g c

pub returns-clause-taken : goal.returns-clause-taken
returns-clause-taken g c = taken_is g c

-- on a good verdict the work has answers to what it asked, and else it is as it was
asked : (g : given.Over) (c : goal.After-conclude g)
    → IsAccepted (g.T.Travel.ring c.args.ring.now).slaves c.args.work.now → (v : Verdict)
    → v ≡ c.conclude.result
    → AskTheSame c.args.work.now (taken_on v c.args.work.now
    (answers_under c.args.weather.now (g.T.Travel.ring c.args.ring.now) c.args.work.now))
asked g c accepted Good is =
    let r : RingState = g.T.Travel.ring c.args.ring.now in
    asks-answers (by_station r.slaves) c.args.work.now _
    (certificate.good_answers c.args.weather.now r c.args.work.now c.travel.ensures.limit accepted
    c.are_items.ensures.items (sym (verdict_is g c) ∙ sym is))
asked g c accepted (Short k) is = asks-itself c.args.work.now
asked g c accepted (Over k) is = asks-itself c.args.work.now

pub returns-clause-asks_the_same : goal.returns-clause-asks_the_same
returns-clause-asks_the_same g c accepted =
    subst (AskTheSame c.args.work.now) (sym (taken_is g c)) (asked g c accepted c.conclude.result refl)

pub returns-clause-again : goal.returns-clause-again
returns-clause-again g c others accepted asks =
    subst (λ (later : RingState). IsAccepted later.slaves others) (sym (ring g c))
    (again c.args.weather.now (g.T.Travel.ring c.args.ring.now) c.args.work.now others accepted
    c.are_items.ensures.items asks)

pub returns-clause-still_expected : goal.returns-clause-still_expected
returns-clause-still_expected g c others accepted also asks =
    ap (λ (later : RingState). map (expected_of (line_of later)) others) (ring g c)
    ∙ still_expected c.args.weather.now (g.T.Travel.ring c.args.ring.now) c.args.work.now others accepted
    c.are_items.ensures.items also asks ∙ sym c.requires
