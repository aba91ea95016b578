-- What the frames come to is the unordered cycle.
use Rattle.std.proofs.Common.{◌∙◌, ap, sym, subst, List, [], map}
use Rattle.ec_map.specs.Item.{ItemRecord}
use Rattle.ec_map.specs.Share.{expected_of}
use Rattle.ec_ring.specs.Ring.{RingState, line_of}
use Rattle.ec_master.specs.Travelled.{AtMostOneDown, ring_under, reached, unreached}
use Rattle.ec_master.specs.Again.{AskTheSame}
use Rattle.ec_master.specs.Unordered.{station, by_station, IsCycle, IsAccepted}
use Rattle.ec_master.proofs.CoveredGoodLemmas.{answered_inputs, cycle_outputs}
use Rattle.ec_master.proofs.OrderLemmas.{whole_cycle, reached_cycle, unreached_same}
use Rattle.ec_master.proofs.SlaveLemmas.{stations_kept}
use Rattle.ec_master.proofs.AgainLemmas.{again, still_expected, asks-answers}
use Rattle.ec_master.proofs.ring.ring_cycle.Given as given
use Rattle.ec_master.proofs.ring.ring_cycle.Goals as goal

pub returns-clause-order_free : goal.returns-clause-order_free
returns-clause-order_free g c one accepted =
    let r : RingState = g.T.Travel.ring c.args.ring.now in
    let items = c.args.work.now in
    subst (λ (later : RingState).
    IsCycle (by_station r.slaves) items c.travel.new.work (by_station later.slaves))
    (sym c.travel.ensures.ring)
    (subst (λ (got : List ItemRecord).
    IsCycle (by_station r.slaves) items got (by_station (ring_under [] r items).slaves))
    (sym c.travel.ensures.work)
    (whole_cycle r items one.0 one.1 accepted c.are_items.ensures.items))

-- the cycle is that of the slaves without their order
unordered : (g : given.Over) (c : goal.After-travel g) → AtMostOneDown (g.T.Travel.ring c.args.ring.now)
    → IsAccepted (g.T.Travel.ring c.args.ring.now).slaves c.args.work.now
    → IsCycle (by_station (g.T.Travel.ring c.args.ring.now).slaves) c.args.work.now c.travel.new.work
    (by_station (g.T.Travel.ring c.travel.new.ring).slaves)
unordered g c one accepted = returns-clause-order_free g c one accepted

pub returns-clause-inputs_stand : goal.returns-clause-inputs_stand
returns-clause-inputs_stand g c one accepted =
    answered_inputs (g.T.Travel.ring c.args.ring.now).slaves c.args.work.now c.travel.new.work accepted
    c.are_items.ensures.items (unordered g c one accepted).answers

pub returns-clause-outputs_are_shown : goal.returns-clause-outputs_are_shown
returns-clause-outputs_are_shown g c one accepted covers shown =
    cycle_outputs c.fit_line.ensures.placed (g.T.Travel.ring c.args.ring.now).slaves c.args.work.now
    c.travel.new.work (g.T.Travel.ring c.travel.new.ring).slaves accepted c.are_items.ensures.items covers shown
    (unordered g c one accepted)

pub returns-clause-reached : goal.returns-clause-reached
returns-clause-reached g c accepted =
    let r : RingState = g.T.Travel.ring c.args.ring.now in
    let items = c.args.work.now in
    subst (λ (later : RingState).
    IsCycle (by_station (reached r)) items c.travel.new.work (by_station (reached later)))
    (sym c.travel.ensures.ring)
    (subst (λ (got : List ItemRecord).
    IsCycle (by_station (reached r)) items got (by_station (reached (ring_under [] r items))))
    (sym c.travel.ensures.work)
    (reached_cycle r items accepted c.are_items.ensures.items))

pub returns-clause-unreached : goal.returns-clause-unreached
returns-clause-unreached g c accepted =
    ap unreached c.travel.ensures.ring
    ∙ unreached_same (g.T.Travel.ring c.args.ring.now) c.args.work.now accepted c.are_items.ensures.items

pub returns-clause-places : goal.returns-clause-places
returns-clause-places g c accepted =
    ap (λ (x : RingState). map station x.slaves) c.travel.ensures.ring
    ∙ stations_kept [] (g.T.Travel.ring c.args.ring.now) c.args.work.now accepted c.are_items.ensures.items

pub returns-clause-links : goal.returns-clause-links
returns-clause-links g c = ap (λ (x : RingState). x.links) c.travel.ensures.ring

pub returns-clause-asks_the_same : goal.returns-clause-asks_the_same
returns-clause-asks_the_same g c accepted =
    let r : RingState = g.T.Travel.ring c.args.ring.now in
    let items = c.args.work.now in
    subst (AskTheSame items) (sym c.travel.ensures.work)
    (asks-answers _ items _ (reached_cycle r items accepted c.are_items.ensures.items).answers)

pub returns-clause-again : goal.returns-clause-again
returns-clause-again g c others accepted asks =
    subst (λ (later : RingState). IsAccepted later.slaves others) (sym c.travel.ensures.ring)
    (again [] (g.T.Travel.ring c.args.ring.now) c.args.work.now others accepted c.are_items.ensures.items asks)

pub returns-clause-still_expected : goal.returns-clause-still_expected
returns-clause-still_expected g c others accepted also asks =
    ap (λ (later : RingState). map (expected_of (line_of later)) others) c.travel.ensures.ring
    ∙ still_expected [] (g.T.Travel.ring c.args.ring.now) c.args.work.now others accepted
    c.are_items.ensures.items also asks
