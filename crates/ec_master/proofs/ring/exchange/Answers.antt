-- The frame is one of items, and what came back of it has their sizes.
use Rattle.std.proofs.Common.{◌≡◌, ◌∙◌, sym, subst, arith, length}
use Rattle.ec_line.specs.Answered.{sent_of}
use Rattle.ec_ring.specs.Ring.{RingState, line_of}
use Rattle.ec_master.specs.Cut.{IsFrameOf, frame_at}
use Rattle.ec_master.proofs.TravelLemmas.{SameSizes, frame_ready, joined_sizes, sizes_items, sizes-count}
use Rattle.ec_master.proofs.TravelLemmas.{frame_inside, frame_some, length-sent_of}
use Rattle.ec_master.proofs.ring.exchange.Given as given
use Rattle.ec_master.proofs.ring.exchange.Goals as goal

ready : (g : given.Over) (c : goal.After-carry g)
    → IsFrameOf (frame_at c.args.first c.args.work.now) c.frame_from-sent.result
ready g c = frame_ready c.args.first c.args.work.now _ c.requires c.are_items.ensures.items
    c.frame_from-sent.ensures

sizes : (g : given.Over) (c : goal.After-carry g)
    → SameSizes (sent_of (frame_at c.args.first c.args.work.now)) c.carry.result
sizes g c =
    let es = frame_at c.args.first c.args.work.now in
    let r : RingState = g.T.Travel.ring c.args.ring.now in
    subst (SameSizes (sent_of es)) (sym (c.carry.ensures.joined es (ready g c)))
    (joined_sizes c.args.weather.now es _ (length r.slaves) (line_of r) (ready g c))

counted : (g : given.Over) (c : goal.After-carry g)
    → length c.carry.result ≡ length (frame_at c.args.first c.args.work.now)
counted g c =
    let es = frame_at c.args.first c.args.work.now in
    sizes-count (sent_of es) _ (sizes g c) ∙ length-sent_of es

pub returns-clause-joined : goal.returns-clause-joined
returns-clause-joined g c = c.carry.ensures.joined (frame_at c.args.first c.args.work.now) (ready g c)

pub returns-clause-ring : goal.returns-clause-ring
returns-clause-ring g c = c.carry.ensures.ring (frame_at c.args.first c.args.work.now) (ready g c)

pub returns-clause-count : goal.returns-clause-count
returns-clause-count g c = counted g c

pub returns-clause-some : goal.returns-clause-some
returns-clause-some g c = omega (arith, counted g c, frame_some c.args.first c.args.work.now c.requires)

pub returns-clause-room : goal.returns-clause-room
returns-clause-room g c = omega (arith, counted g c, frame_inside c.args.first c.args.work.now c.requires)

pub returns-clause-sizes : goal.returns-clause-sizes
returns-clause-sizes g c j inside =
    sizes_items c.args.first c.args.work.now c.carry.result j c.requires (sizes g c) inside
