-- The pass is that of the first piece, and the arrival that of copy A.
use Rattle.std.proofs.Common.{◌≡◌, ap, sym, ◌∙◌}
use Rattle.ec_ring.specs.Reach.{arrival_a}
use Rattle.ec_ring.specs.Ring.{line_of, with_line}
use Rattle.ec_ring.specs.Walk.{Walked, piece_pass, walked_from_a}
use Rattle.ec_ring.proofs.WalkLemmas.{way, way_a, arrived-way}
use Rattle.ec_ring.proofs.ring.Ring.walk_from_a.Goals as goal

came : (c : goal.After-arrival_a) → walked_from_a c.args.links.now c.args.frame.now (line_of c.args.self.now)
    ≡ way (piece_pass 0 c.front.result (line_of c.args.self.now) c.args.frame.now)
    (arrival_a c.args.links.now c.count-count.result)
came c =
    way_a c.args.links.now c.count-count.result c.front.result c.args.self.now.slaves c.args.frame.now
    c.count-count.ensures.count c.front.ensures.value

pub returns-clause-arrived : goal.returns-clause-arrived
returns-clause-arrived c =
    arrived-way _ _ _ c.arrival_a.result c.pass.new.frame (came c) c.pass.ensures.frame c.arrival_a.ensures

pub returns-clause-ring : goal.returns-clause-ring
returns-clause-ring c =
    c.pass.ensures.ring ∙ ap (λ (w : Walked). with_line c.args.self.now w.line) (sym (came c))
