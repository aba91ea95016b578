-- The pass is that of the last piece, by the frame as it turned round or came, and the arrival that of
-- copy B.
use Rattle.std.proofs.Common.{◌≡◌, ap, sym, ◌∙◌, None, refl}
use Rattle.ec_ring.specs.Reach.{turns, arrival_b}
use Rattle.ec_ring.specs.Ring.{line_of, with_line}
use Rattle.ec_ring.specs.Walk.{Walked, piece_pass, walked_from_b}
use Rattle.ec_ring.proofs.PassLemmas.{with_controllers-controllers}
use Rattle.ec_ring.proofs.WalkLemmas.{IsStart, start-turned, start-through}
use Rattle.ec_ring.proofs.WalkLemmas.{way, way_b, destroyed_b, arrived-way}
use Rattle.ec_ring.proofs.ring.Ring.walk_from_b.Goals as goal
use Rattle.ec_ring.proofs.ring.Ring.walk_from_b.Goals.{then-turns+else-is_circulating, else-turns}

destroyed : (c : goal.Then-is_circulating)
    → walked_from_b c.args.links.now c.args.frame.now (line_of c.args.self.now)
    ≡ record { arrived = None; line = line_of c.args.self.now }
destroyed c =
    destroyed_b c.args.links.now c.count-count.result c.args.self.now.slaves c.args.frame.now
    c.count-count.ensures.count
    (sym c.turns.ensures ∙ c.if-turns.true) (sym c.is_circulating.ensures ∙ c.if-is_circulating.true)

came : (c : goal.After-arrival_b) → walked_from_b c.args.links.now c.args.frame.now (line_of c.args.self.now)
    ≡ way (piece_pass c.back.result c.count-count.result (line_of c.args.self.now) c.if-turns.frame)
    (arrival_b c.args.links.now c.count-count.result)
came c =
    let start : IsStart (turns c.args.links.now c.count-count.result) c.args.frame.now c.if-turns.frame =
    elim c.if-turns.branch [
      | then-turns+else-is_circulating w ↦
          start-turned _ c.args.frame.now c.if-turns.frame (sym c.turns.ensures ∙ w.if-turns.true)
          (sym w.is_circulating.ensures ∙ w.if-is_circulating.false) (w.frame-is ∙ w.circulate.ensures)
      | else-turns w ↦
          start-through _ c.args.frame.now c.if-turns.frame (sym c.turns.ensures ∙ w.if-turns.false) w.frame-is
    ] in
    way_b c.args.links.now c.count-count.result c.back.result c.args.self.now.slaves c.args.frame.now
    c.if-turns.frame c.count-count.ensures.count c.back.ensures.value start

pub returns-then-is_circulating-clause-arrived : goal.returns-then-is_circulating-clause-arrived
returns-then-is_circulating-clause-arrived c = ap (λ (w : Walked). w.arrived) (sym (destroyed c))

pub returns-then-is_circulating-clause-ring : goal.returns-then-is_circulating-clause-ring
returns-then-is_circulating-clause-ring c =
    rw (destroyed c, with_controllers-controllers c.args.self.now.slaves) refl

pub returns-clause-arrived : goal.returns-clause-arrived
returns-clause-arrived c =
    arrived-way _ _ _ c.arrival_b.result c.pass.new.frame (came c) c.pass.ensures.frame c.arrival_b.ensures

pub returns-clause-ring : goal.returns-clause-ring
returns-clause-ring c =
    c.pass.ensures.ring ∙ ap (λ (w : Walked). with_line c.args.self.now w.line) (sym (came c))
