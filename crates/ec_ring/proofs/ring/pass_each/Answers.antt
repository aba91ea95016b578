-- One slave more is passed; in the end none is left to pass.
use Rattle.std.proofs.Common.{◌≡◌, ◌+◌, ◌-◌, ℕ, suc, ap, sym, ◌∙◌, arith}
use Rattle.ec_ring.proofs.PassLemmas.{PassedSlaves, places_pass}
use Rattle.ec_ring.proofs.PassLemmas.{places_pass-next, places_pass-none, places_piece}
use Rattle.ec_ring.proofs.ring.pass_each.Goals as goal

pub loop-k-preserved : goal.loop-k-preserved
loop-k-preserved c =
    let k = c.loop-k.k in
    let m : ℕ = c.args.to - (k + 1) in
    let left : c.args.to - k ≡ suc m = omega arith in
    rw (c.pass_one.ensures.slave, c.pass_one.ensures.frame)
    (places_pass-next k m c.loop-k.slaves c.loop-k.frame c.index-slaves-k.result (omega arith)
    ∙ ap (λ (n : ℕ). places_pass k n c.loop-k.slaves c.loop-k.frame) (sym left)
    ∙ c.loop-k.invariant)

-- what the whole piece makes of the slaves and the frame is what they are now
done : (c : goal.After-loop-k)
    → places_pass c.args.from (c.args.to - c.args.from) c.args.slaves.now c.args.frame.now
    ≡ record { slaves = c.loop-k.slaves; frame = c.loop-k.frame }
done c =
    let none : c.args.to - c.loop-k.k ≡ 0 = omega arith in
    sym c.loop-k.invariant
    ∙ ap (λ (m : ℕ). places_pass c.loop-k.k m c.loop-k.slaves c.loop-k.frame) none
    ∙ places_pass-none c.loop-k.k c.loop-k.slaves c.loop-k.frame

pub returns-clause-frame : goal.returns-clause-frame
returns-clause-frame c =
    sym (ap (λ (p : PassedSlaves). p.frame) (done c))
    ∙ (places_piece c.args.from (c.args.to - c.args.from) c.args.slaves.now c.args.frame.now).frame

pub returns-clause-slaves : goal.returns-clause-slaves
returns-clause-slaves c =
    let end : c.args.from + (c.args.to - c.args.from) ≡ c.args.to = omega arith in
    let piece = places_piece c.args.from (c.args.to - c.args.from) c.args.slaves.now c.args.frame.now in
    sym (ap (λ (p : PassedSlaves). p.slaves) (done c)) ∙ rw end at piece.slaves
