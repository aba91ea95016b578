use Rattle.std.proofs.Common.{◌≡◌, ◌∙◌, ◌++◌, ap, length, lit<, arith}
use Rattle.ec_wire.specs.Frame.{Keeps}
use Rattle.ec_wire.proofs.SpellingLemmas.{Keeps-seen, length-spelling, records_at-keeps}
use Rattle.ec_wire.proofs.FrameLemmas.{Keeps-view}
use Rattle.ec_wire.proofs.WriteLemmas.{Keeps-copied}
use Rattle.ec_wire.proofs.frame.FrameBuf.copy_from.Goals as goal
use Rattle.ec_wire.proofs.frame.FrameBuf.copy_from.Goals.{After-unwrap}

-- the other frame's datagrams are kept
kept_new : (c : After-unwrap)
    → Keeps c.put.new.self.bytes c.frame.inside.size c.try_extend_from_slice.new.self.items c.args.frame.now
kept_new c =
    let kept = Keeps-view c.frame.invariant c.frame.view_is in
    let put : c.try_extend_from_slice.new.self.items ≡ c.clear.new.self.items ++ c.as_slice.result.now =
    rw c.unwrap.ensures at c.try_extend_from_slice.ensures.ok in
    let same : c.try_extend_from_slice.new.self.items ≡ c.frame.inside.starts.items =
    put ∙ ap (λ xs. xs ++ c.as_slice.result.now) c.clear.ensures ∙ c.as_slice.ensures.value in
    Keeps-copied _ _ _ _ _ _ _ _ kept c.bytes.ensures c.self.invariant.cells_are c.put.ensures same

pub put-requires : goal.put-requires
put-requires c =
    let kept = Keeps-view c.frame.invariant c.frame.view_is in
    let long = ap length c.bytes.ensures ∙ length-spelling c.args.frame.now in
    (lit< tt, omega (arith, long, kept.value.room))

pub invariant_of-self : goal.invariant_of-self
invariant_of-self c = Keeps-seen _ _ _ _ (kept_new c)

pub returns : goal.returns
returns c = records_at-keeps _ _ _ _ (kept_new c)
