use Rattle.std.proofs.Common.{◌≡◌, ◌∙◌, ap, get_or, arith}
use Rattle.ec_wire.specs.Frame.{start_of}
use Rattle.ec_wire.proofs.FrameLemmas.{Keeps-view, length-kept, start-kept, start-room, count-kept}
use Rattle.ec_wire.proofs.frame.FrameBuf.start.Goals as goal

-- the start that is kept
start_is : (c : goal.After-from) → c.from.result ≡ start_of c.args.self.now c.args.k
start_is c = c.from.ensures ∙ ap (λ xs. get_or xs c.args.k 0) c.deref.ensures.0
    ∙ start-kept _ _ _ _ c.args.k (Keeps-view c.self.invariant c.self.view_is) c.requires

pub offset_bounds-deref-k : goal.offset_bounds-deref-k
offset_bounds-deref-k c =
    let kept = Keeps-view c.self.invariant c.self.view_is in
    omega (arith, count-kept _ _ _ _ kept, c.requires)

pub bounds-deref-k : goal.bounds-deref-k
bounds-deref-k c =
    let kept = Keeps-view c.self.invariant c.self.view_is in
    rw (c.deref.ensures.0, length-kept _ _ _ _ kept) c.requires

pub returns-clause-value : goal.returns-clause-value
returns-clause-value c = start_is c

pub returns-clause-room : goal.returns-clause-room
returns-clause-room c =
    let kept = Keeps-view c.self.invariant c.self.view_is in
    omega (arith, start_is c, start-room _ _ _ _ c.args.k kept c.requires, kept.value.room, kept.size_is)

pub returns-clause-count : goal.returns-clause-count
returns-clause-count c = count-kept _ _ _ _ (Keeps-view c.self.invariant c.self.view_is)
