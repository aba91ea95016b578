use Rattle.std.proofs.Common.{◌||◌, ◌+◌, drop, sym, ap, ◌∙◌, arith}
use Rattle.std.specs.List.{list_any}
use Rattle.std.proofs.lemmas.List.{drop_all}
use Rattle.ec_wire.specs.Datagram.{blank}
use Rattle.ecat_trips.specs.Alike.{has_counted, has_count}
use Rattle.ecat_trips.proofs.Pairs.{list_any-drop}
use Rattle.ecat_trips.proofs.alike.has_counted.Goals as goal

pub loop-k-preserved : goal.loop-k-preserved
loop-k-preserved c =
    c.loop-k.invariant ∙ list_any-drop has_count c.args.frame.now c.loop-k.k blank (omega arith)
    ∙ ap (λ b. b || list_any has_count (drop (c.loop-k.k + 1) c.args.frame.now))
    (sym c.has_count.ensures ∙ c.if-has_count.false)

pub returns-then-has_count : goal.returns-then-has_count
unfolding has_counted
returns-then-has_count c =
    sym
    (c.loop-k.invariant ∙ list_any-drop has_count c.args.frame.now c.loop-k.k blank (omega arith)
    ∙ ap (λ b. b || list_any has_count (drop (c.loop-k.k + 1) c.args.frame.now))
    (sym c.has_count.ensures ∙ c.if-has_count.true))

pub returns : goal.returns
unfolding has_counted
returns c =
    sym
    (c.loop-k.invariant
    ∙ ap (list_any has_count) (drop_all c.loop-k.k c.args.frame.now (omega arith)))
