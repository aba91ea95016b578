use Rattle.std.proofs.Common.{◌+◌, get_or, set, take, refl, ap, ◌∙◌}
use Rattle.ecat_trips.proofs.QueueLemmas.{turned}
use Rattle.ecat_trips.proofs.queue.put_first.Goals as goal

pub returns-clause-gone : goal.returns-clause-gone
returns-clause-gone g c =
    c.replace.ensures.value
    ∙ ap (λ zs. get_or zs 0 c.index-items-0.result)
    (turned c.args.items.now c.args.i c.replace.result (take (c.args.i + 1) c.args.items.now)
    c.rotate_right.new.self c.requires refl c.rotate_right.ensures.after)

pub returns-clause-after : goal.returns-clause-after
returns-clause-after g c = λ t.
    set
    (turned c.args.items.now c.args.i c.args.first (take (c.args.i + 1) c.args.items.now)
    c.rotate_right.new.self c.requires refl c.rotate_right.ensures.after t)
    0 (c.replace.ensures.after t)
