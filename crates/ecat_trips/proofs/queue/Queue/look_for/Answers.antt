use Rattle.std.proofs.Common.{rules, ◌<◌, ℕ, length}
use Rattle.std.proofs.Common.{sym, ◌∙◌}
use Rattle.ecat_trips.specs.Steps.{bears_trip}
use Rattle.ecat_trips.proofs.QueueLemmas.{found_at, found_none}
use Rattle.ecat_trips.proofs.queue.Queue.look_for.Goals as goal

pub returns-then-bears-clause-value : goal.returns-then-bears-clause-value
returns-then-bears-clause-value c = sym
    (found_at (bears_trip c.args.frame.now) c.args.self.now c.loop-i.i (search rules) c.loop-i.invariant
    (λ t. sym (c.bears.ensures t) ∙ c.if-bears.true))

pub returns-clause-value : goal.returns-clause-value
returns-clause-value c = sym
    (found_none (bears_trip c.args.frame.now) c.args.self.now
    (λ k t inside. c.loop-i.invariant k t (past k inside)))
  where
    past : (k : ℕ) → k < length c.args.self.now → k < c.loop-i.i
    past k inside = search (rules, inside)
