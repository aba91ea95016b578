use Rattle.std.proofs.Common.{sym, ap, ◌∙◌}
use Rattle.std.proofs.Math.Seq.{map-set_same}
use Rattle.ecat_trips.specs.Queue.{number_of_trip}
use Rattle.ecat_trips.proofs.queue.Queue.take_second.Goals as goal

pub invariant_of-self : goal.invariant_of-self
invariant_of-self c = (
  c.self.invariant.0
      ∙ sym (map-set_same number_of_trip c.self.inside.kept.items c.args.i c.take_second.new.self
      c.index_mut.result.now
      (ap number_of_trip c.take_second.ensures ∙ ap number_of_trip c.index_mut.ensures.value)),
  c.self.invariant.1,
)
