use Rattle.std.proofs.Common.{sym, ap, ◌∙◌}
use Rattle.std.proofs.Math.Seq.{map-set_same}
use Rattle.ecat_trips.specs.Queue.{number_of_trip}
use Rattle.ecat_trips.proofs.QueueLemmas.{return_number}
use Rattle.ecat_trips.proofs.queue.Queue.take_return.Goals as goal

pub invariant_of-self : goal.invariant_of-self
invariant_of-self c = (
  c.self.invariant.0
      ∙ sym (map-set_same number_of_trip c.self.inside.kept.items c.args.i c.take_return.new.self
      c.index_mut.result.now
      (ap number_of_trip c.take_return.ensures
      ∙ return_number c.args.packet c.args.frame.now c.index_mut.result.now
      ∙ ap number_of_trip c.index_mut.ensures.value)),
  c.self.invariant.1,
)
