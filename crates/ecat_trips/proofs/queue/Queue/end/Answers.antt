use Rattle.std.proofs.Common.{◌≡◌, ℕ, true, List, All, map}
use Rattle.std.proofs.Common.{sym, ap, subst, ◌∙◌, remove}
use Rattle.ecat_trips.specs.Queue.{number_of_trip}
use Rattle.ecat_trips.specs.Seen.{is_seen}
use Rattle.ecat_trips.proofs.LostLemmas.{remove-map}
use Rattle.ecat_trips.proofs.QueueLemmas.{All-remove}
use Rattle.ecat_trips.proofs.queue.Queue.end.Goals as goal

pub invariant_of-self : goal.invariant_of-self
invariant_of-self c = (
  c.remove.ensures.items ∙ ap (λ (ns : List ℕ). remove ns c.args.i) c.self.invariant.0
      ∙ remove-map number_of_trip c.args.i c.self.inside.kept.items
      ∙ ap (map number_of_trip) (sym c.remove-2.ensures.items),
  subst (λ (ns : List ℕ). All (λ (n : ℕ). is_seen c.self.inside.seen n ≡ true) ns)
      (sym c.remove.ensures.items)
      (All-remove (λ (n : ℕ). is_seen c.self.inside.seen n ≡ true) c.self.inside.numbers.items c.args.i
      c.self.invariant.1),
)
