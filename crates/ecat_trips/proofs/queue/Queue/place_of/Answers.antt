use Rattle.std.proofs.Common.{◌≡◌, ℕ, true, false, List, All, map, sym, ap, subst, ◌∙◌}
use Rattle.ecat_trips.specs.Alike.{told_fast}
use Rattle.ecat_trips.specs.Queue.{number_of_trip}
use Rattle.ecat_trips.specs.Seen.{is_seen}
use Rattle.ecat_trips.specs.Steps.{bears_trip}
use Rattle.ecat_trips.proofs.QueueLemmas.{other_number, unseen}
use Rattle.ecat_trips.proofs.queue.Queue.place_of.Goals as goal

pub returns-else-has-clause-value : goal.returns-else-has-clause-value
returns-else-has-clause-value c =
    let seen = c.self.inside.seen in
    let number = told_fast c.args.frame.now in
    let none : is_seen seen number ≡ false =
    ap (is_seen seen) (sym c.requires) ∙ sym c.has.ensures ∙ c.if-has.false in
    sym (unseen (bears_trip c.args.frame.now) number_of_trip seen number c.args.self.now
    (other_number c.args.frame.now)
    (subst (λ (ns : List ℕ). All (λ (n : ℕ). is_seen seen n ≡ true) ns)
    (c.self.invariant.0 ∙ ap (map number_of_trip) c.self.view_is) c.self.invariant.1) none)
