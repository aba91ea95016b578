use Rattle.std.proofs.Common.{◌≡◌, ℕ, true, false, List, All, map, sym, ap, subst, ◌∙◌}
use Rattle.ecat_trips.specs.Alike.{told_fast}
use Rattle.ecat_trips.specs.Lost.{number_of}
use Rattle.ecat_trips.specs.Seen.{is_seen}
use Rattle.ecat_trips.specs.Trip.{bears}
use Rattle.ecat_trips.proofs.FastLemmas.{other_fast}
use Rattle.ecat_trips.proofs.QueueLemmas.{unseen}
use Rattle.ecat_trips.proofs.lost.Lost.place_of.Goals as goal

pub returns-else-has-clause-value : goal.returns-else-has-clause-value
returns-else-has-clause-value c =
    let seen = c.self.inside.seen in
    let number = told_fast c.args.frame.now in
    let none : is_seen seen number ≡ false =
    ap (is_seen seen) (sym c.requires) ∙ sym c.has.ensures ∙ c.if-has.false in
    sym (unseen (bears c.args.frame.now) number_of seen number c.args.self.now
    (other_fast c.args.frame.now)
    (subst (λ (ns : List ℕ). All (λ (n : ℕ). is_seen seen n ≡ true) ns)
    (c.self.invariant.3 ∙ ap (map number_of) c.self.view_is) c.self.invariant.6) none)
