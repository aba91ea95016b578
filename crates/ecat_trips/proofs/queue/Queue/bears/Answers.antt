use Rattle.std.proofs.Common.{◌≡◌, ℕ, false, List, get_or, map, nat_eq}
use Rattle.std.proofs.Common.{sym, ap, ◌∙◌, arith}
use Rattle.std.proofs.lemmas.List.{get_or-map}
use Rattle.std.proofs.lemmas.Bool.Decides.{nat_tests}
use Rattle.ecat_trips.specs.declared.trip.Trip.{Trip}
use Rattle.ecat_trips.specs.Queue.{number_of_trip}
use Rattle.ecat_trips.proofs.QueueLemmas.{other_number}
use Rattle.ecat_trips.proofs.queue.Queue.bears.Goals as goal

unequal : (m n : ℕ) → (m ≡ n → ⊥) → nat_eq m n ≡ false
unequal m n other = grind (arith, nat_tests)

pub returns-else-index-number : goal.returns-else-index-number
returns-else-index-number c = λ t.
    let now = c.args.self.now in
    let here : c.index.result.now ≡ number_of_trip (get_or now c.args.i t) =
    c.index.ensures ∙ ap (λ (ns : List ℕ). get_or ns c.args.i c.index.result.now) c.self.invariant.0
    ∙ ap (λ (ts : List Trip). get_or (map number_of_trip ts) c.args.i c.index.result.now) c.self.view_is
    ∙ get_or-map number_of_trip now c.args.i t c.index.result.now c.requires.place in
    unequal c.index.result.now c.args.number c.if-index-number.false
    ∙ sym (other_number c.args.frame.now (get_or now c.args.i t)
    (λ e. c.if-index-number.false (here ∙ e ∙ sym c.requires.number)))
