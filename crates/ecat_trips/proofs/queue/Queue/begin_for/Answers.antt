use Rattle.std.proofs.Common.{rules, ◌≡◌, ◌<◌, ℕ, ◌∷◌, true, List, All, length, map, get_or, remove, sym, ap}
use Rattle.std.proofs.Common.{subst, ◌∙◌, arith}
use Rattle.std.specs.List.{refill}
use Rattle.std.proofs.lemmas.List.{length-map}
use Rattle.ecat_trips.specs.declared.trip.Trip.{Trip}
use Rattle.ecat_trips.specs.Queue.{number_of_trip}
use Rattle.ecat_trips.specs.Seen.{is_seen}
use Rattle.ecat_trips.proofs.LostLemmas.{remove-map}
use Rattle.ecat_trips.proofs.QueueLemmas.{All-remove, all_marked, refilled}
use Rattle.ecat_trips.proofs.queue.Queue.begin_for.Goals as goal

pub invariant_of-self : goal.invariant_of-self
invariant_of-self c =
    let i = c.args.i in
    let kept = c.self.inside.kept.items in
    let numbers = c.self.inside.numbers.items in
    let beside : length numbers ≡ length kept =
    ap (λ (ns : List ℕ). length ns) c.self.invariant.0 ∙ length-map kept number_of_trip in
    let place : i < length kept =
    subst (λ (ts : List Trip). i < length ts) (sym c.self.view_is) c.requires.place in
    let count : c.self.inside.numbers.len ≡ length numbers = search rules in
    let counted : c.self.inside.kept.len ≡ length kept = search rules in
    let within : i < length numbers = omega (arith, beside, place) in
    let rest : refill c.self.inside.numbers.len numbers c.put_first.new.items
    ≡ c.args.number ∷ remove numbers i =
    refilled c.self.inside.numbers.len i c.args.number numbers c.put_first.new.items count within
    (c.put_first.ensures.after
    ∙ ap (λ (ns : List ℕ). c.args.number ∷ remove ns i) c.as_mut_slice.ensures.value) in
    let trips : refill c.self.inside.kept.len kept c.put_first-2.new.items ≡ c.args.kept ∷ remove kept i =
    refilled c.self.inside.kept.len i c.args.kept kept c.put_first-2.new.items counted place
    (c.put_first-2.ensures.after
    ∙ ap (λ (ts : List Trip). c.args.kept ∷ remove ts i) c.as_mut_slice-2.ensures.value) in
    let same : remove numbers i ≡ map number_of_trip (remove kept i) =
    ap (λ (ns : List ℕ). remove ns i) c.self.invariant.0 ∙ remove-map number_of_trip i kept in
    let all : All (λ (n : ℕ). is_seen c.mark.new.self n ≡ true) (c.args.number ∷ remove numbers i)
    = all_marked c.self.inside.seen c.mark.new.self c.args.number (remove numbers i) c.mark.ensures.own
    c.mark.ensures.others
    (All-remove (λ (n : ℕ). is_seen c.self.inside.seen n ≡ true) numbers i c.self.invariant.1) in (
      rest ∙ (λ t. c.requires.number t ∷ same t) ∙ ap (map number_of_trip) (sym trips),
      subst (λ (ns : List ℕ). All (λ (n : ℕ). is_seen c.mark.new.self n ≡ true) ns) (sym rest) all,
    )

pub returns-clause-ended : goal.returns-clause-ended
returns-clause-ended c =
    c.put_first-2.ensures.gone
    ∙ ap (λ (ts : List Trip). get_or ts c.args.i c.put_first-2.result)
    (c.as_mut_slice-2.ensures.value ∙ c.self.view_is)

pub returns-clause-after : goal.returns-clause-after
returns-clause-after c =
    let i = c.args.i in
    let kept = c.self.inside.kept.items in
    let place : i < length kept =
    subst (λ (ts : List Trip). i < length ts) (sym c.self.view_is) c.requires.place in
    let counted : c.self.inside.kept.len ≡ length kept = search rules in
    refilled c.self.inside.kept.len i c.args.kept kept c.put_first-2.new.items counted place
    (c.put_first-2.ensures.after
    ∙ ap (λ (ts : List Trip). c.args.kept ∷ remove ts i) c.as_mut_slice-2.ensures.value)
    ∙ ap (λ (ts : List Trip). c.args.kept ∷ remove ts i) c.self.view_is
