use Rattle.std.proofs.Common.{◌≡◌, ◌<◌, ℕ, Bool, true, false, List, length, set, ap, subst, ◌∙◌, arith}
use Rattle.std.proofs.lemmas.List.{get_or-set_same}
use Rattle.ecat_trips.specs.Seen.{is_seen, slot}
use Rattle.ecat_trips.proofs.QueueLemmas.{marked}
use Rattle.ecat_trips.proofs.seen.Seen.mark.Goals as goal

pub returns-clause-own : goal.returns-clause-own
returns-clause-own c =
    let marks = c.self.inside.marks.items in
    let size : length marks ≡ 8192 = c.self.invariant in
    let bound : c.slot.result < 8192 = c.slot.ensures.within in
    let inside : c.slot.result < length marks = omega (arith, size, bound) in
    let known : slot c.args.number < length marks =
    subst (λ (k : ℕ). k < length marks) c.slot.ensures.value inside in
    ap (λ (k : ℕ). is_seen (set marks k true) c.args.number) c.slot.ensures.value
    ∙ get_or-set_same marks (slot c.args.number) true false known

pub returns-clause-others : goal.returns-clause-others
returns-clause-others c = λ n e.
    let marks = c.self.inside.marks.items in
    let size : length marks ≡ 8192 = c.self.invariant in
    let bound : c.slot.result < 8192 = c.slot.ensures.within in
    let inside : c.slot.result < length marks = omega (arith, size, bound) in
    let known : slot c.args.number < length marks =
    subst (λ (k : ℕ). k < length marks) c.slot.ensures.value inside in
    ap (λ (k : ℕ). is_seen (set marks k true) n) c.slot.ensures.value
    ∙ marked marks c.args.number n known (ap (λ (bs : List Bool). is_seen bs n) c.self.view_is ∙ e)
