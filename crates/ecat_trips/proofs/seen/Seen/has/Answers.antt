use Rattle.std.proofs.Common.{◌≡◌, ◌<◌, ℕ, Bool, false, List, length, get_or, ap, ◌∙◌, arith}
use Rattle.std.proofs.lemmas.List.{get_or_default}
use Rattle.ecat_trips.specs.Seen.{is_seen}
use Rattle.ecat_trips.proofs.seen.Seen.has.Goals as goal

pub returns : goal.returns
returns c =
    let marks = c.self.inside.marks.items in
    let size : length marks ≡ 8192 = c.self.invariant in
    let bound : c.slot.result < 8192 = c.slot.ensures.within in
    let inside : c.slot.result < length marks = omega (arith, size, bound) in
    c.index.ensures ∙ get_or_default marks c.slot.result c.index.result.now false inside
    ∙ ap (λ (k : ℕ). get_or marks k false) c.slot.ensures.value
    ∙ ap (λ (bs : List Bool). is_seen bs c.args.number) c.self.view_is
