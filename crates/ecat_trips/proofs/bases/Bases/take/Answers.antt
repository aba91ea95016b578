use Rattle.std.proofs.Common.{◌≡◌, map, length, ap, sym, ◌∙◌, arith}
use Rattle.std.proofs.lemmas.Bool.Decides.{nat_tests}
use Rattle.std.specs.List.{refill}
use Rattle.ecat_trips.specs.Bases.{noted}
use Rattle.ecat_trips.proofs.BasesLemmas as bases
use Rattle.ecat_trips.proofs.bases.Bases.take.Goals as goal

pub returns-then-tells : goal.returns-then-tells
returns-then-tells c =
    let told = c.args.self.now.told.items in
    let note = noted c.args.source in
    let written : c.note_each.new.told ≡ map note told =
    c.note_each.ensures ∙ ap (map note) c.as_mut_slice.ensures.value in
    let refilled : refill (length told) told c.note_each.new.told ≡ map note told =
    ap (refill (length told) told) written ∙ bases.refill-map note told in
    λ all h.
    rw refilled (bases.told_again all c.args.source told h (sym c.tells.ensures ∙ c.if-tells.true))

pub returns-then-not-is_full : goal.returns-then-not-is_full
returns-then-not-is_full c = λ all h.
    rw c.push.ensures.items
    (bases.told_new all c.args.source c.args.self.now.told.items h (sym c.tells.ensures ∙ c.if-tells.false)
    (grind (arith, nat_tests, c.is_full.ensures.fits, sym c.is_full.ensures.value ∙ c.if-not-is_full.true)))

pub returns-else-not-is_full : goal.returns-else-not-is_full
returns-else-not-is_full c = λ all h.
    bases.told_full all c.args.source c.args.self.now.told.items h (sym c.tells.ensures ∙ c.if-tells.false)
    (grind (arith, nat_tests, sym c.is_full.ensures.value ∙ c.if-not-is_full.false))
