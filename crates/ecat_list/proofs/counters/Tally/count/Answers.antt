use Rattle.std.proofs.Common.{◌≡◌, map, length, ap, sym, subst, ◌∙◌, arith}
use Rattle.std.proofs.lemmas.Bool.Decides.{nat_tests}
use Rattle.std.specs.List.{refill}
use Rattle.ecat_list.specs.Tally.{IsTally, counts_again}
use Rattle.ecat_list.proofs.TallyLemmas as tallies
use Rattle.ecat_list.proofs.counters.Tally.count.Goals as goal

pub returns-then-tells : goal.returns-then-tells
returns-then-tells c =
    let told = c.self.inside.told.items in
    let again = counts_again c.args.came.counter in
    let written : c.count_again.new.told ≡ map again told =
    c.count_again.ensures ∙ ap (map again) c.as_mut_slice.ensures.value in
    let refilled : refill (length told) told c.count_again.new.told ≡ map again told =
    ap (refill (length told) told) written ∙ tallies.refill-map again told in
    λ all h.
    rw (refilled, c.saturating_add-self-inside.ensures)
    (tallies.tally_again all c.args.came _ (subst (IsTally all) (sym c.self.view_is) h)
    (sym c.tells.ensures ∙ c.if-tells.true))

pub returns-then-is_full : goal.returns-then-is_full
returns-then-is_full c = λ all h.
    rw (c.saturating_add-self-inside.ensures, c.saturating_add-self-inside-then-is_full.ensures)
    (tallies.tally_others all c.args.came _ (subst (IsTally all) (sym c.self.view_is) h)
    (sym c.tells.ensures ∙ c.if-tells.false)
    (grind (arith, nat_tests, sym c.is_full.ensures.value ∙ c.if-is_full.true)))

pub returns-else-is_full : goal.returns-else-is_full
returns-else-is_full c = λ all h.
    rw (c.push.ensures.items, c.saturating_add-self-inside.ensures)
    (tallies.tally_new all c.args.came _ (subst (IsTally all) (sym c.self.view_is) h)
    (sym c.tells.ensures ∙ c.if-tells.false)
    (grind (arith, nat_tests, c.is_full.ensures.fits, sym c.is_full.ensures.value ∙ c.if-is_full.false)))
