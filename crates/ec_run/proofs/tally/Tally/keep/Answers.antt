use Rattle.std.proofs.Common.{◌≡◌, ◌++◌, ◌∙◌, arith, ap, sym, ℕ, List, [], ◌∷◌, length, take}
use Rattle.std.proofs.lemmas.List.{length-take}
use Rattle.ec_master.specs.declared.work.TheConstants.{MAX_ITEMS}
use Rattle.ec_run.specs.Tally.{TallyRecord}
use Rattle.ec_run.proofs.TallyLemmas.{take-room, take-full}
use Rattle.ec_run.proofs.tally.Tally.keep.Goals as goal

pub returns-then-len-lt-MAX_ITEMS-clause-counts : goal.returns-then-len-lt-MAX_ITEMS-clause-counts
returns-then-len-lt-MAX_ITEMS-clause-counts c all is =
    let kept : c.self.inside.counts.items ≡ take MAX_ITEMS all =
    ap (λ (r : TallyRecord). r.counts) c.self.view_is ∙ is in
    c.push.ensures.items
    ∙ ap (λ (xs : List ℕ). xs ++ c.args.count ∷ []) kept
    ∙ sym (take-room MAX_ITEMS all c.args.count
    (omega (arith, ap length kept, c.len.ensures.value, c.if-len-lt-MAX_ITEMS.true)))

pub returns-else-len-lt-MAX_ITEMS-clause-counts : goal.returns-else-len-lt-MAX_ITEMS-clause-counts
returns-else-len-lt-MAX_ITEMS-clause-counts c all is =
    let kept : c.self.inside.counts.items ≡ take MAX_ITEMS all =
    ap (λ (r : TallyRecord). r.counts) c.self.view_is ∙ is in
    is ∙ sym (take-full MAX_ITEMS all c.args.count
    (omega (arith, ap length kept, c.len.ensures.value, c.if-len-lt-MAX_ITEMS.false, length-take MAX_ITEMS all)))
