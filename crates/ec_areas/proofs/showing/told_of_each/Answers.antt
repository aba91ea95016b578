use Rattle.std.proofs.Common.{rules, refl, ◌∙◌, subst, arith}
use Rattle.std.specs.Fn.{FnReturnsAt}
use Rattle.std.proofs.lemmas.List.{length-set}
use Rattle.std.proofs.lemmas.Option.{get_or_from_slice_get, slice_get_within}
use Rattle.ec_regs.specs.declared.sync_man.SyncMan.{SyncMan}
use Rattle.ec_areas.proofs.ShowingLemmas.{told_more}
use Rattle.ec_areas.proofs.showing.told_of_each.Goals as goal

pub loop-i-init : goal.loop-i-init
loop-i-init g c = record { size = refl; said = λ j s below area. absurd (omega arith) }

pub loop-i-preserved : goal.loop-i-preserved
loop-i-preserved g c = record {
  size = length-set c.loop-i.told c.loop-i.i c.test.result ∙ c.loop-i.invariant.size;
  said = told_more (FnReturnsAt g.F.Fn c.args.test) c.args.areas.now c.loop-i.told c.loop-i.i c.test.result
      (omega (arith, c.loop-i.invariant.size)) c.loop-i.invariant.said
      (λ s here. subst (λ (t : SyncMan). FnReturnsAt g.F.Fn c.args.test t c.test.result)
      (get_or_from_slice_get c.args.areas.now c.loop-i.i s c.index-areas-i.result here) (search rules));
}

pub returns : goal.returns
returns g c = λ i s here.
    let managed = slice_get_within c.args.areas.now i s here in
    c.loop-i.invariant.said i s (omega (arith, managed, c.told-areas)) here
