use Rattle.std.proofs.Common.{arith, sym, subst, below_more}
use Rattle.std.proofs.lemmas.List.Elements.{All-from_get_or, recursion_from_All}
use Rattle.std.proofs.lemmas.Option.{get_or_from_slice_get}
use Rattle.ec_regs.specs.Bits.{AreBytes}
use Rattle.ec_master.specs.Unordered.{HasBytes}
use Rattle.ec_master.specs.Work.{no_item}
use Rattle.ec_master.proofs.work.Work.data_are_bytes.Goals as goal

pub loop-k-preserved : goal.loop-k-preserved
loop-k-preserved c =
    let bytes : HasBytes c.item.result.now = subst AreBytes c.data.ensures c.are_bytes.ensures in
    below_more _ _ c.loop-k.invariant
    (subst HasBytes (sym (get_or_from_slice_get c.args.self.now c.loop-k.k _ no_item c.item.ensures)) bytes)

pub returns : goal.returns
returns c =
    recursion_from_All HasBytes c.args.self.now (All-from_get_or HasBytes c.args.self.now no_item
    (λ i inside. c.loop-k.invariant i
    (omega (arith, inside, c.loop-k-test.false, c.len-k-end.ensures.count))))
