use Rattle.std.proofs.Common.{◌+◌, ◌*◌, ◌∙◌, ap₂, take, arith}
use Rattle.std.proofs.lemmas.List.{length-set}
use Rattle.std.proofs.Common.{set}
use Rattle.ecat_list.proofs.HexLemmas as hexes
use Rattle.ecat_list.proofs.text.spell.Goals as goal

pub loop-k-preserved : goal.loop-k-preserved
loop-k-preserved c =
    let k = c.loop-k.k in
    let ds = c.loop-k.digits in (
      length-set _ _ _ ∙ length-set _ _ _ ∙ c.loop-k.invariant.0,
      ap₂ (λ h l. take (2 * (k + 1)) (set (set ds (2 * k) h) (2 * k + 1) l))
          c.digit_of.ensures c.digit_of-in-loop-k.ensures
          ∙ hexes.spelt_more c.args.bytes.now ds k c.loop-k-test.true
          (omega (arith, c.requires, c.loop-k.invariant.0)) c.loop-k.invariant.1,
    )
