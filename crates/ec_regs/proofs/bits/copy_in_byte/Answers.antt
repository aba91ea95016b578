use Rattle.std.proofs.Common.{◌+◌, ◌-◌, ◌*◌, ◌/◌, ◌%◌, ◌^◌, set, get_or, sym, ◌∙◌, ap, arith}
use Rattle.std.specs.Prelude.{bit_and, bit_or}
use Rattle.std.specs.Int.{bit_not, w8}
use Rattle.std.proofs.lemmas.Nat.Bits.{bit_at_mask_below, bit_at_mask_above}
use Rattle.ec_regs.specs.Pairs.{partner}
use Rattle.ec_regs.proofs.BitLemmas.{with_bits_none}
use Rattle.ec_regs.proofs.PairLemmas.{partner_none}
use Rattle.ec_regs.proofs.BitRunLemmas.{merged, merged-lt, bit_at-merged_inside, bit_at-merged_outside}
use Rattle.ec_regs.proofs.BitRunLemmas.{set_run}
use Rattle.ec_regs.proofs.bits.copy_in_byte.Goals as goal

pub returns-then-count-eq0 : goal.returns-then-count-eq0
returns-then-count-eq0 c =
    sym (with_bits_none c.args.into.now c.args.bytes.now
    (partner c.args.at c.args.source c.args.count) c.requires.bytes
    (λ i _. ap (λ n. partner c.args.at c.args.source n i) c.if-count-eq0.true
    ∙ partner_none c.args.at c.args.source i))

pub returns : goal.returns
returns c =
    let into = c.args.into.now in
    let bytes = c.args.bytes.now in
    let at = c.args.at in
    let from = at % 8 in
    let to = at % 8 + c.args.count in
    let old = get_or into (at / 8) 0 in
    let taken = c.byte_from.result in
    ap (λ mask. set into (at / 8) (bit_or (bit_and old (bit_not w8 mask)) (bit_and
    (taken * 2 ^ from % 2 ^ 8) mask))) c.mask-mask.ensures
    ∙ set_run into bytes at c.args.source c.args.count (merged old taken from to) c.requires.bytes
    (omega arith) c.requires.one_byte
    c.requires.at_inside (merged-lt old taken from to (omega (
      arith,
      c.requires.bytes
          (at / 8),
    )) c.requires.one_byte)
    (λ b starts ends. bit_at-merged_inside old taken from to b c.requires.one_byte starts ends
    ∙ c.byte_from.ensures (b - from) (omega arith))
    (λ b before. bit_at-merged_outside old taken from to b c.requires.one_byte (omega arith)
    (bit_at_mask_below from to b before))
    (λ b below behind. bit_at-merged_outside old taken from to b c.requires.one_byte below
    (bit_at_mask_above from to b behind))
