use Rattle.std.proofs.Common.{◌≡◌, ◌+◌, ◌-◌, ◌*◌, ◌/◌, refl, ◌∙◌, ap, arith}
use Rattle.ec_regs.specs.Bits.{with_bits}
use Rattle.ec_regs.specs.Pairs.{partner}
use Rattle.ec_regs.proofs.BitRunLemmas.{join_runs, partner_whole}
use Rattle.ec_regs.proofs.bits.copy_bits.Goals as goal

pub returns : goal.returns
returns c =
    let into = c.args.into.now in
    let bytes = c.args.bytes.now in
    let at = c.args.at in
    let source = c.args.source in
    let head = c.min-head.result in
    let whole = (c.args.count - head) / 8 in
    let done = head + 8 * whole in
    let rest = c.args.count - done in
    let whole_bytes =
    join_runs into bytes c.copy_in_byte-2.new.into c.copy_bytes.new.into at source head (8 * whole)
    (partner (8 * ((at + head) / 8)) (source + head) (8 * whole)) c.copy_in_byte-2.ensures c.copy_bytes.ensures
    (λ i. partner_whole (at + head) (source + head) whole i (λ some. omega arith)) in
    let end : done + rest ≡ c.args.count = omega arith in
    join_runs into bytes c.copy_bytes.new.into c.copy_in_byte-3.new.into at source done rest (partner
    (at + done) (source + done) rest)
    whole_bytes c.copy_in_byte-3.ensures (λ i. refl)
    ∙ ap (λ n. with_bits into bytes (partner at source n)) end
