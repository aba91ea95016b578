use Rattle.std.proofs.Common.{◌≡◌, ◌+◌, ◌*◌, ◌/◌, ◌%◌, ◌^◌, get_or, sym, ◌∙◌, ap, arith}
use Rattle.std.specs.Int.{bit_at}
use Rattle.std.proofs.lemmas.List.{get_or_past}
use Rattle.ec_regs.specs.Bits.{bit}
use Rattle.ec_regs.proofs.BitRunLemmas.{bit_at-window}
use Rattle.ec_regs.proofs.bits.byte_from.Goals as goal
use Rattle.ec_regs.proofs.bits.byte_from.Goals.{then-byte-bytes, else-byte-bytes}

pub returns : goal.returns
returns c = λ b below.
    let bytes = c.args.bytes.now in
    let place : 8 * (c.args.source / 8) + c.args.source % 8 + b ≡ c.args.source + b = omega arith in
    -- the upper byte is the next one, or 0 behind the last
    let high : c.if-byte-bytes.high ≡ get_or bytes (c.args.source / 8 + 1) 0 =
    elim c.if-byte-bytes.branch [
      | then-byte-bytes w ↦ w.high-is
      | else-byte-bytes w ↦ w.high-is ∙ sym (get_or_past bytes (c.args.source / 8 + 1) 0 (omega arith))
    ] in
    ap (λ byte. bit_at byte b) (c.window.ensures
    ∙ ap (λ upper. (upper * 2 ^ 8 + get_or bytes (c.args.source / 8) 0) / 2 ^
    (c.args.source % 8) % 2 ^ 8) high)
    ∙ bit_at-window bytes (c.args.source / 8) (c.args.source % 8) b (λ k. omega
    (arith, c.type_inv.bytes k)) (omega arith) below
    ∙ ap (bit bytes) place
