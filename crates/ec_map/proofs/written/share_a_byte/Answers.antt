use Rattle.std.proofs.Common.{sym, ◌∙◌, arith}
use Rattle.ec_map.proofs.WrittenLemmas.{shared_byte, share_from_byte}
use Rattle.ec_map.proofs.written.share_a_byte.Goals as goal

pub returns-then-range-gt0 : goal.returns-then-range-gt0
returns-then-range-gt0 c = (
  λ yes.
      let byte = shared_byte c.args.bytes.first c.args.bytes.count c.args.range.first c.args.range.count
      c.requires (omega (arith, c.if-range-gt0.true)) (sym c.meets.ensures ∙ yes) in
      record { address = byte.0; inside = byte.1; there = byte.2 },
  λ share. c.meets.ensures
      ∙ share_from_byte c.args.bytes.first c.args.bytes.count c.args.range.first c.args.range.count share.address
      share.inside share.there,
)
