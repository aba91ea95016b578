use Rattle.std.proofs.Common.{eqb, ap, ◌∙◌}
use Rattle.std.specs.Prelude.{bit_and}
use Rattle.ec_regs.proofs.RecordLemmas.{has_flag}
use Rattle.ec_regs.proofs.al.acknowledges.Goals as goal

pub returns : goal.returns
returns c =
    c.contains.ensures tt ∙ ap (λ n. eqb (bit_and n 16) 16) (c.from_bits_retain.ensures tt)
    ∙ has_flag c.args.control 4
