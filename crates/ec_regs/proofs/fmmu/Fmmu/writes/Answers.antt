use Rattle.std.proofs.Common.{◌∙◌, ◌^◌, ap, eqb}
use Rattle.std.specs.Prelude.{bit_and}
use Rattle.ec_regs.proofs.RecordLemmas.{has_flag}
use Rattle.ec_regs.proofs.fmmu.Fmmu.writes.Goals as goal

pub returns : goal.returns
returns c =
    c.contains.ensures tt
    ∙ ap (λ n. eqb (bit_and n (2 ^ 1)) (2 ^ 1)) (c.from_bits_retain.ensures tt)
    ∙ has_flag c.args.self.now.kind 1
