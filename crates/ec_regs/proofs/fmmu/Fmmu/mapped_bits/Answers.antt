use Rattle.std.proofs.Common.{arith}
use Rattle.std.proofs.lemmas.Grind.{common_steps}
use Rattle.ec_regs.specs.Pairs.{pair_count}
use Rattle.ec_regs.proofs.fmmu.Fmmu.mapped_bits.Goals as goal

pub returns-then-not-can_map : goal.returns-then-not-can_map
unfolding pair_count
returns-then-not-can_map c = grind (arith, common_steps)

pub returns : goal.returns
unfolding pair_count
returns c = grind (arith, common_steps)
