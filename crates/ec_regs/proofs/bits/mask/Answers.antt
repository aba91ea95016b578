use Rattle.std.proofs.Common.{arith}
use Rattle.std.proofs.lemmas.Nat.{one_shl}
use Rattle.std.proofs.Math.Nat.{pow-le-pow_right}
use Rattle.ec_regs.proofs.bits.mask.Goals as goal

pub overflow_sub-result : goal.overflow_sub-result
overflow_sub-result c =
    omega (
      arith,
      one_shl c.args.from 16 (omega arith),
      one_shl c.args.to 16
          (omega arith),
      pow-le-pow_right {n = 2} (omega arith) {i = c.args.from} {j =
          c.args.to} c.requires.ordered,
    )
