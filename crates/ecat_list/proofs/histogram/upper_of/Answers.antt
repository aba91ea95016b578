use Rattle.std.proofs.Common.{ℕ, ◌+◌, ◌-◌, ◌*◌, ◌/◌, ◌%◌, ◌^◌, ◌≤◌, subst, sym, arith}
use Rattle.std.proofs.Math.Nat.{mul-le-mul, pow-le-pow_right}
use Rattle.ecat_list.proofs.histogram.upper_of.Goals as goal

pub overflow_mul-result : goal.overflow_mul-result
overflow_mul-result c =
    let b : ℕ = c.args.bucket in
    let power : 2 ^ (b / 8 - 1) ≤ 2 ^ 36 =
    pow-le-pow_right {n = 2} (omega arith) {i = b / 8 - 1} {j = 36} (omega (arith, c.requires)) in
    let known : c.pow.result ≤ 2 ^ 36 = subst (λ p. p ≤ 2 ^ 36) (sym c.pow.ensures) power in
    let few : b % 8 + 9 ≤ 16 = omega arith in
    let product : (b % 8 + 9) * c.pow.result ≤ 16 * 2 ^ 36 = mul-le-mul few known in
    omega (arith, product)
