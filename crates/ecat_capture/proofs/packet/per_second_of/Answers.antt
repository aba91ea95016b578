-- A power of two below the 35th.
use Rattle.std.proofs.Common.{arith, ◌≤◌, ◌<◌, ◌-◌, ◌^◌}
use Rattle.std.proofs.Math.Nat.{pow-le-pow_right}
use Rattle.ecat_capture.proofs.packet.per_second_of.Goals as goal

pub returns-then-resolution-lt163-clause-most : goal.returns-then-resolution-lt163-clause-most
returns-then-resolution-lt163-clause-most c =
    let some : 0 < 2 = omega arith in
    let small : c.args.resolution - 128 ≤ 34 = omega arith in
    let bound : 2 ^ (c.args.resolution - 128) ≤ 2 ^ 34 = pow-le-pow_right some small in
    rw (c.pow-then-resolution-lt163.ensures, c.from-then-resolution-lt163.ensures) bound
