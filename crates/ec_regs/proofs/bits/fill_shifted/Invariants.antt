use Rattle.std.proofs.Common.{◌≡◌, ℕ, ◌+◌, ◌*◌, ◌/◌, ◌%◌, ◌^◌, ◌<◌, get_or}
use Rattle.ec_regs.proofs.bits.fill_shifted.Given as goal

-- the bytes before the place are filled
abbrev pub invariant-loop-k : goal.invariant-loop-k
invariant-loop-k l =
    (j : ℕ) → j < l.k → get_or l.into j 0 ≡ (get_or l.bytes
    (j + 1) 0 * 2 ^ 8 + get_or l.bytes j 0) / 2 ^ l.shift % 2 ^ 8
