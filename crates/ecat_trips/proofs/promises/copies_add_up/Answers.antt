use Rattle.std.proofs.Common.{◌≡◌, ℕ, ◌+◌, ◌*◌, ◌-◌, ◌/◌, ◌%◌, ◌<◌, ap, ◌∙◌, arith}
use Rattle.ec_merge.specs.Rule.{distance, joined_count}
use Rattle.ec_merge.specs.Laws.{distance_joined}
use Rattle.ecat_trips.proofs.promises.copies_add_up.Goals as goal

-- the low half of an address is its ADP
low : (adp rest : ℕ) → adp < 65536 → (adp + 65536 * rest) % 65536 ≡ adp
low adp rest h = omega arith

below : (n : ℕ) → n % 65536 < 65536
below n = omega arith

pub returns-clause-moved : goal.returns-clause-moved
returns-clause-moved c = λ s a b fits as_a as_b.
    rw (as_a, as_b) (distance_joined s.counter a.counter b.counter fits)

pub returns-clause-grown : goal.returns-clause-grown
returns-clause-grown c = λ s a b counts as_a as_b.
    rw (as_a, as_b, counts)
    (ap (distance (s.address % 65536))
    (low (joined_count (s.address % 65536) (a.address % 65536) (b.address % 65536)) (a.address / 65536)
    (below (a.address % 65536 + b.address % 65536 + (65536 - s.address % 65536))))
    ∙ distance_joined (s.address % 65536) (a.address % 65536) (b.address % 65536) (below s.address))
