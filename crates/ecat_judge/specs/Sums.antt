-- How often an item was sent and what became of it, each number up to 2^64 - 1.
use Rattle.std.specs.Prelude.{ℕ, ◌+◌, ◌==◌, ◌&&◌, Bool, nat_lt}
use Rattle.std.specs.Io.Iter.{u64_saturate}
use Rattle.ecat_judge.specs.declared.sums.Outcome.{Outcome}
use Rattle.ecat_judge.specs.declared.sums.Outcome.TheVariants.{Good, Short, Over, Lost, OnTheWay, Unpaired}
use Rattle.ecat_judge.specs.declared.sums.Sums.{Sums}

-- one more
abbrev pub more : ℕ → ℕ
more n = u64_saturate (n + 1)

-- one more datagram: what came back of nothing that was sent is not among those that were
abbrev pub counted : Outcome → Sums → Sums
counted Good s = record s { sent = more s.sent; good = more s.good }
counted Short s = record s { sent = more s.sent; short = more s.short }
counted Over s = record s { sent = more s.sent; over = more s.over }
counted Lost s = record s { sent = more s.sent; lost = more s.lost }
counted OnTheWay s = record s { sent = more s.sent; on_the_way = more s.on_the_way }
counted Unpaired s = record s { unpaired = more s.unpaired }

-- some was good, and none short, over or lost
abbrev pub all_good : Sums → Bool
all_good s = nat_lt 0 s.good && s.short == 0 && s.over == 0 && s.lost == 0
