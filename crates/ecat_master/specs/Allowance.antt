-- For how long the trips of a cycle may wait that is one of many, in microseconds.
use Rattle.std.specs.Prelude.{ℕ, ◌-◌, ◌*◌, ◌/◌, ◌^◌, min, max, Bool, true, false, Option, None, Some}
use Rattle.ecat_master.specs.declared.allowance.Allowance.{Allowance}

-- what a good cycle took at the least, behind one that took so long
abbrev pub least_behind : ℕ → Bool → Option ℕ → Option ℕ
least_behind took true None = Some took
least_behind took true (Some least) = Some (min least took)
least_behind took false least = least

-- what the last cycle took before there was a good one, behind one that took so long
abbrev pub tried_behind : ℕ → Bool → Option ℕ → ℕ → ℕ
tried_behind took false None tried = took
tried_behind took true None tried = tried
tried_behind took is_good (Some least) tried = tried

abbrev pub allowance_behind : ℕ → Bool → Allowance → Allowance
allowance_behind took is_good a = record {
  least_good = least_behind took is_good a.least_good;
  tried = tried_behind took is_good a.least_good a.tried;
}

-- twice a time, as far as a clock tells it
abbrev pub twice : ℕ → ℕ
twice micros = min (micros * 2) (2 ^ 64 - 1)

-- a cycle ends so long before the next one is due as a good one took at the least, a fifth of that time
-- before there was one, and so long as is spared in any case; but it may wait twice as long as such a cycle
-- took
abbrev pub time_left_by : Option ℕ → ℕ → ℕ → ℕ → ℕ
time_left_by (Some least) tried left spare = max (left - max least spare) (twice least)
time_left_by None tried left spare = max (left - max (left / 5) spare) (twice tried)

abbrev pub time_left : Allowance → ℕ → ℕ → ℕ
time_left a left spare = time_left_by a.least_good a.tried left spare
