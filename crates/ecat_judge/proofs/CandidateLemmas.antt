-- What is tried as missing grows by one slave, or by one place.
use Rattle.std.proofs.Common.{◌≡◌, ℕ, suc, ◌+◌, ◌&&◌, Bool, true, [], ◌++◌, refl, ap, ◌∙◌, arith}
use Rattle.std.specs.Prelude.{nat_lt}
use Rattle.ecat_judge.specs.declared.share.Missing.TheVariants.{Slaves, Inputs, Outputs}
use Rattle.ecat_judge.specs.Candidates.{one_if, each_slave, each_half, runs_from, neighbours}

-- ---- each slave

pub slave_none : each_slave 0 ≡ []
unfolding each_slave
slave_none = refl

pub slave_suc : (n : ℕ) → each_slave (suc n) ≡ each_slave n ++ one_if true (Slaves n (n + 1))
unfolding each_slave
slave_suc n = refl

pub slave_more : (n : ℕ) → each_slave (n + 1) ≡ each_slave n ++ one_if true (Slaves n (n + 1))
slave_more n = let e : n + 1 ≡ suc n = omega arith in ap each_slave e ∙ slave_suc n

-- ---- each half

pub half_none : each_half 0 ≡ []
unfolding each_half
half_none = refl

pub half_suc : (n : ℕ)
    → each_half (suc n) ≡ (each_half n ++ one_if true (Inputs n)) ++ one_if true (Outputs n)
unfolding each_half
half_suc n = refl

pub half_more : (n : ℕ)
    → each_half (n + 1) ≡ (each_half n ++ one_if true (Inputs n)) ++ one_if true (Outputs n)
half_more n = let e : n + 1 ≡ suc n = omega arith in ap each_half e ∙ half_suc n

-- ---- runs

pub run_none : (any : Bool) (from : ℕ) → runs_from any from 0 ≡ []
unfolding runs_from
run_none any from = refl

pub run_suc : (any : Bool) (from to : ℕ)
    → runs_from any from (suc to)
    ≡ runs_from any from to ++ one_if (any && nat_lt (from + 1) to) (Slaves from to)
unfolding runs_from
run_suc any from to = refl

pub run_more : (any : Bool) (from to : ℕ)
    → runs_from any from (to + 1)
    ≡ runs_from any from to ++ one_if (any && nat_lt (from + 1) to) (Slaves from to)
run_more any from to =
    let e : to + 1 ≡ suc to = omega arith in
    ap (runs_from any from) e ∙ run_suc any from to

-- ---- neighbours

pub neighbour_none : (any : Bool) (count : ℕ) → neighbours any count 0 ≡ []
unfolding neighbours
neighbour_none any count = refl

pub neighbour_suc : (any : Bool) (count from : ℕ)
    → neighbours any count (suc from) ≡ (neighbours any count from ++ runs_from any from count)
    ++ one_if (nat_lt (from + 1) count) (Slaves from count)
unfolding neighbours
neighbour_suc any count from = refl

pub neighbour_more : (any : Bool) (count from : ℕ)
    → neighbours any count (from + 1) ≡ (neighbours any count from ++ runs_from any from count)
    ++ one_if (nat_lt (from + 1) count) (Slaves from count)
neighbour_more any count from =
    let e : from + 1 ≡ suc from = omega arith in
    ap (neighbours any count) e ∙ neighbour_suc any count from
