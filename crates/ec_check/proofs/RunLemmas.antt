-- What an FMMU maps is two runs of bits.
use Rattle.std.proofs.Common.{◌≡◌, ℕ, ◌+◌, ◌-◌, ◌<◌, ◌≤◌, Option, None, Some, arith, refl}
use Rattle.ec_regs.specs.Pairs.{first_logical, first_physical, pair_count}
use Rattle.ec_regs.specs.declared.fmmu.Fmmu.{Fmmu}
use Rattle.ec_check.specs.Order.{IsLowest}
use Rattle.ec_check.specs.Rules.{MapsLogical, MapsPhysical}
use Rattle.ec_check.specs.Runs.{IsInRun}

-- a logical bit that is mapped is one of the run, and one of the run is mapped
pub IsInRun-MapsLogical : (f : Fmmu) (l : ℕ) → MapsLogical f l → IsInRun (first_logical f) (pair_count f) l
IsInRun-MapsLogical f l (p, (j, at)) =
    let mapped : j < pair_count f = at.mapped in
    let place : l ≡ first_logical f + j = at.logical in
    record { from = omega arith; to = omega arith }

pub MapsLogical-IsInRun : (f : Fmmu) (l : ℕ) → IsInRun (first_logical f) (pair_count f) l → MapsLogical f l
MapsLogical-IsInRun f l inside =
    let from : first_logical f ≤ l = inside.from in
    let to : l < first_logical f + pair_count f = inside.to in (
      first_physical f + (l - first_logical f),
      (l - first_logical f, record { mapped = omega arith; logical = omega arith; physical = refl }),
    )

-- and physical bits the same
pub IsInRun-MapsPhysical : (f : Fmmu) (p : ℕ) → MapsPhysical f p → IsInRun (first_physical f) (pair_count f) p
IsInRun-MapsPhysical f p (l, (j, at)) =
    let mapped : j < pair_count f = at.mapped in
    let place : p ≡ first_physical f + j = at.physical in
    record { from = omega arith; to = omega arith }

pub MapsPhysical-IsInRun : (f : Fmmu) (p : ℕ) → IsInRun (first_physical f) (pair_count f) p → MapsPhysical f p
MapsPhysical-IsInRun f p inside =
    let from : first_physical f ≤ p = inside.from in
    let to : p < first_physical f + pair_count f = inside.to in (
      first_logical f + (p - first_physical f),
      (p - first_physical f, record { mapped = omega arith; logical = refl; physical = omega arith }),
    )

-- the lowest number of one set is that of a set with the same numbers
pub IsLowest-same : (P Q : ℕ → Type 0) (o : Option ℕ) → ((n : ℕ) → P n → Q n) → ((n : ℕ) → Q n → P n)
    → IsLowest P o → IsLowest Q o
IsLowest-same P Q None to from none = λ n h. none n (from n h)
IsLowest-same P Q (Some n) to from lowest = (to n lowest.0, λ m h. lowest.1 m (from m h))

-- the lowest bit that two FMMUs map is the lowest number of both runs
pub IsLowest-logical : (f g : Fmmu) (o : Option ℕ)
    → IsLowest
    (λ n. IsInRun (first_logical f) (pair_count f) n × IsInRun (first_logical g) (pair_count g) n) o
    → IsLowest (λ l. MapsLogical f l × MapsLogical g l) o
IsLowest-logical f g o h =
    IsLowest-same
    (λ n. IsInRun (first_logical f) (pair_count f) n × IsInRun (first_logical g) (pair_count g) n)
    (λ l. MapsLogical f l × MapsLogical g l) o
    (λ n both. (MapsLogical-IsInRun f n both.0, MapsLogical-IsInRun g n both.1))
    (λ n both. (IsInRun-MapsLogical f n both.0, IsInRun-MapsLogical g n both.1))
    h

pub IsLowest-physical : (f g : Fmmu) (o : Option ℕ)
    → IsLowest
    (λ n. IsInRun (first_physical f) (pair_count f) n × IsInRun (first_physical g) (pair_count g) n) o
    → IsLowest (λ p. MapsPhysical f p × MapsPhysical g p) o
IsLowest-physical f g o h =
    IsLowest-same
    (λ n. IsInRun (first_physical f) (pair_count f) n × IsInRun (first_physical g) (pair_count g) n)
    (λ p. MapsPhysical f p × MapsPhysical g p) o
    (λ n both. (MapsPhysical-IsInRun f n both.0, MapsPhysical-IsInRun g n both.1))
    (λ n both. (IsInRun-MapsPhysical f n both.0, IsInRun-MapsPhysical g n both.1))
    h
