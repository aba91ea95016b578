-- A course, trip by trip.
use Rattle.std.proofs.Common.{◌≡◌, ℕ, suc, ◌+◌, ◌-◌, ◌<◌, sym, refl, subst, arith}
use Rattle.std.proofs.Common.{None, Some, Result, Ok, Err}
use Rattle.ec_master.specs.Ports.{Trips}
use Rattle.ec_services.specs.Course.{Course, IsStep, Runs}
use Rattle.ec_services.specs.declared.fault.MasterFault.{MasterFault}
use Rattle.ec_services.specs.declared.fault.MasterFault.TheVariants.{NoAnswer}

-- a trip that decides nothing goes before the others, and one that decides ends them
runs_next : {P S A : Type 0} (trips : Trips P) (course : Course S A) (before between later : P)
    (known learned last : S) (n : ℕ)
    (result : Result A MasterFault) → IsStep trips before course known (Ok None) learned between
    → Runs trips between course learned n result last later
    → Runs trips before course known (suc n) result last later
unfolding Runs
runs_next trips course before between later known learned last n result step rest =
    (Ok None, learned, between, step, rest)

runs_told : {P S A : Type 0} (trips : Trips P) (course : Course S A) (before between : P)
    (known learned : S) (n : ℕ)
    (value : A) → IsStep trips before course known (Ok (Some value)) learned between
    → Runs trips before course known (suc n) (Ok value) learned between
unfolding Runs
runs_told trips course before between known learned n value step =
    (Ok (Some value), learned, between, step, (refl, refl, refl))

runs_fault : {P S A : Type 0} (trips : Trips P) (course : Course S A) (before between : P)
    (known learned : S) (n : ℕ)
    (fault : MasterFault) → IsStep trips before course known (Err fault) learned between
    → Runs trips before course known (suc n) (Err fault) learned between
unfolding Runs
runs_fault trips course before between known learned n fault step =
    (Err fault, learned, between, step, (refl, refl, refl))

runs_out : {P S A : Type 0} (trips : Trips P) (course : Course S A) (now : P) (known : S)
    → Runs trips now course known 0 (Err NoAnswer) known now
unfolding Runs
runs_out trips course now known = (refl, refl, refl)

-- ---- the course so far

-- what the trips that are left come to, from the ports as they are now, is what all come to
abbrev pub KeepsOn : {P S A : Type 0} → Trips P → Course S A → P → S → P → S → ℕ → ℕ → Type 0
KeepsOn {P} {S} {A} trips course start known_first now known limit left =
    (result : Result A MasterFault) (last : S) (later : P)
    → Runs trips now course known left result last later
    → Runs trips start course known_first limit result last later

-- one of the trips that are left, where some are
one_left : (limit k : ℕ) → k < limit → limit - k ≡ suc (limit - (k + 1))
one_left limit k inside = omega arith

pub keeps_on : {P S A : Type 0} (trips : Trips P) (course : Course S A) (start now between : P)
    (known_first known learned : S) (limit k : ℕ)
    → KeepsOn trips course start known_first now known limit (limit - k) → k < limit
    → IsStep trips now course known (Ok None) learned between
    → KeepsOn trips course start known_first between learned limit (limit - (k + 1))
keeps_on trips course start now between known_first known learned limit k so_far inside step result last later
    runs =
    so_far result last later
    (subst (λ n. Runs trips now course known n result last later) (sym (one_left limit k inside))
    (runs_next trips course now between later known learned last (limit - (k + 1)) result step runs))

pub tells : {P S A : Type 0} (trips : Trips P) (course : Course S A) (start now between : P)
    (known_first known learned : S) (limit k : ℕ) (value : A)
    → KeepsOn trips course start known_first now known limit (limit - k) → k < limit
    → IsStep trips now course known (Ok (Some value)) learned between
    → Runs trips start course known_first limit (Ok value) learned between
tells trips course start now between known_first known learned limit k value so_far inside step =
    so_far (Ok value) learned between
    (subst (λ n. Runs trips now course known n (Ok value) learned between) (sym (one_left limit k inside))
    (runs_told trips course now between known learned (limit - (k + 1)) value step))

pub faults : {P S A : Type 0} (trips : Trips P) (course : Course S A) (start now between : P)
    (known_first known learned : S) (limit k : ℕ) (fault : MasterFault)
    → KeepsOn trips course start known_first now known limit (limit - k) → k < limit
    → IsStep trips now course known (Err fault) learned between
    → Runs trips start course known_first limit (Err fault) learned between
faults trips course start now between known_first known learned limit k fault so_far inside step =
    so_far (Err fault) learned between
    (subst (λ n. Runs trips now course known n (Err fault) learned between) (sym (one_left limit k inside))
    (runs_fault trips course now between known learned (limit - (k + 1)) fault step))

pub ends : {P S A : Type 0} (trips : Trips P) (course : Course S A) (start now : P) (known_first known : S)
    (limit left : ℕ)
    → KeepsOn trips course start known_first now known limit left → left ≡ 0
    → Runs trips start course known_first limit (Err NoAnswer) known now
ends trips course start now known_first known limit left so_far none =
    so_far (Err NoAnswer) known now
    (subst (λ n. Runs trips now course known n (Err NoAnswer) known now) (sym none)
    (runs_out trips course now known))
