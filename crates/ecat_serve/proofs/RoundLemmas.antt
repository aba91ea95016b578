-- One round after the other.
use Rattle.std.proofs.Common.{◌≡◌, ℕ, suc, ◌+◌, ◌-◌, ◌<◌, sym, subst, refl, arith, Result, Ok, Err}
use Rattle.ec_ring.specs.declared.port.PortFault.{PortFault}
use Rattle.ecat_serve.specs.Ends.{Calls}
use Rattle.ecat_serve.specs.Rounds.{IsRound, Serves, Serving, one_dropped_more, one_frame_more}
use Rattle.ecat_serve.specs.declared.served.Counts.{Counts}
use Rattle.ecat_serve.specs.declared.served.Round.TheVariants.{Frame, Dropped, Ended}

-- what the rounds that are left come to, from the line and the ends as they are now, is what all come to
abbrev pub LeadsOn : {E : Type 0} → Calls E → ℕ → Counts → Serving E → ℕ → Counts → Serving E → Type 0
LeadsOn {E} calls most first start left counts now =
    (result : Result Counts PortFault) (later : Serving E) → Serves calls left counts now result later
    → Serves calls most first start result later

-- before the first round all are left
pub leads_first : {E : Type 0} (calls : Calls E) (most left : ℕ) (first : Counts) (start : Serving E)
    → left ≡ most → LeadsOn calls most first start left first start
leads_first calls most left first start all result later rest =
    subst (λ (n : ℕ). Serves calls n first start result later) all rest

-- one round fewer is left
pub fewer : (most k : ℕ) → k < most → most - k ≡ suc (most - (k + 1))
fewer most k inside = omega arith

pub leads_frame : {E : Type 0} (calls : Calls E) (most : ℕ) (first : Counts) (start : Serving E) (k : ℕ)
    (counts : Counts) (now between : Serving E) → k < most → IsRound calls now (Ok Frame) between
    → LeadsOn calls most first start (most - k) counts now
    → LeadsOn calls most first start (most - (k + 1)) (one_frame_more counts) between
unfolding Serves
leads_frame calls most first start k counts now between inside round leads result later rest =
    leads result later
    (subst (λ (n : ℕ). Serves calls n counts now result later) (sym (fewer most k inside))
    (Ok Frame, between, round, rest))

pub leads_dropped : {E : Type 0} (calls : Calls E) (most : ℕ) (first : Counts) (start : Serving E) (k : ℕ)
    (counts : Counts) (now between : Serving E) → k < most → IsRound calls now (Ok Dropped) between
    → LeadsOn calls most first start (most - k) counts now
    → LeadsOn calls most first start (most - (k + 1)) (one_dropped_more counts) between
unfolding Serves
leads_dropped calls most first start k counts now between inside round leads result later rest =
    leads result later
    (subst (λ (n : ℕ). Serves calls n counts now result later) (sym (fewer most k inside))
    (Ok Dropped, between, round, rest))

pub leads_ended : {E : Type 0} (calls : Calls E) (most : ℕ) (first : Counts) (start : Serving E) (k : ℕ)
    (counts : Counts) (now between : Serving E) → k < most → IsRound calls now (Ok Ended) between
    → LeadsOn calls most first start (most - k) counts now → Serves calls most first start (Ok counts) between
unfolding Serves
leads_ended calls most first start k counts now between inside round leads =
    leads (Ok counts) between
    (subst (λ (n : ℕ). Serves calls n counts now (Ok counts) between) (sym (fewer most k inside))
    (Ok Ended, between, round, (refl, refl)))

pub leads_fault : {E : Type 0} (calls : Calls E) (most : ℕ) (first : Counts) (start : Serving E) (k : ℕ)
    (counts : Counts) (now between : Serving E) (fault : PortFault) → k < most
    → IsRound calls now (Err fault) between → LeadsOn calls most first start (most - k) counts now
    → Serves calls most first start (Err fault) between
unfolding Serves
leads_fault calls most first start k counts now between fault inside round leads =
    leads (Err fault) between
    (subst (λ (n : ℕ). Serves calls n counts now (Err fault) between) (sym (fewer most k inside))
    (Err fault, between, round, (refl, refl)))

-- no round is left
pub leads_nowhere : {E : Type 0} (calls : Calls E) (most : ℕ) (first : Counts) (start : Serving E) (left : ℕ)
    (counts : Counts) (now : Serving E) → left ≡ 0 → LeadsOn calls most first start left counts now
    → Serves calls most first start (Ok counts) now
unfolding Serves
leads_nowhere calls most first start left counts now none leads =
    leads (Ok counts) now
    (subst (λ (n : ℕ). Serves calls n counts now (Ok counts) now) (sym none) (refl, refl))
