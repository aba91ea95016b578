-- A slave that is looked at until it answers.
use Rattle.std.proofs.Common.{◌≡◌, ℕ, suc, sym, refl, subst, true, false, Result}
use Rattle.ec_master.specs.Ports.{Trips}
use Rattle.ec_services.specs.declared.fault.MasterFault.{MasterFault}
use Rattle.ec_run.specs.Recovery.{IsLookedAt, IsLookedFor, is_nobody}
use Rattle.ec_run.specs.declared.recovery.Seen.{Seen}

-- what the looks that are left come to, from the ports as they are now, is what all come to
abbrev pub LooksOn : {P : Type 0} → Trips P → P → P → ℕ → ℕ → ℕ → Type 0
LooksOn {P} trips start now station all left =
    (seen : Result Seen MasterFault) (later : P) → IsLookedFor trips now station left seen later
    → IsLookedFor trips start station all seen later

looked-again : {P : Type 0} (trips : Trips P) (now between : P) (station left : ℕ)
    (first : Result Seen MasterFault) → is_nobody first ≡ true
    → IsLookedAt trips now station first between
    → (seen : Result Seen MasterFault) (later : P) → IsLookedFor trips between station left seen later
    → IsLookedFor trips now station (suc left) seen later
unfolding IsLookedFor
looked-again trips now between station left first nobody did seen later more =
    (first, between, did, rw nobody more)

looked-once : {P : Type 0} (trips : Trips P) (now between : P) (station left : ℕ)
    (first : Result Seen MasterFault) → is_nobody first ≡ false
    → IsLookedAt trips now station first between
    → IsLookedFor trips now station (suc left) first between
unfolding IsLookedFor
looked-once trips now between station left first told did = (first, between, did, rw told (refl, refl))

looked-last : {P : Type 0} (trips : Trips P) (now between : P) (station : ℕ)
    (first : Result Seen MasterFault) → IsLookedAt trips now station first between
    → IsLookedFor trips now station 0 first between
unfolding IsLookedFor
looked-last trips now between station first did = did

pub looks_on : {P : Type 0} (trips : Trips P) (start now between : P) (station all left less : ℕ)
    (first : Result Seen MasterFault) → LooksOn trips start now station all left → left ≡ suc less
    → is_nobody first ≡ true → IsLookedAt trips now station first between
    → LooksOn trips start between station all less
looks_on trips start now between station all left less first so_far is nobody did seen later more =
    so_far seen later
    (subst (λ (n : ℕ). IsLookedFor trips now station n seen later) (sym is)
    (looked-again trips now between station less first nobody did seen later more))

pub looks_end : {P : Type 0} (trips : Trips P) (start now between : P) (station all left less : ℕ)
    (first : Result Seen MasterFault) → LooksOn trips start now station all left → left ≡ suc less
    → is_nobody first ≡ false → IsLookedAt trips now station first between
    → IsLookedFor trips start station all first between
looks_end trips start now between station all left less first so_far is told did =
    so_far first between
    (subst (λ (n : ℕ). IsLookedFor trips now station n first between) (sym is)
    (looked-once trips now between station less first told did))

pub looks_last : {P : Type 0} (trips : Trips P) (start now between : P) (station all left : ℕ)
    (first : Result Seen MasterFault) → LooksOn trips start now station all left → left ≡ 0
    → IsLookedAt trips now station first between
    → IsLookedFor trips start station all first between
looks_last trips start now between station all left first so_far is did =
    so_far first between
    (subst (λ (n : ℕ). IsLookedFor trips now station n first between) (sym is)
    (looked-last trips now between station first did))
