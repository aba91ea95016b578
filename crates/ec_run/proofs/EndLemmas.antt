-- Where the last step begins of steps that were all done: behind other trips, and the slave has answered it.
use Rattle.std.proofs.Common.{◌≡◌, ℕ, zero, suc, ◌+◌, ◌*◌, Bool, true, false, List, [], ◌∷◌, ◌++◌, refl, sym}
use Rattle.std.proofs.Common.{subst, Result, Ok, Err, inl, inr}
use Rattle.std.specs.Prelude.{◌⊎◌}
use Rattle.ec_regs.specs.declared.al.AlState.TheVariants as state
use Rattle.ec_master.specs.Ports.{Trips}
use Rattle.ec_services.specs.declared.fault.MasterFault.{MasterFault}
use Rattle.ec_run.specs.Phase.{AreDone, steps_from, steps_of}
use Rattle.ec_run.specs.Recovery.{IsDealtWith, IsRecovered, IsSeenTo, remedy_of, steps_for}
use Rattle.ec_run.specs.Step.{IsDone, IsTried, is_answered}
use Rattle.ec_run.specs.Travels.{IsWithin, trips_of}
use Rattle.ec_run.specs.declared.phase.Phase.{Phase}
use Rattle.ec_run.specs.declared.phase.Phase.TheVariants as phase
use Rattle.ec_run.specs.declared.recovery.Outcome.TheVariants.{Brought, Left}
use Rattle.ec_run.specs.declared.recovery.Remedy.{Remedy}
use Rattle.ec_run.specs.declared.recovery.Remedy.TheVariants.{Leave, From, Address}
use Rattle.ec_run.specs.declared.recovery.Seen.{Seen}
use Rattle.ec_run.specs.declared.recovery.TheConstants.{MORE_LOOKS}
use Rattle.ec_run.specs.declared.step.Step.{Step}
use Rattle.ec_run.specs.declared.step.Step.TheVariants.{Station, State}
use Rattle.ec_run.specs.declared.step.TheConstants.{MORE_TRIES}
use Rattle.ec_run.specs.declared.wanted.Wanted.{Wanted}
use Rattle.ec_run.proofs.TravelsLemmas.{done_within, looked_for_within, tried_within, within_none, within_then}

-- behind so many trips at most a step was done, and it was the end
pub record EndsWith {P : Type 0} (trips : Trips P) (before : P) (place : ℕ) (wanted : Wanted) (step : Step)
    (later : P) : Type 0 where
  pub most : ℕ
  pub between : P
  pub within : IsWithin trips most before between
  pub done : IsDone trips between place wanted step (Ok tt) later

ends_behind : {P : Type 0} (trips : Trips P) (most : ℕ) (before between later : P) (place : ℕ)
    (wanted : Wanted) (step : Step) → IsWithin trips most before between
    → EndsWith trips between place wanted step later → EndsWith trips before place wanted step later
ends_behind trips most before between later place wanted step within ends = record {
  most = most + ends.most;
  between = ends.between;
  within = within_then trips most ends.most before between ends.between within ends.within;
  done = ends.done;
}

-- a step that was tried until it was done
pub tried_ends : {P : Type 0} (trips : Trips P) (more : ℕ) (before later : P) (place : ℕ) (wanted : Wanted)
    (step : Step) → IsTried trips before place wanted step more (Ok tt) later
    → EndsWith trips before place wanted step later
unfolding IsTried
tried_ends trips zero before later place wanted step done =
    record { most = 0; between = before; within = within_none trips 0 before before refl; done = done }
tried_ends trips (suc more) before later place wanted step (first, between, done, rest) =
    ends_so (is_answered first) rest (λ again.
    tried_ends trips more between later place wanted step again)
  where
    ends_so : (b : Bool)
        → (elim b as (λ (x : Bool). Type 0) [
          | true ↦ (Ok tt ≡ first) × (later ≡ between)
          | false ↦ IsTried trips between place wanted step more (Ok tt) later
        ])
        → (IsTried trips between place wanted step more (Ok tt) later
        → EndsWith trips between place wanted step later)
        → EndsWith trips before place wanted step later
    ends_so true (is, same) on = record {
      most = 0;
      between = before;
      within = within_none trips 0 before before refl;
      done = subst (λ (r : Result (Unit {0}) MasterFault). IsDone trips before place wanted step r later)
          (sym is) (subst (λ p. IsDone trips before place wanted step first p) (sym same) done);
    }
    ends_so false again on =
        ends_behind trips (trips_of step) before between later place wanted step
        (done_within trips before between place wanted step first done) (on again)

-- the last of some steps
pub done_ends : {P : Type 0} (trips : Trips P) (before later : P) (place : ℕ) (wanted : Wanted)
    (front : List Step) (step : Step) → AreDone trips before place wanted (front ++ step ∷ []) (Ok tt) later
    → EndsWith trips before place wanted step later
unfolding AreDone
done_ends trips before later place wanted [] step (Err fault, between, tried, (is, same)) = absurd (cc)
done_ends trips before later place wanted [] step (Ok done, between, tried, (is, same)) =
    tried_ends trips MORE_TRIES before later place wanted step
    (subst (λ p. IsTried trips before place wanted step MORE_TRIES (Ok tt) p) (sym same) tried)
done_ends trips before later place wanted (first ∷ front) step (Err fault, between, tried, (is, same)) =
    absurd (cc)
done_ends trips before later place wanted (first ∷ front) step (Ok done, between, tried, left) =
    ends_behind trips ((MORE_TRIES + 1) * trips_of first) before between later place wanted step
    (tried_within trips MORE_TRIES before between place wanted first (Ok done) tried)
    (done_ends trips between later place wanted front step left)

-- ---- a recovery

-- steps of which the last one asks for Op
abbrev pub EndInOp : List Step → Type 0
EndInOp steps = (front : List Step) × (steps ≡ front ++ State state.Op ∷ [])

from_ends : (first : Phase) → EndInOp (steps_from first)
from_ends phase.Init =
    (steps_of phase.Init ++ steps_of phase.PreOp ++ steps_of phase.Startup ++ steps_of phase.SafeOp, refl)
from_ends phase.PreOp = (steps_of phase.PreOp ++ steps_of phase.Startup ++ steps_of phase.SafeOp, refl)
from_ends phase.Startup = (steps_of phase.Startup ++ steps_of phase.SafeOp, refl)
from_ends phase.SafeOp = (steps_of phase.SafeOp, refl)
from_ends phase.Op = ([], refl)

-- a remedy has none, or such steps
remedy_ends : (tells : Bool) (remedy : Remedy)
    → (steps_for tells remedy ≡ []) ⊎ EndInOp (steps_for tells remedy)
unfolding from_ends
remedy_ends tells Leave = inl refl
remedy_ends tells (From first) = inr (from_ends first)
remedy_ends true Address =
    let rest : EndInOp (steps_from phase.Init) = from_ends phase.Init in
    inr (Station ∷ rest.0, refl)
remedy_ends false Address = inl refl

-- a slave that was brought to Op: all steps were done
seen_to_done : {P : Type 0} (trips : Trips P) (before later : P) (place : ℕ) (wanted : Wanted)
    (seen told : Seen) (steps : List Step)
    → IsSeenTo trips before place wanted seen steps (Brought told) later
    → AreDone trips before place wanted steps (Ok tt) later
seen_to_done trips before later place wanted seen told [] (is, same) = absurd (cc)
seen_to_done trips before later place wanted seen told (step ∷ rest) (Err fault, done, is) = absurd (cc)
seen_to_done trips before later place wanted seen told (step ∷ rest) (Ok brought, done, is) = done

seen_to_ends : {P : Type 0} (trips : Trips P) (before later : P) (place : ℕ) (wanted : Wanted)
    (seen told : Seen) (steps : List Step) → (steps ≡ []) ⊎ EndInOp steps
    → IsSeenTo trips before place wanted seen steps (Brought told) later
    → EndsWith trips before place wanted (State state.Op) later
seen_to_ends trips before later place wanted seen told steps (inl none) seen_to =
    let nothing = subst (λ (ss : List Step). IsSeenTo trips before place wanted seen ss (Brought told) later)
    none seen_to in
    absurd (not_left nothing.0)
  where
    not_left : Brought told ≡ Left → ⊥
    not_left is = absurd (cc)
seen_to_ends trips before later place wanted seen told steps (inr (front, is)) seen_to =
    done_ends trips before later place wanted front (State state.Op)
    (subst (λ (ss : List Step). AreDone trips before place wanted ss (Ok tt) later) is
    (seen_to_done trips before later place wanted seen told steps seen_to))

dealt_ends : {P : Type 0} (trips : Trips P) (before later : P) (place : ℕ) (wanted : Wanted) (tells : Bool)
    (seen : Result Seen MasterFault) (told : Seen)
    → IsDealtWith trips before place wanted tells seen (Brought told) later
    → EndsWith trips before place wanted (State state.Op) later
dealt_ends trips before later place wanted tells (Err fault) told (is, same) = absurd (cc)
dealt_ends trips before later place wanted tells (Ok seen) told dealt =
    seen_to_ends trips before later place wanted seen told (steps_for tells (remedy_of seen))
    (remedy_ends tells (remedy_of seen)) dealt

-- a slave that was brought to Op has answered last that it is there
pub recovered_ends : {P : Type 0} (trips : Trips P) (before later : P) (place : ℕ) (wanted : Wanted)
    (tells : Bool) (told : Seen) → IsRecovered trips before place wanted tells (Brought told) later
    → EndsWith trips before place wanted (State state.Op) later
recovered_ends trips before later place wanted tells told recovered =
    ends_behind trips (MORE_LOOKS + 1) before recovered.between later place wanted (State state.Op)
    (looked_for_within trips MORE_LOOKS before recovered.between wanted.station recovered.seen
    recovered.looked)
    (dealt_ends trips recovered.between later place wanted tells recovered.seen told recovered.dealt)
