-- Steps, one question after the other and one step after the other.
use Rattle.std.proofs.Common.{◌≡◌, ℕ, zero, suc, ◌+◌, ◌<◌, arith, sym, ap, refl, ◌∙◌, subst}
use Rattle.std.proofs.Common.{List, [], ◌∷◌, length, drop, drop-cons, get_or, ◌≤◌, Option, None, Some}
use Rattle.std.proofs.Common.{Result, Ok, Err}
use Rattle.std.proofs.Common.{true, false}
use Rattle.std.specs.List.{slice_get}
use Rattle.std.proofs.lemmas.List.{drop_all}
use Rattle.ec_regs.specs.Fmmu.{fmmu_bytes}
use Rattle.ec_regs.specs.SyncMan.{sync_man_bytes}
use Rattle.ec_regs.specs.declared.fmmu.Fmmu.{Fmmu}
use Rattle.ec_regs.specs.declared.sync_man.SyncMan.{SyncMan}
use Rattle.ec_master.specs.Ports.{Trips}
use Rattle.ec_services.specs.Ask.{Question, IsAsked, Talks, done}
use Rattle.ec_services.specs.declared.fault.MasterFault.{MasterFault}
use Rattle.ec_run.specs.Phase.{AreDone, Brings}
use Rattle.ec_run.specs.Step.{manager_talk, fmmu_talk, SetsManager, SetsFmmu, IsDone, IsTried}
use Rattle.ec_run.specs.Step.{IsPart, SetsFmmuOn, SetsManagerOn, fmmu_question, is_last_of_fmmu}
use Rattle.ec_run.specs.Step.{is_last_of_manager, manager_question}
use Rattle.ec_run.specs.Step.{is_answered}
use Rattle.ec_run.specs.declared.phase.StepFault.{StepFault}
use Rattle.ec_run.specs.declared.step.Step.{Step}
use Rattle.ec_run.specs.declared.step.TheConstants.{MORE_TRIES}
use Rattle.ec_run.specs.declared.wanted.Wanted.{Wanted}

-- ---- one question after the other

pub talks_next : {P : Type 0} (trips : Trips P) (before between later : P) (q : Question (Unit {0}))
    (rest : List (Question (Unit {0}))) (undecided result : Result (Unit {0}) MasterFault)
    → IsAsked trips before q (Ok None) between → Talks trips between rest undecided result later
    → Talks trips before (q ∷ rest) undecided result later
unfolding Talks
talks_next trips before between later q rest undecided result asked talk = (Ok None, between, asked, talk)

pub talks_fault : {P : Type 0} (trips : Trips P) (before between : P) (q : Question (Unit {0}))
    (rest : List (Question (Unit {0}))) (undecided : Result (Unit {0}) MasterFault) (fault : MasterFault)
    → IsAsked trips before q (Err fault) between → Talks trips before (q ∷ rest) undecided (Err fault) between
unfolding Talks
talks_fault trips before between q rest undecided fault asked = (Err fault, between, asked, (refl, refl))

-- the last question that only fails or goes on
pub talks_last : {P : Type 0} (trips : Trips P) (before later : P) (q : Question (Unit {0}))
    (r : Result (Unit {0}) MasterFault) → IsAsked trips before q (done r) later
    → Talks trips before (q ∷ []) (Ok tt) r later
unfolding Talks
talks_last trips before later q (Err fault) asked = (Err fault, later, asked, (refl, refl))
talks_last trips before later q (Ok tt) asked = (Ok None, later, asked, (refl, refl))

-- ---- records

pub sets_manager : {P : Type 0} (trips : Trips P) (before later : P) (station n k : ℕ)
    (managers : List SyncMan)
    (s : SyncMan) (bytes : List ℕ) (r : Result (Unit {0}) MasterFault) → k ≡ n → slice_get managers k ≡ Some s
    → bytes ≡ sync_man_bytes s → Talks trips before (manager_talk station k bytes) (Ok tt) r later
    → SetsManager trips before station n (slice_get managers n) r later
sets_manager trips before later station n k managers s bytes r here there spelt talk =
    subst (λ (j : ℕ). SetsManager trips before station j (slice_get managers j) r later) here
    (subst (λ (m : Option SyncMan). SetsManager trips before station k m r later) (sym there)
    (subst (λ (bs : List ℕ). Talks trips before (manager_talk station k bs) (Ok tt) r later) spelt talk))

pub sets_manager_on : {P : Type 0} (trips : Trips P) (before later : P) (station n k : ℕ)
    (managers : List SyncMan) (s : SyncMan) (bytes : List ℕ) (asked : ℕ)
    (told : Result (Option (Unit {0})) MasterFault) → k ≡ n → slice_get managers k ≡ Some s
    → bytes ≡ sync_man_bytes s
    → IsPart trips before (manager_question station k bytes asked) (is_last_of_manager asked) told later
    → SetsManagerOn trips before station n (slice_get managers n) asked told later
sets_manager_on trips before later station n k managers s bytes asked told here there spelt part =
    subst (λ (j : ℕ). SetsManagerOn trips before station j (slice_get managers j) asked told later) here
    (subst (λ (m : Option SyncMan). SetsManagerOn trips before station k m asked told later) (sym there)
    (subst (λ (bs : List ℕ). IsPart trips before (manager_question station k bs asked) (is_last_of_manager asked)
    told later) spelt part))

pub sets_fmmu_on : {P : Type 0} (trips : Trips P) (before later : P) (station n k : ℕ) (fmmus : List Fmmu)
    (m : Fmmu) (bytes : List ℕ) (asked : ℕ) (told : Result (Option (Unit {0})) MasterFault) → k ≡ n
    → slice_get fmmus k ≡ Some m → bytes ≡ fmmu_bytes m
    → IsPart trips before (fmmu_question station k bytes asked) (is_last_of_fmmu asked) told later
    → SetsFmmuOn trips before station n (slice_get fmmus n) asked told later
sets_fmmu_on trips before later station n k fmmus m bytes asked told here there spelt part =
    subst (λ (j : ℕ). SetsFmmuOn trips before station j (slice_get fmmus j) asked told later) here
    (subst (λ (f : Option Fmmu). SetsFmmuOn trips before station k f asked told later) (sym there)
    (subst (λ (bs : List ℕ). IsPart trips before (fmmu_question station k bs asked) (is_last_of_fmmu asked)
    told later) spelt part))

-- ---- a step that is tried again

-- what the tries that are left come to, from the ports as they are now, is what all come to
abbrev pub TriesOn : {P : Type 0} → Trips P → P → P → ℕ → Wanted → Step → ℕ → ℕ → Type 0
TriesOn {P} trips start now place wanted step all left =
    (result : Result (Unit {0}) MasterFault) (later : P)
    → IsTried trips now place wanted step left result later
    → IsTried trips start place wanted step all result later

tried-again : {P : Type 0} (trips : Trips P) (now between : P) (place : ℕ) (wanted : Wanted) (step : Step)
    (left : ℕ) (first : Result (Unit {0}) MasterFault) → is_answered first ≡ false
    → IsDone trips now place wanted step first between
    → (result : Result (Unit {0}) MasterFault) (later : P)
    → IsTried trips between place wanted step left result later
    → IsTried trips now place wanted step (suc left) result later
unfolding IsTried
tried-again trips now between place wanted step left first lost did result later more =
    (first, between, did, rw lost more)

tried-once : {P : Type 0} (trips : Trips P) (now between : P) (place : ℕ) (wanted : Wanted) (step : Step)
    (left : ℕ) (first : Result (Unit {0}) MasterFault) → is_answered first ≡ true
    → IsDone trips now place wanted step first between
    → IsTried trips now place wanted step (suc left) first between
unfolding IsTried
tried-once trips now between place wanted step left first there did =
    (first, between, did, rw there (refl, refl))

tried-last : {P : Type 0} (trips : Trips P) (now between : P) (place : ℕ) (wanted : Wanted) (step : Step)
    (first : Result (Unit {0}) MasterFault) → IsDone trips now place wanted step first between
    → IsTried trips now place wanted step 0 first between
unfolding IsTried
tried-last trips now between place wanted step first did = did

pub tries_on : {P : Type 0} (trips : Trips P) (start now between : P) (place : ℕ) (wanted : Wanted)
    (step : Step)
    (all left less : ℕ) (first : Result (Unit {0}) MasterFault)
    → TriesOn trips start now place wanted step all left → left ≡ suc less
    → is_answered first ≡ false → IsDone trips now place wanted step first between
    → TriesOn trips start between place wanted step all less
tries_on trips start now between place wanted step all left less first so_far is lost did result later more =
    so_far result later
    (subst (λ (n : ℕ). IsTried trips now place wanted step n result later) (sym is)
    (tried-again trips now between place wanted step less first lost did result later more))

pub tries_end : {P : Type 0} (trips : Trips P) (start now between : P) (place : ℕ) (wanted : Wanted)
    (step : Step)
    (all left less : ℕ) (first : Result (Unit {0}) MasterFault)
    → TriesOn trips start now place wanted step all left → left ≡ suc less
    → is_answered first ≡ true → IsDone trips now place wanted step first between
    → IsTried trips start place wanted step all first between
tries_end trips start now between place wanted step all left less first so_far is there did =
    so_far first between
    (subst (λ (n : ℕ). IsTried trips now place wanted step n first between) (sym is)
    (tried-once trips now between place wanted step less first there did))

pub tries_last : {P : Type 0} (trips : Trips P) (start now between : P) (place : ℕ) (wanted : Wanted)
    (step : Step)
    (all left : ℕ) (first : Result (Unit {0}) MasterFault)
    → TriesOn trips start now place wanted step all left → left ≡ 0
    → IsDone trips now place wanted step first between
    → IsTried trips start place wanted step all first between
tries_last trips start now between place wanted step all left first so_far is did =
    so_far first between
    (subst (λ (n : ℕ). IsTried trips now place wanted step n first between) (sym is)
    (tried-last trips now between place wanted step first did))

-- ---- lists that are gone through

-- what is left begins with the element at the place
pub left_is : {X : Type 0} (xs : List X) (k : ℕ) (d : X) → k < length xs
    → drop k xs ≡ get_or xs k d ∷ drop (k + 1) xs
left_is xs k d inside =
    drop-cons xs k d inside
    ∙ ap (λ (n : ℕ). get_or xs k d ∷ drop n xs) (let e : suc k ≡ k + 1 = omega arith in e)

-- and past the last place nothing is left
pub left_none : {X : Type 0} (xs : List X) (k : ℕ) → length xs ≤ k → drop k xs ≡ []
left_none xs k past = drop_all k xs past

-- ---- steps with one slave

abbrev pub DoesOn : {P : Type 0} → Trips P → P → P → ℕ → Wanted → List Step → List Step → Type 0
DoesOn {P} trips start now place wanted all left =
    (result : Result (Unit {0}) StepFault) (later : P) → AreDone trips now place wanted left result later
    → AreDone trips start place wanted all result later

done-next : {P : Type 0} (trips : Trips P) (now between later : P) (place : ℕ) (wanted : Wanted) (step : Step)
    (rest : List Step) (result : Result (Unit {0}) StepFault)
    → IsTried trips now place wanted step MORE_TRIES (Ok tt) between
    → AreDone trips between place wanted rest result later
    → AreDone trips now place wanted (step ∷ rest) result later
unfolding AreDone
done-next trips now between later place wanted step rest result did more = (Ok tt, between, did, more)

done-fault : {P : Type 0} (trips : Trips P) (now between : P) (place : ℕ) (wanted : Wanted) (step : Step)
    (rest : List Step) (fault : MasterFault)
    → IsTried trips now place wanted step MORE_TRIES (Err fault) between
    → AreDone trips now place wanted (step ∷ rest)
    (Err (record { place = place; station = wanted.station; step = step; fault = fault })) between
unfolding AreDone
done-fault trips now between place wanted step rest fault did = (Err fault, between, did, (refl, refl))

done-none : {P : Type 0} (trips : Trips P) (now : P) (place : ℕ) (wanted : Wanted)
    → AreDone trips now place wanted [] (Ok tt) now
unfolding AreDone
done-none trips now place wanted = (refl, refl)

pub does_on : {P : Type 0} (trips : Trips P) (start now between : P) (place : ℕ) (wanted : Wanted)
    (all left rest : List Step) (step : Step) → DoesOn trips start now place wanted all left
    → left ≡ step ∷ rest
    → IsTried trips now place wanted step MORE_TRIES (Ok tt) between
    → DoesOn trips start between place wanted all rest
does_on trips start now between place wanted all left rest step so_far is did result later more =
    so_far result later
    (subst (λ (ss : List Step). AreDone trips now place wanted ss result later) (sym is)
    (done-next trips now between later place wanted step rest result did more))

pub does_fault : {P : Type 0} (trips : Trips P) (start now between : P) (place : ℕ) (wanted : Wanted)
    (all left rest : List Step) (step : Step) (fault : MasterFault)
    → DoesOn trips start now place wanted all left → left ≡ step ∷ rest
    → IsTried trips now place wanted step MORE_TRIES (Err fault) between
    → AreDone trips start place wanted all
    (Err (record { place = place; station = wanted.station; step = step; fault = fault })) between
does_fault trips start now between place wanted all left rest step fault so_far is did =
    let result : Result (Unit {0}) StepFault =
    Err (record { place = place; station = wanted.station; step = step; fault = fault }) in
    so_far result between
    (subst (λ (ss : List Step). AreDone trips now place wanted ss result between) (sym is)
    (done-fault trips now between place wanted step rest fault did))

pub does_all : {P : Type 0} (trips : Trips P) (start now : P) (place : ℕ) (wanted : Wanted)
    (all left : List Step) → DoesOn trips start now place wanted all left → left ≡ []
    → AreDone trips start place wanted all (Ok tt) now
does_all trips start now place wanted all left so_far is =
    so_far (Ok tt) now
    (subst (λ (ss : List Step). AreDone trips now place wanted ss (Ok tt) now) (sym is)
    (done-none trips now place wanted))

-- ---- one slave after the other

abbrev pub BringsOn : {P : Type 0} → Trips P → P → P → ℕ → ℕ → List Wanted → List Wanted → List Step → Type 0
BringsOn {P} trips start now first place all left steps =
    (result : Result (Unit {0}) StepFault) (later : P) → Brings trips now place left steps result later
    → Brings trips start first all steps result later

brings-next : {P : Type 0} (trips : Trips P) (now between later : P) (place : ℕ) (wanted : Wanted)
    (rest : List Wanted) (steps : List Step) (result : Result (Unit {0}) StepFault)
    → AreDone trips now place wanted steps (Ok tt) between
    → Brings trips between (place + 1) rest steps result later
    → Brings trips now place (wanted ∷ rest) steps result later
unfolding Brings
brings-next trips now between later place wanted rest steps result did more = (Ok tt, between, did, more)

brings-fault : {P : Type 0} (trips : Trips P) (now between : P) (place : ℕ) (wanted : Wanted)
    (rest : List Wanted) (steps : List Step) (fault : StepFault)
    → AreDone trips now place wanted steps (Err fault) between
    → Brings trips now place (wanted ∷ rest) steps (Err fault) between
unfolding Brings
brings-fault trips now between place wanted rest steps fault did = (Err fault, between, did, (refl, refl))

brings-none : {P : Type 0} (trips : Trips P) (now : P) (place : ℕ) (steps : List Step)
    → Brings trips now place [] steps (Ok tt) now
unfolding Brings
brings-none trips now place steps = (refl, refl)

pub brings_on : {P : Type 0} (trips : Trips P) (start now between : P) (first place : ℕ)
    (all left rest : List Wanted) (steps : List Step) (wanted : Wanted)
    → BringsOn trips start now first place all left steps → left ≡ wanted ∷ rest
    → AreDone trips now place wanted steps (Ok tt) between
    → BringsOn trips start between first (place + 1) all rest steps
brings_on trips start now between first place all left rest steps wanted so_far is did result later more =
    so_far result later
    (subst (λ (ws : List Wanted). Brings trips now place ws steps result later) (sym is)
    (brings-next trips now between later place wanted rest steps result did more))

pub brings_fault : {P : Type 0} (trips : Trips P) (start now between : P) (first place : ℕ)
    (all left rest : List Wanted) (steps : List Step) (wanted : Wanted) (fault : StepFault)
    → BringsOn trips start now first place all left steps → left ≡ wanted ∷ rest
    → AreDone trips now place wanted steps (Err fault) between
    → Brings trips start first all steps (Err fault) between
brings_fault trips start now between first place all left rest steps wanted fault so_far is did =
    so_far (Err fault) between
    (subst (λ (ws : List Wanted). Brings trips now place ws steps (Err fault) between) (sym is)
    (brings-fault trips now between place wanted rest steps fault did))

pub brings_all : {P : Type 0} (trips : Trips P) (start now : P) (first place : ℕ)
    (all left : List Wanted) (steps : List Step)
    → BringsOn trips start now first place all left steps → left ≡ []
    → Brings trips start first all steps (Ok tt) now
brings_all trips start now first place all left steps so_far is =
    so_far (Ok tt) now
    (subst (λ (ws : List Wanted). Brings trips now place ws steps (Ok tt) now) (sym is)
    (brings-none trips now place steps))
