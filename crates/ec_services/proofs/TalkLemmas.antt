-- One question after the other.
use Rattle.std.proofs.Common.{◌≡◌, ℕ, suc, ◌+◌, ◌-◌, ◌<◌, sym, ap, refl, ◌∙◌, subst, arith}
use Rattle.std.proofs.Common.{List, [], ◌∷◌, Option, None, Some, Result, Ok, Err, replicate, Bool, true}
use Rattle.std.proofs.Common.{false, cond, ◌==◌, nat_lt}
use Rattle.ec_wire.specs.Datagram.{DatagramRecord}
use Rattle.ec_master.specs.Ports.{Trips}
use Rattle.ec_services.specs.Ask.{Answer, told_by, Question, IsAsked, Talks, write, write_decides, done}
use Rattle.ec_services.specs.Stations.{station_write, station_writes}
use Rattle.ec_services.specs.declared.fault.MasterFault.{MasterFault}
use Rattle.ec_services.specs.declared.fault.MasterFault.TheVariants.{NoSlave, BadAnswer}

-- a question that decides nothing goes before the others, and one that decides ends them
pub talks_next : {P A : Type 0} (trips : Trips P) (before between later : P) (q : Question A)
    (rest : List (Question A))
    (undecided result : Result A MasterFault) → IsAsked trips before q (Ok None) between
    → Talks trips between rest undecided result later → Talks trips before (q ∷ rest) undecided result later
unfolding Talks
talks_next trips before between later q rest undecided result asked talk = (Ok None, between, asked, talk)

pub talks_told : {P A : Type 0} (trips : Trips P) (before between : P) (q : Question A) (rest : List
    (Question A))
    (undecided : Result A MasterFault) (value : A) → IsAsked trips before q (Ok (Some value)) between
    → Talks trips before (q ∷ rest) undecided (Ok value) between
unfolding Talks
talks_told trips before between q rest undecided value asked = (Ok (Some value), between, asked, (refl, refl))

pub talks_fault : {P A : Type 0} (trips : Trips P) (before between : P) (q : Question A) (rest : List
    (Question A))
    (undecided : Result A MasterFault) (fault : MasterFault) → IsAsked trips before q (Err fault) between
    → Talks trips before (q ∷ rest) undecided (Err fault) between
unfolding Talks
talks_fault trips before between q rest undecided fault asked = (Err fault, between, asked, (refl, refl))

pub talks_none : {P A : Type 0} (trips : Trips P) (now : P) (undecided : Result A MasterFault)
    → Talks trips now [] undecided undecided now
unfolding Talks
talks_none trips now undecided = (refl, refl)

-- ---- the talk so far

-- what the questions that are left come to, from the ports as they are now, is what all come to
abbrev pub GoesOn : {P A : Type 0} → Trips P → P → P → List (Question A) → List (Question A)
    → Result A MasterFault
    → Type 0
GoesOn {P} {A} trips start now all left undecided =
    (result : Result A MasterFault) (later : P) → Talks trips now left undecided result later
    → Talks trips start all undecided result later

pub goes_on : {P A : Type 0} (trips : Trips P) (start now between : P) (all left rest : List
    (Question A)) (q : Question A)
    (undecided : Result A MasterFault) → GoesOn trips start now all left undecided → left ≡ q ∷ rest
    → IsAsked trips now q (Ok None) between → GoesOn trips start between all rest undecided
goes_on trips start now between all left rest q undecided so_far is asked result later talk =
    so_far result later
    (subst (λ qs. Talks trips now qs undecided result later) (sym is)
    (talks_next trips now between later q rest undecided result asked talk))

pub ends_told : {P A : Type 0} (trips : Trips P) (start now between : P) (all left rest : List
    (Question A)) (q : Question A)
    (undecided : Result A MasterFault) (value : A) → GoesOn trips start now all left undecided → left
    ≡ q ∷ rest
    → IsAsked trips now q (Ok (Some value)) between → Talks trips start all undecided (Ok value) between
ends_told trips start now between all left rest q undecided value so_far is asked =
    so_far (Ok value) between
    (subst (λ qs. Talks trips now qs undecided (Ok value) between) (sym is)
    (talks_told trips now between q rest undecided value asked))

pub ends_fault : {P A : Type 0} (trips : Trips P) (start now between : P) (all left rest : List
    (Question A)) (q : Question A)
    (undecided : Result A MasterFault) (fault : MasterFault) → GoesOn trips start now all left undecided
    → left ≡ q ∷ rest
    → IsAsked trips now q (Err fault) between → Talks trips start all undecided (Err fault) between
ends_fault trips start now between all left rest q undecided fault so_far is asked =
    so_far (Err fault) between
    (subst (λ qs. Talks trips now qs undecided (Err fault) between) (sym is)
    (talks_fault trips now between q rest undecided fault asked))

pub ends_undecided : {P A : Type 0} (trips : Trips P) (start now : P) (all left : List (Question A))
    (undecided : Result A MasterFault)
    → GoesOn trips start now all left undecided → left ≡ [] → Talks trips start all undecided undecided now
ends_undecided trips start now all left undecided so_far is =
    so_far undecided now (subst (λ qs. Talks trips now qs undecided undecided now) (sym is)
    (talks_none trips now undecided))

-- one of the questions that are left, where some are
pub replicate_left : {X : Type 0} (limit k : ℕ) (x : X) → k < limit → replicate (limit - k) x ≡ x
    ∷ replicate (limit - (k + 1)) x
replicate_left limit k x inside =
    ap (λ (n : ℕ). replicate n x) (let e : limit - k ≡ suc (limit - (k + 1)) = omega arith in e)

-- ---- a write to one slave

-- what a write decides is the same in every talk
abbrev retyped : (A B : Type 0) → Result (Option A) MasterFault → Result (Option B) MasterFault
retyped A B (Err fault) = Err fault
retyped A B (Ok told) = Ok None

retyped-done : (A B : Type 0) (r : Result (Unit {0}) MasterFault) → retyped A B (done {A = A} r)
    ≡ done {A = B} r
retyped-done A B (Err fault) = refl
retyped-done A B (Ok u) = refl

retyped-rows : (A B : Type 0) (p q : Bool) (x y : MasterFault)
    → retyped A B (cond p (Err x) (cond q (Err y) (Ok None))) ≡ cond p (Err x) (cond q (Err y) (Ok None))
retyped-rows A B true q x y = refl
retyped-rows A B false true x y = refl
retyped-rows A B false false x y = refl

retyped-write : (A B : Type 0) (answer : Answer) → retyped A B (write_decides {A = A} answer)
    ≡ write_decides {A = B} answer
retyped-write A B (Err fault) = refl
retyped-write A B (Ok back) = retyped-rows A B ((told_by back).counter == 0) (nat_lt 1
    (told_by back).counter) NoSlave BadAnswer

pub write_in : {P A B : Type 0} (trips : Trips P) (before later : P) (sent : DatagramRecord) (r : Result
    (Unit {0}) MasterFault)
    → IsAsked {A = A} trips before (write sent) (done r) later → IsAsked {A =
    B} trips before (write sent) (done r) later
write_in {P} {A} {B} trips before later sent r asked = record {
  answer = asked.answer;
  asks = asked.asks;
  decides = sym (retyped-done A B r) ∙ ap (retyped A B) asked.decides ∙ retyped-write A B asked.answer;
}

-- ---- the stations that are left

pub stations_left : (first n k : ℕ) → k < n
    → station_writes k (first + k) (n - k) ≡ write (station_write k (first + k))
    ∷ station_writes (k + 1) (first + (k + 1)) (n - (k + 1))
stations_left first n k inside =
    ap (station_writes k (first + k)) (let e : n - k ≡ suc (n - (k + 1)) = omega arith in e)
    ∙ ap (λ (m : ℕ). write (station_write k (first + k)) ∷ station_writes (k + 1) m (n - (k + 1)))
    (let e : first + k + 1 ≡ first + (k + 1) = omega arith in e)
