-- What a talk comes to where it is known what each answer decides.
use Rattle.std.proofs.Common.{◌≡◌, List, ◌∷◌, Option, None, Some, Result, Ok, Err, subst}
use Rattle.ec_master.specs.Ports.{Trips}
use Rattle.ec_services.specs.Ask.{Answer, Asks, Question, IsAsked, Talks}
use Rattle.ec_services.specs.declared.fault.MasterFault.{MasterFault}

-- what is left of a talk behind what an answer decided
abbrev pub Rest : {P A : Type 0} → Trips P → P → List (Question A) → Result A MasterFault
    → Result A MasterFault → P
    → Result (Option A) MasterFault → Type 0
Rest trips between rest undecided result later (Err fault) = (result ≡ Err fault) × (later ≡ between)
Rest trips between rest undecided result later (Ok (Some value)) = (result ≡ Ok value) × (later ≡ between)
Rest trips between rest undecided result later (Ok None) = Talks trips between rest undecided result later

-- the first question of a talk
pub record IsBegun {P A : Type 0} (trips : Trips P) (before : P) (q : Question A) (rest : List (Question A))
    (undecided result : Result A MasterFault) (later : P) : Type 0 where
  pub answer : Answer
  pub between : P
  pub asks : Asks trips before q.sent answer between
  pub left : Rest trips between rest undecided result later (q.decides answer)

rest_of : {P A : Type 0} (trips : Trips P) (before between : P) (q : Question A) (rest : List (Question A))
    (undecided result : Result A MasterFault) (later : P) (decided : Result (Option A) MasterFault)
    → IsAsked trips before q decided between → Rest trips between rest undecided result later decided
    → IsBegun trips before q rest undecided result later
rest_of trips before between q rest undecided result later decided asked left = record {
  answer = asked.answer;
  between = between;
  asks = asked.asks;
  left = subst (Rest trips between rest undecided result later) asked.decides left;
}

pub begun : {P A : Type 0} (trips : Trips P) (before : P) (q : Question A) (rest : List (Question A))
    (undecided result : Result A MasterFault) (later : P) → Talks trips before
    (q ∷ rest) undecided result later
    → IsBegun trips before q rest undecided result later
unfolding Talks
begun trips before q rest undecided result later (Err fault, between, asked, left) =
    rest_of trips before between q rest undecided result later (Err fault) asked left
begun trips before q rest undecided result later (Ok (Some value), between, asked, left) =
    rest_of trips before between q rest undecided result later (Ok (Some value)) asked left
begun trips before q rest undecided result later (Ok None, between, asked, left) =
    rest_of trips before between q rest undecided result later (Ok None) asked left

-- it goes on where the answer decides nothing
pub goes_on : {P A : Type 0} (trips : Trips P) (before : P) (q : Question A) (rest : List (Question A))
    (undecided result : Result A MasterFault) (later : P)
    (talk : IsBegun trips before q rest undecided result later) → q.decides talk.answer ≡ Ok None
    → Talks trips talk.between rest undecided result later
goes_on trips before q rest undecided result later talk none =
    subst (Rest trips talk.between rest undecided result later) none talk.left

-- a result, as an answer decides it
abbrev pub decided_as : {A : Type 0} → Result A MasterFault → Result (Option A) MasterFault
decided_as (Err fault) = Err fault
decided_as (Ok value) = Ok (Some value)

-- it ends where the answer decides the result
pub ends : {P A : Type 0} (trips : Trips P) (before : P) (q : Question A) (rest : List (Question A))
    (undecided result : Result A MasterFault) (later : P)
    (talk : IsBegun trips before q rest undecided result later) (value : Result A MasterFault)
    → q.decides talk.answer ≡ decided_as value → (result ≡ value) × (later ≡ talk.between)
ends trips before q rest undecided result later talk (Err fault) is =
    subst (Rest trips talk.between rest undecided result later) is talk.left
ends trips before q rest undecided result later talk (Ok value) is =
    subst (Rest trips talk.between rest undecided result later) is talk.left
