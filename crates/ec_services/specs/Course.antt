-- A service whose next question depends on what it has learned: by what is known a datagram goes out alone in
-- a frame, and its answer decides the service, or says what is known then.
use Rattle.std.specs.Prelude.{◌≡◌, ℕ, zero, suc, Option, None, Some, Result, Ok, Err}
use Rattle.ec_wire.specs.Datagram.{DatagramRecord}
use Rattle.ec_master.specs.Ports.{Trips}
use Rattle.ec_services.specs.Ask.{Answer, Asks}
use Rattle.ec_services.specs.declared.fault.MasterFault.{MasterFault}
use Rattle.ec_services.specs.declared.fault.MasterFault.TheVariants.{NoAnswer}

-- ---- one question

-- a datagram is sent, and its answer tells this
pub record IsTold {P A : Type 0} (trips : Trips P) (before : P) (sent : DatagramRecord)
    (says : Answer → Result A MasterFault) (told : Result A MasterFault) (later : P) : Type 0 where
  pub answer : Answer
  pub asks : Asks trips before sent answer later
  pub tells : told ≡ says answer

-- an answer that is there decides nothing
abbrev pub goes_on : {A : Type 0} → Answer → Result (Option A) MasterFault
goes_on (Err fault) = Err fault
goes_on (Ok back) = Ok None

-- ---- a course of questions

-- by what is known: the datagram that is sent, what its answer decides, and what is known after it
pub record Course (S A : Type 0) : Type 0 where
  pub sent : S → DatagramRecord
  pub decides : S → Answer → Result (Option A) MasterFault
  pub learns : S → Answer → S

-- one trip of a course
pub record IsStep {P S A : Type 0} (trips : Trips P) (before : P) (course : Course S A) (known : S)
    (decided : Result (Option A) MasterFault) (known_later : S) (later : P) : Type 0 where
  pub answer : Answer
  pub asks : Asks trips before (course.sent known) answer later
  pub decides : decided ≡ course.decides known answer
  pub learns : known_later ≡ course.learns known answer

-- at most so many trips, until one decides; there is no answer where none does
unfoldable pub Runs : {P S A : Type 0} → Trips P → P → Course S A → S → ℕ → Result A MasterFault → S → P
    → Type 0
Runs trips before course known zero result known_later later =
    (result ≡ Err NoAnswer) × (known_later ≡ known) × (later ≡ before)
Runs {P} {S} {A} trips before course known (suc n) result known_later later =
    (decided : Result (Option A) MasterFault) × (learned : S) × (between : P)
    × IsStep trips before course known decided learned between
    × (elim decided [
      | Err fault ↦ (result ≡ Err fault) × (known_later ≡ learned) × (later ≡ between)
      | Ok told ↦ elim told [
        | Some value ↦ (result ≡ Ok value) × (known_later ≡ learned) × (later ≡ between)
        | None ↦ Runs trips between course learned n result known_later later
      ]
    ])
