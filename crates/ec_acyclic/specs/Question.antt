-- One question of a service with a slave, what it told, and what goes out next (IEC 61158-6-12, SDO services,
-- AL management).
use Rattle.std.specs.Prelude.{◌≡◌, ℕ, Option, None, Some, Result, Ok, Err}
use Rattle.ec_app.specs.declared.value.Value.{Value as ObjectValue}
use Rattle.ec_regs.specs.declared.al.AlState.{AlState}
use Rattle.ec_regs.specs.declared.al.AlStatus.{AlStatus}
use Rattle.ec_master.specs.Ports.{Trips}
use Rattle.ec_services.specs.Acknowledgement.{error_question, status_by}
use Rattle.ec_services.specs.Ask.{IsAsked, done, write}
use Rattle.ec_services.specs.Course.{IsTold}
use Rattle.ec_services.specs.States.{control_write, status_question, status_read}
use Rattle.ec_services.specs.Surely.{GoesOn}
use Rattle.ec_services.specs.Transfer.{downloading, uploading}
use Rattle.ec_services.specs.declared.fault.MasterFault.{MasterFault}
use Rattle.ec_services.specs.declared.fault.MasterFault.TheVariants.{NoSlave}
use Rattle.ec_services.specs.declared.surely.Progress.{Progress}
use Rattle.ec_acyclic.specs.declared.next.Next.{Next}
use Rattle.ec_acyclic.specs.declared.next.Next.TheVariants.{NoMailboxes, Upload, Download, Request, Reached}
use Rattle.ec_acyclic.specs.declared.next.Next.TheVariants.{InWhich, Acknowledge, Cleared}
use Rattle.ec_acyclic.specs.declared.next.Reply.{Reply}
use Rattle.ec_acyclic.specs.declared.service.Answer.{Answer}
use Rattle.ec_acyclic.specs.declared.service.Answer.TheVariants.{Value, Written, In}

-- ---- what is told: the answer, nothing yet, or a fault
abbrev pub Told : Type 0
Told = Result (Option Answer) MasterFault

abbrev pub as_value : Result (Option ObjectValue) MasterFault → Told
as_value (Err fault) = Err fault
as_value (Ok None) = Ok None
as_value (Ok (Some value)) = Ok (Some (Value value))

abbrev pub as_written : Result (Option (Unit {0})) MasterFault → Told
as_written (Err fault) = Err fault
as_written (Ok None) = Ok None
as_written (Ok (Some stored)) = Ok (Some Written)

abbrev pub as_state : Result (Option AlState) MasterFault → Told
as_state (Err fault) = Err fault
as_state (Ok None) = Ok None
as_state (Ok (Some state)) = Ok (Some (In state))

abbrev pub as_reached : AlState → Result (Option (Unit {0})) MasterFault → Told
as_reached state (Err fault) = Err fault
as_reached state (Ok None) = Ok None
as_reached state (Ok (Some there)) = Ok (Some (In state))

abbrev pub reply : Told → Next → Reply
reply told next = record { told = told; next = next }

-- a write that was done tells nothing yet, and something else goes out next; one that was not goes out again
abbrev pub behind_write : Next → Next → Result (Unit {0}) MasterFault → Reply
behind_write again next (Err fault) = reply (Err fault) again
behind_write again next (Ok written) = reply (Ok None) next

-- so it is with AL status: the state that it tells is acknowledged next
abbrev pub behind_look : Result AlStatus MasterFault → Reply
behind_look (Err fault) = reply (Err fault) InWhich
behind_look (Ok status) = reply (Ok None) (Acknowledge status.state)

-- ---- the questions

-- one trip more by which an object is read
abbrev pub IsUpload : {P : Type 0} → Trips P → P → ℕ → ℕ → Progress → Reply → P → Type 0
IsUpload trips before index sub known replied later =
    (value : Result (Option ObjectValue) MasterFault) × (known_later : Progress)
    × GoesOn trips before (uploading index sub) known value known_later later
    × (replied ≡ reply (as_value value) (Upload index sub known_later))

-- one by which an object is written
abbrev pub IsDownload : {P : Type 0} → Trips P → P → ℕ → ℕ → ObjectValue → Progress → Reply → P → Type 0
IsDownload trips before index sub value known replied later =
    (stored : Result (Option (Unit {0})) MasterFault) × (known_later : Progress)
    × GoesOn trips before (downloading index sub value) known stored known_later later
    × (replied ≡ reply (as_written stored) (Download index sub value known_later))

-- AL control is written, and whether the slave comes to the state is asked next
abbrev pub IsRequest : {P : Type 0} → Trips P → P → ℕ → AlState → Reply → P → Type 0
IsRequest trips before station state replied later =
    (written : Result (Unit {0}) MasterFault)
    × IsAsked trips before (write {A = Unit {0}} (control_write station state)) (done written) later
    × (replied ≡ behind_write (Request state) (Reached state) written)

-- AL status is read, until the slave is in the state
abbrev pub IsReaching : {P : Type 0} → Trips P → P → ℕ → AlState → Reply → P → Type 0
IsReaching trips before station state replied later =
    (reached : Result (Option (Unit {0})) MasterFault)
    × IsAsked trips before (status_question station state) reached later
    × (replied ≡ reply (as_reached state reached) (Reached state))

-- AL status is read, which tells the state in which the error is acknowledged
abbrev pub IsLook : {P : Type 0} → Trips P → P → ℕ → Reply → P → Type 0
IsLook trips before station replied later =
    (status : Result AlStatus MasterFault)
    × IsTold trips before (status_read station) status_by status later
    × (replied ≡ behind_look status)

-- AL control is written, and whether the error is gone is asked next
abbrev pub IsAcknowledging : {P : Type 0} → Trips P → P → ℕ → AlState → Reply → P → Type 0
IsAcknowledging trips before station state replied later =
    (written : Result (Unit {0}) MasterFault)
    × IsAsked trips before (write {A = Unit {0}} (control_write station state)) (done written) later
    × (replied ≡ behind_write (Acknowledge state) Cleared written)

-- AL status is read, until the error is gone
abbrev pub IsClearing : {P : Type 0} → Trips P → P → ℕ → Reply → P → Type 0
IsClearing trips before station replied later =
    (cleared : Result (Option AlState) MasterFault)
    × IsAsked trips before (error_question station) cleared later
    × (replied ≡ reply (as_state cleared) Cleared)

-- what goes out next is asked of the slave with a station address
abbrev pub IsQuestion : {P : Type 0} → Trips P → P → ℕ → Next → Reply → P → Type 0
IsQuestion trips before station NoMailboxes replied later =
    (replied ≡ reply (Err NoSlave) NoMailboxes) × (later ≡ before)
IsQuestion trips before station (Upload index sub known) replied later =
    IsUpload trips before index sub known replied later
IsQuestion trips before station (Download index sub value known) replied later =
    IsDownload trips before index sub value known replied later
IsQuestion trips before station (Request state) replied later =
    IsRequest trips before station state replied later
IsQuestion trips before station (Reached state) replied later =
    IsReaching trips before station state replied later
IsQuestion trips before station InWhich replied later = IsLook trips before station replied later
IsQuestion trips before station (Acknowledge state) replied later =
    IsAcknowledging trips before station state replied later
IsQuestion trips before station Cleared replied later = IsClearing trips before station replied later
