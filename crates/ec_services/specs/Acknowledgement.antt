-- An error of a slave's application layer is acknowledged (IEC 61158-6-12, AL management): AL status is read,
-- the state that the slave is in is asked for with the acknowledgement, and AL status is read until the error
-- is gone.
use Rattle.std.specs.Prelude.{◌≡◌, ℕ, ◌==◌, nat_lt, if◌then◌else◌, Option, None, Some, [], ◌∷◌, replicate}
use Rattle.std.specs.Prelude.{Result, Ok, Err, slice_index}
use Rattle.ec_regs.specs.Al.{status_of}
use Rattle.ec_regs.specs.declared.al.AlState.{AlState}
use Rattle.ec_regs.specs.declared.al.AlStatus.{AlStatus}
use Rattle.ec_app.specs.Table.{first_fitting}
use Rattle.ec_master.specs.Ports.{Trips}
use Rattle.ec_services.specs.Ask.{Answer, told_by, Question, Talks, write}
use Rattle.ec_services.specs.Course.{IsTold}
use Rattle.ec_services.specs.States.{control_write, status_read}
use Rattle.ec_services.specs.declared.fault.MasterFault.{MasterFault}
use Rattle.ec_services.specs.declared.fault.MasterFault.TheVariants.{NoSlave, NoAnswer, BadAnswer}

-- the AL status that an answer tells, where exactly one slave answered
abbrev pub status_by : Answer → Result AlStatus MasterFault
status_by (Err fault) = Err fault
status_by (Ok back) =
    let status = told_by back in
    first_fitting
    ((status.counter == 0, Err NoSlave)
    ∷ (nat_lt 1 status.counter, Err BadAnswer)
    ∷ []) (Ok (status_of (slice_index status.payload 0)))

-- without the error the slave's state is the result
abbrev pub unless_error : Result AlStatus MasterFault → Result (Option AlState) MasterFault
unless_error (Err fault) = Err fault
unless_error (Ok status) = Ok (if status.error then None else Some status.state)

abbrev pub error_question : ℕ → Question AlState
error_question station = record {
  sent = status_read station;
  decides = λ answer. unless_error (status_by answer);
}

-- unless the first read failed: one write, and then at most `limit` reads
abbrev pub ThenAcknowledges : {P : Type 0} → Trips P → P → ℕ → Result AlStatus MasterFault → ℕ
    → Result AlState MasterFault → P → Type 0
ThenAcknowledges trips between station (Err fault) limit result later =
    (result ≡ Err fault) × (later ≡ between)
ThenAcknowledges trips between station (Ok status) limit result later =
    Talks trips between
    (write (control_write station status.state) ∷ replicate limit (error_question station)) (Err NoAnswer)
    result later

-- the service
pub record IsAcknowledged {P : Type 0} (trips : Trips P) (before : P) (station limit : ℕ)
    (result : Result AlState MasterFault) (later : P) : Type 0 where
  pub status : Result AlStatus MasterFault
  pub between : P
  pub reading : IsTold trips before (status_read station) status_by status between
  pub acknowledging : ThenAcknowledges trips between station status limit result later
