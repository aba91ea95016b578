-- A slave is asked for a state of its application layer (IEC 61158-6-12, AL management): AL control is
-- written, and AL status is read until the slave is in that state or refuses.
use Rattle.std.specs.Prelude.{ℕ, ◌+◌, ◌%◌, ◌==◌, nat_lt, Option, None, Some, [], ◌∷◌, drop, replicate}
use Rattle.std.specs.Prelude.{Result, Ok, Err, slice_index}
use Rattle.std.specs.Int.{w16, from_le_bytes}
use Rattle.ec_wire.specs.Datagram.{DatagramRecord, address_of}
use Rattle.ec_wire.specs.declared.command.Command.TheVariants.{Fprd, Fpwr}
use Rattle.ec_regs.specs.Al.{code_of, status_of}
use Rattle.ec_regs.specs.declared.al.AlState.{AlState}
use Rattle.ec_regs.specs.declared.registers.TheConstants.{AL_CONTROL, AL_STATUS}
use Rattle.ec_app.specs.Table.{first_fitting}
use Rattle.ec_master.specs.Ports.{Trips}
use Rattle.ec_services.specs.Ask.{request, Answer, told_by, Question, Talks, write}
use Rattle.ec_services.specs.declared.fault.MasterFault.{MasterFault}
use Rattle.ec_services.specs.declared.fault.MasterFault.TheVariants.{NoSlave, Refused, NoAnswer, BadAnswer}

-- the state is asked for, and a standing error is acknowledged
abbrev pub control_write : ℕ → AlState → DatagramRecord
control_write station state = request Fpwr (address_of station AL_CONTROL) ((code_of state + 16) ∷ 0 ∷ [])

-- AL status, two reserved bytes and the AL status code are read
abbrev pub status_read : ℕ → DatagramRecord
status_read station = request Fprd (address_of station AL_STATUS) (replicate 6 0)

-- what AL status decides for one who asked for a state: no slave or more than one answered, the slave refused
-- with a code, or it is in that state
abbrev pub status_decides : AlState → Answer → Result (Option (Unit {0})) MasterFault
status_decides state (Err fault) = Err fault
status_decides state (Ok back) =
    let status = told_by back in
    first_fitting
    ((status.counter == 0, Err NoSlave)
    ∷ (nat_lt 1 status.counter, Err BadAnswer)
    ∷ (
      (status_of (slice_index status.payload 0)).error,
      Err (Refused (from_le_bytes w16 (drop 4 status.payload))),
    )
    ∷ (slice_index status.payload 0 % 16 == code_of state, Ok (Some tt))
    ∷ []) (Ok None)

abbrev pub status_question : ℕ → AlState → Question (Unit {0})
status_question station state = record { sent = status_read station; decides = status_decides state }

-- the service: one write, and then at most `limit` reads
abbrev pub IsRequested : {P : Type 0} → Trips P → P → ℕ → AlState → ℕ → Result (Unit {0}) MasterFault → P
    → Type 0
IsRequested trips before station state limit result later =
    Talks trips before (write (control_write station state) ∷ replicate limit (status_question station state))
    (Err NoAnswer) result later
