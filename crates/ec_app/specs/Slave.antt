-- A slave's step: at most one request of the master to change its state, then at most one of its mails, on
-- the slave that the request left (IEC 61158-6-12, AL management and CoE).
pub use Rattle.ec_app.specs.State.{ApplicationState, SlaveState}
use Rattle.std.specs.Prelude.{None}
use Rattle.ec_esc.specs.State.{ControllerState}
use Rattle.ec_app.specs.AlStep.{al_step}
use Rattle.ec_app.specs.MailStep.{mail_step}

-- the slave after a step
unfoldable pub step : SlaveState → SlaveState
step s = mail_step (al_step s)

-- the slave as it begins anew with this controller: no mail has been taken
abbrev pub restarted : ControllerState → SlaveState → SlaveState
restarted c s = record { controller = c; application = record s.application { kept = None } }
