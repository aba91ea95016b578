-- What a slave is once its lent controller comes back.
use Rattle.std.specs.Borrow.{Lends, Fml, MutBor}
use Rattle.ec_app.specs.State.{SlaveState}
use Rattle.ec_app.specs.contracts.slave.Slave.{the_row}
use Rattle.ec_esc.specs.State.{ControllerState}
use Rattle.ec_esc.specs.contracts.controller.Controller.{the_row as controller_row}

-- a slave with this controller, its application as before
abbrev pub with_controller : SlaveState → ControllerState → SlaveState
with_controller s c = record s { controller = c }

-- once the borrow r ends, the slave's controller is what was last behind r, and its application is as before
abbrev pub LendsController : MutBor SlaveState → MutBor ControllerState → Fml
LendsController slave r = Lends the_row controller_row slave r (with_controller slave.now)
