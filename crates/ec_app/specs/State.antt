-- A slave is its controller and its application, which keeps the object dictionary, the counter of the last
-- good mail and the lengths of the process data that it works with (IEC 61158-6-12, application layer of a
-- slave).
use Rattle.std.specs.Prelude.{ℕ, Bool, Option, List}
use Rattle.ec_app.specs.declared.objects.Entry.{Entry}
use Rattle.ec_esc.specs.State.{ControllerState}

-- the objects; the counter of the last good mail that was taken, if there is one; the lengths of outputs and
-- of inputs in bytes; and whether the application is that of a simple slave, which asks for no mailbox
pub record ApplicationState : Type 0 where
  pub objects : List Entry
  pub kept : Option ℕ
  pub out_length : ℕ
  pub in_length : ℕ
  pub simple : Bool

-- a slave's controller and its application
pub record SlaveState : Type 0 where
  pub controller : ControllerState
  pub application : ApplicationState
