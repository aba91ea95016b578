-- What the numbers of a line may be: a field takes those below its bound and no other, each as it is.
use Rattle.std.specs.Prelude.{ℕ, nat_lt, if◌then◌else◌, List, [], ◌∷◌, Result, Ok, Err}
use Rattle.std.specs.Int.{w16, w32, from_le_bytes}
use Rattle.ec_app.specs.declared.value.Value.{Value}
use Rattle.ec_app.specs.declared.value.Value.TheVariants.{One, Two, Four}
use Rattle.ec_regs.specs.declared.fmmu.Fmmu.{Fmmu}
use Rattle.ec_regs.specs.declared.sync_man.SyncMan.{SyncMan}
use Rattle.ecat_scene.specs.declared.fault.LineFault.{LineFault}
use Rattle.ecat_scene.specs.declared.fault.LineFault.TheVariants.{OutOfRange}

-- a number as a field takes it that has room for those below this bound
abbrev pub fitting : ℕ → ℕ → Result ℕ LineFault
fitting bound number = if nat_lt number bound then Ok number else Err OutOfRange

-- an active FMMU of these numbers
abbrev pub active_fmmu : ℕ → ℕ → ℕ → ℕ → ℕ → ℕ → ℕ → Fmmu
active_fmmu logical length start stop physical bit kind = record {
  logical = logical;
  length = length;
  start = start;
  stop = stop;
  physical = physical;
  bit = bit;
  kind = kind;
  activate = 1;
  reserved = 0 ∷ 0 ∷ 0 ∷ [];
}

-- an enabled sync manager of these numbers
abbrev pub enabled_sync_man : ℕ → ℕ → ℕ → SyncMan
enabled_sync_man start length control = record {
  start = start;
  length = length;
  control = control;
  status = 0;
  activate = 1;
  pdi = 0;
}

-- the value of an object by its bytes on the wire, the lowest first
abbrev pub wire_value : List ℕ → Result Value LineFault
wire_value (a ∷ []) = Ok (One a)
wire_value (a ∷ b ∷ []) = Ok (Two (from_le_bytes w16 (a ∷ b ∷ [])))
wire_value (a ∷ b ∷ c ∷ d ∷ []) = Ok (Four (from_le_bytes w32 (a ∷ b ∷ c ∷ d ∷ [])))
wire_value _ = Err OutOfRange
