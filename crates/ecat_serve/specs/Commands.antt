-- A service with commands: rounds as those of a service without, and between two of them a command that
-- changes the line. A command is what somebody does to a line who works on it: its cables and its lost
-- copies, process memory and states of its slaves (IEC 61158-6-12, AL status).
use Rattle.std.specs.Prelude.{◌≡◌, ◌≢◌, ◌⊎◌, ℕ, zero, suc, ◌+◌, ◌-◌, ◌^◌, ◌<◌, ◌≤◌, Bool, List, length, min}
use Rattle.std.specs.Prelude.{Result, Ok, Err, Some, true, false, slice_get}
use Rattle.ec_app.specs.Slave.{restarted}
use Rattle.ec_app.specs.State.{SlaveState}
use Rattle.ec_esc.specs.State.{ControllerState}
use Rattle.ec_regs.specs.declared.al.AlState.{AlState}
use Rattle.ec_regs.specs.declared.registers.TheConstants.{MEMORY_SIZE, PROCESS_MEMORY}
use Rattle.ec_ring.specs.Links.{is_up}
use Rattle.ec_ring.specs.declared.port.Port.{Port}
use Rattle.ec_ring.specs.declared.port.PortFault.{PortFault}
use Rattle.ecat_serve.specs.Bench.{Changes, loaded, put_in, with_error, with_links, IsBegun}
use Rattle.ecat_serve.specs.Ends.{Calls}
use Rattle.ecat_serve.specs.Rounds.{Serves, Serving}
use Rattle.ecat_serve.specs.State.{ServedState, linked, losing, to_lose_at, unplugged}
use Rattle.ecat_serve.specs.declared.served.Counts.{Counts}

-- ---- one command

-- what a slave's AL status becomes: a state with no error, or an error of its application, with its code
pub data Becomes : Type 0 where
  State : (state : AlState) → Becomes
  Error : (code : ℕ) → Becomes

abbrev pub with_status : Becomes → SlaveState → SlaveState
with_status (State state) = put_in state
with_status (Error code) = with_error code

pub data Command : Type 0 where
  -- it asks for something, or is refused, and changes nothing
  Nothing : Command
  -- a link is put up or down
  Link : (number : ℕ) (up : Bool) → Command
  -- the slave at a place has these bytes in its process memory, and shows them
  Load : (place address : ℕ) (bytes : List ℕ) → Command
  -- its AL status is another one
  Status : (place : ℕ) (becomes : Becomes) → Command
  -- the power of the slave at a place is switched off, or on
  Power : (place : ℕ) (on : Bool) → Command
  -- so many more of the copies that arrive at an end are to be lost
  Lose : (at : Port) (count : ℕ) → Command
  -- nobody has spoken at an end, which at end B takes the last link away
  Unplug : (at : Port) → Command

-- one link of the line is put, which the slaves beside it tell, and all else stays
pub record IsPut (before : ServedState) (number : ℕ) (up : Bool) (later : ServedState) : Type 0 where
  pub on_line : number ≤ length before.ring.slaves
  pub at : is_up later.ring.links number ≡ up
  pub others : (k : ℕ) → k ≢ number → is_up later.ring.links k ≡ is_up before.ring.links k
  pub stays : later ≡ linked (with_links before later.ring.links)

-- both links beside a slave are put, which slaves tell, and all else stays: no frame gets past a slave
-- without power
pub record ArePut (before : ServedState) (place : ℕ) (up : Bool) (later : ServedState) : Type 0 where
  pub on_line : place < length before.ring.slaves
  pub ahead : is_up later.ring.links place ≡ up
  pub behind : is_up later.ring.links (place + 1) ≡ up
  pub others : (k : ℕ) → k ≢ place → k ≢ place + 1
      → is_up later.ring.links k ≡ is_up before.ring.links k
  pub stays : later ≡ linked (with_links before later.ring.links)

-- a slave whose power came back begins anew, and then both links beside it are up
pub record IsBack (before : ServedState) (place : ℕ) (later : ServedState) : Type 0 where
  pub slave : SlaveState
  pub controller : ControllerState
  pub begun : ServedState
  pub there : slice_get before.ring.slaves place ≡ Some slave
  pub begins : IsBegun slave.controller controller
  pub changes : Changes before place (restarted controller) begun
  pub links : ArePut begun place true later

-- power that is switched on, or off
abbrev pub IsPowered : Bool → ServedState → ℕ → ServedState → Type 0
IsPowered true before place later = IsBack before place later
IsPowered false before place later = ArePut before place false later

-- bytes of process memory are loaded
pub record IsLoaded (before : ServedState) (place address : ℕ) (bytes : List ℕ) (later : ServedState) : Type 0
  where
    pub from : PROCESS_MEMORY ≤ address
    pub to : address + length bytes ≤ MEMORY_SIZE
    pub changes : Changes before place (loaded address bytes) later

-- what a command leaves of a line
abbrev pub Leaves : Command → ServedState → ServedState → Type 0
Leaves Nothing before later = later ≡ before
Leaves (Link number up) before later = IsPut before number up later
Leaves (Load place address bytes) before later = IsLoaded before place address bytes later
Leaves (Status place becomes) before later = Changes before place (with_status becomes) later
Leaves (Power place on) before later = IsPowered on before place later
Leaves (Lose at count) before later =
    later ≡ losing before at (min (to_lose_at before at + count) (2 ^ 64 - 1))
Leaves (Unplug at) before later = later ≡ unplugged before at

-- a line behind one command
abbrev pub IsCommanded : ServedState → ServedState → Type 0
IsCommanded before later = (command : Command) × Leaves command before later

-- ---- the service

abbrev pub packets : Counts → ℕ
packets counts = counts.frames + counts.dropped

-- packets are served until there were so many, no more are to come at once, or a call fails; then, if there
-- were not so many yet, a command comes, behind which the service ends or goes on; so many commands at the
-- most. Packets are counted on from `counts`, and nothing is stated of the ends behind a command
unfoldable pub ServesCommanded : {E : Type 0} → Calls E → ℕ → ℕ → Counts → Serving E
    → Result Counts PortFault → Serving E → Type 0
ServesCommanded calls most zero counts before result later = (result ≡ Ok counts) × (later ≡ before)
ServesCommanded {E} calls most (suc commands) counts before result later =
    (came : Result Counts PortFault) × (between : Serving E)
    × Serves calls (most - packets counts) counts before came between
    × (elim came [
      | Err fault ↦ (result ≡ Err fault) × (later ≡ between)
      | Ok told ↦
          ((most ≤ packets told) × (result ≡ Ok told) × (later ≡ between))
          ⊎ ((packets told < most) × (commanded : Serving E) × IsCommanded between.line commanded.line
          × (((result ≡ Ok told) × (later ≡ commanded))
          ⊎ ServesCommanded calls most commands told commanded result later))
    ])
