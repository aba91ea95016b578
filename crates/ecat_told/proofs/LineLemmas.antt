-- A datagram behind some controllers of a line, and the controllers then; what stays so where nothing is
-- written, and where anything may be.
use Rattle.std.proofs.Common.{◌≡◌, ℕ, zero, suc, ◌+◌, ◌*◌, ◌%◌, ◌<◌, ◌≤◌, Bool, true, false}
use Rattle.std.proofs.Common.{List, [], ◌∷◌, length, map, refl, sym, ap, ◌∙◌, arith, subst}
use Rattle.std.specs.List.{AllByRecursion}
use Rattle.ec_regs.specs.Bits.{AreBytes}
use Rattle.ec_wire.specs.Command.{writes}
use Rattle.ec_wire.specs.Datagram.{DatagramRecord, ado_of}
use Rattle.ec_wire.specs.declared.command.Command.{Command}
use Rattle.ec_merge.specs.Rule.{distance}
use Rattle.ec_esc.specs.Pass.{pass}
use Rattle.ec_esc.specs.State.{ControllerState}
use Rattle.ecat_told.specs.declared.byte.How.TheVariants.{Lost}
use Rattle.ecat_told.specs.declared.slave.Slave.{Slave}
use Rattle.ecat_told.specs.Known.{is_logical}
use Rattle.ecat_told.specs.Slave.{told_run}
use Rattle.ecat_told.specs.So.{AreSo}
use Rattle.ecat_told.specs.Journeys.{IsGuarding}
use Rattle.ecat_told.proofs.Reached.{IsReached, SameRegisters}
use Rattle.ecat_told.proofs.ArrivalLemmas.{gain, gain-le, passed_ado, passed_bytes, passed_command}
use Rattle.ecat_told.proofs.ArrivalLemmas.{passed_counter}
use Rattle.ecat_told.proofs.ArrivalLemmas.{passed_size, uncounted}
use Rattle.ecat_told.proofs.MemoryLemmas.{passed_memory}
use Rattle.ecat_told.proofs.PassLemmas.{HasMemory, logical_stays, pass_reaches, unserved_stays, unwritten}
use Rattle.ecat_told.proofs.ToldLemmas.{so_forgotten, so_lost, so_stays}

-- ---- a datagram over a line

-- behind it
unfoldable pub came : List ControllerState → DatagramRecord → DatagramRecord
came [] d = d
came (c ∷ cs) d = came cs (pass c d).datagram

-- the controllers, of which the first k are passed
unfoldable pub left_by : ℕ → List ControllerState → DatagramRecord → List ControllerState
left_by zero cs d = cs
left_by (suc k) [] d = []
left_by (suc k) (c ∷ cs) d = (pass c d).state ∷ left_by k cs (pass c d).datagram

-- all of them
unfoldable pub left : List ControllerState → DatagramRecord → List ControllerState
left [] d = []
left (c ∷ cs) d = (pass c d).state ∷ left cs (pass c d).datagram

-- what its counter gains
unfoldable pub gains : List ControllerState → DatagramRecord → ℕ
gains [] d = 0
gains (c ∷ cs) d = gain c d + gains cs (pass c d).datagram

pub left_all : (cs : List ControllerState) (d : DatagramRecord) → left_by (length cs) cs d ≡ left cs d
unfolding left_by left
left_all [] d = refl
left_all (c ∷ cs) d = ap (λ es. (pass c d).state ∷ es) (left_all cs (pass c d).datagram)

pub came_size : (cs : List ControllerState) (d : DatagramRecord)
    → length (came cs d).payload ≡ length d.payload
unfolding came
came_size [] d = refl
came_size (c ∷ cs) d = came_size cs (pass c d).datagram ∙ passed_size c d

-- the gain is at most three for each controller
pub gains-le : (cs : List ControllerState) (d : DatagramRecord) → gains cs d ≤ 3 * length cs
unfolding gains
gains-le [] d = omega arith
gains-le (c ∷ cs) d =
    let first = gain-le c d in
    let rest = gains-le cs (pass c d).datagram in
    omega (arith, first, rest)

pub came_counter : (cs : List ControllerState) (d : DatagramRecord) → d.counter < 65536
    → (came cs d).counter ≡ (d.counter + gains cs d) % 65536
unfolding came gains
came_counter [] d small = omega (arith, small)
came_counter (c ∷ cs) d small =
    let first = passed_counter c d in
    let low : (pass c d).datagram.counter < 65536 = omega (arith, first) in
    let rest = came_counter cs (pass c d).datagram low in
    omega (arith, first, rest)

-- so far a counter has moved
pub came_moved : (cs : List ControllerState) (d : DatagramRecord) → d.counter < 65536 → length cs ≤ 256
    → distance d.counter (came cs d).counter ≡ gains cs d
came_moved cs d small few =
    let is = came_counter cs d small in
    let most = gains-le cs d in
    omega (arith, is, most, few, small)

-- ---- memories

abbrev pub HaveMemory : List ControllerState → Type 0
HaveMemory cs = AllByRecursion HasMemory cs

pub left_memory : (k : ℕ) (cs : List ControllerState) (d : DatagramRecord) → HaveMemory cs
    → HaveMemory (left_by k cs d)
unfolding left_by
left_memory zero cs d have = have
left_memory (suc _) [] _ _ = tt
left_memory (suc k) (c ∷ cs) d have =
    (passed_memory c d have.0, left_memory k cs (pass c d).datagram have.1)

-- ---- nothing is written

-- a command that writes no register: a logical one, or one that does not write
pub data IsStill : Command → Type 0 where
  logical : {x : Command} → is_logical x ≡ true → IsStill x
  reading : {x : Command} → is_logical x ≡ false → writes x ≡ false → IsStill x

-- it leaves the registers
pub still_one : (c : ControllerState) (d : DatagramRecord) → HasMemory c → IsStill d.command
    → SameRegisters c (pass c d).state
still_one c d memory (logical is) = logical_stays c d memory is
still_one c d memory (reading physical no_write) = unserved_stays c d memory physical (unwritten c d no_write)

-- such a one leaves all as it is told
pub still_so : (states : Bool) (k : ℕ) (ss : List Slave) (cs : List ControllerState) (d : DatagramRecord)
    → IsStill d.command → HaveMemory cs → AreSo states ss cs → AreSo states ss (left_by k cs d)
unfolding left_by
still_so states zero ss cs d still have so = so
still_so _ (suc _) [] [] _ _ _ _ = tt
still_so _ (suc _) [] (_ ∷ _) _ _ _ so = absurd so
still_so _ (suc _) (_ ∷ _) [] _ _ _ so = absurd so
still_so states (suc k) (s ∷ ss) (c ∷ cs) d still have so = (
  so_stays states s c (pass c d).state so.0 (still_one c d have.0 still),
  still_so states k ss cs (pass c d).datagram (subst IsStill (sym (passed_command c d)) still) have.1 so.1,
)

-- so does one that nobody counted
pub uncounted_so : (states : Bool) (ss : List Slave) (cs : List ControllerState) (d : DatagramRecord)
    → is_logical d.command ≡ false → gains cs d ≡ 0 → HaveMemory cs → AreSo states ss cs
    → AreSo states ss (left cs d)
unfolding left gains
uncounted_so _ [] [] _ _ _ _ _ = tt
uncounted_so _ [] (_ ∷ _) _ _ _ _ so = absurd so
uncounted_so _ (_ ∷ _) [] _ _ _ _ so = absurd so
uncounted_so states (s ∷ ss) (c ∷ cs) d physical none have so = (
  so_stays states s c (pass c d).state so.0
      (unserved_stays c d have.0 physical (uncounted c d physical (omega (arith, none)))),
  uncounted_so states ss cs (pass c d).datagram (ap is_logical (passed_command c d) ∙ physical)
      (omega (arith, none)) have.1 so.1,
)

-- ---- anything may be written

-- a pass reaches no more than the run
pub reached_from : (c : ControllerState) (d : DatagramRecord) (from : ℕ) (values : List ℕ) → HasMemory c
    → AreBytes d.payload → is_logical d.command ≡ false → ado_of d.address ≡ from
    → length d.payload ≡ length values → IsReached from (length values) c (pass c d).state
reached_from c d from values memory are physical place size =
    subst (λ a. IsReached a (length values) c (pass c d).state) place
    (subst (λ n. IsReached (ado_of d.address) n c (pass c d).state) size
    (pass_reaches c d memory are physical))

-- where nothing was written less may be told
pub forgotten_so : (states : Bool) (ss : List Slave) (cs : List ControllerState) (from : ℕ) (values : List ℕ)
    → AreSo states ss cs → AreSo states (map (told_run Lost from values) ss) cs
forgotten_so _ [] [] _ _ _ = tt
forgotten_so _ [] (_ ∷ _) _ _ so = absurd so
forgotten_so _ (_ ∷ _) [] _ _ so = absurd so
forgotten_so states (s ∷ ss) (c ∷ cs) from values so =
    (so_forgotten states s c from values so.0, forgotten_so states ss cs from values so.1)

-- of each slave
pub lost_so : (states : Bool) (k : ℕ) (ss : List Slave) (cs : List ControllerState) (d : DatagramRecord)
    (from : ℕ) (values : List ℕ) → is_logical d.command ≡ false → AreBytes d.payload → ado_of d.address ≡ from
    → length d.payload ≡ length values → HaveMemory cs → AllByRecursion IsGuarding cs → AreSo states ss cs
    → AreSo states (map (told_run Lost from values) ss) (left_by k cs d)
unfolding left_by
lost_so states zero ss cs d from values physical are place size have guarding so =
    forgotten_so states ss cs from values so
lost_so _ (suc _) [] [] _ _ _ _ _ _ _ _ _ _ = tt
lost_so _ (suc _) [] (_ ∷ _) _ _ _ _ _ _ _ _ _ so = absurd so
lost_so _ (suc _) (_ ∷ _) [] _ _ _ _ _ _ _ _ _ so = absurd so
lost_so states (suc k) (s ∷ ss) (c ∷ cs) d from values physical are place size have guarding so = (
  so_lost states s c (pass c d).state from values so.0 guarding.0
      (reached_from c d from values have.0 are physical place size),
  lost_so states k ss cs (pass c d).datagram from values (ap is_logical (passed_command c d) ∙ physical)
      (passed_bytes c d) (passed_ado c d ∙ place) (passed_size c d ∙ size) have.1 guarding.1 so.1,
)
