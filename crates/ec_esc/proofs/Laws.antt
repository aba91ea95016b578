-- The laws that crates above cite: on what a working counter gains, on what the application is shown, on the
-- half of a pass that writes, on a controller behind a pass, and on what stays where the application writes.
use Rattle.std.proofs.Common.{◌≡◌, ◌⊎◌, ◌+◌, ◌&&◌, cond, ℕ, ◌<◌, ◌≤◌, Bool, true, false, List, length}
use Rattle.std.proofs.Common.{get_or, ◌/◌, None}
use Rattle.ec_regs.specs.declared.sync_man.SyncMan.{SyncMan}
use Rattle.ec_regs.specs.declared.registers.TheConstants.{PROCESS_MEMORY, MEMORY_SIZE}
use Rattle.ec_regs.specs.Bits.{AreBytes, with_bits}
use Rattle.ec_areas.specs.Records.{sync_manager_at, sync_managers_of}
use Rattle.ec_esc.specs.Application.{put_inputs_fault, with_inputs, are_told, with_registers}
use Rattle.ec_esc.specs.Application.{with_mail_repeated, with_repeat_told}
use Rattle.ec_esc.specs.Writing.{shown_byte, shown_after}
use Rattle.ec_esc.specs.State.{ControllerState, IsController, with_run}
use Rattle.ec_esc.specs.Pass.{Half, pass, frame_pass, nothing, touches, written_by, effect, gain_of}
use Rattle.ec_esc.specs.Pass.{serves_reading, serves_writing}
use Rattle.ec_wire.specs.Datagram.{DatagramRecord}
use Rattle.ec_wire.specs.Command.{addressing, reads, writes}
use Rattle.ec_wire.specs.declared.command.Command.{Command}
use Rattle.ec_esc.proofs.GainLemmas as gains
use Rattle.ec_esc.proofs.ShowLemmas as showing
use Rattle.ec_esc.proofs.IdleLemmas as idle
use Rattle.ec_esc.proofs.ApplicationLemmas as application
use Rattle.ec_esc.proofs.LeftLemmas as left
use Rattle.ec_esc.proofs.BehindLemmas as behind

-- ---- the working counter

-- it gains 1 for a read that is served, and for a write that is served 2 beside a read and 1 alone
pub gain_served : (x : Command) (c : ControllerState) (address n : ℕ) → gain_of (effect x c address n)
    ≡ cond (reads x && serves_reading (addressing x) c address n) 1 0
    + cond (writes x && serves_writing (addressing x) c address n) (cond (reads x) 2 1) 0
gain_served = gains.gain-effect

-- ---- shown bytes

-- a write leaves the number of shown bytes
pub length-shown_after : (is_written : ℕ → Bool) (befores afters : List SyncMan) (memory shown : List ℕ)
    → length (shown_after is_written befores afters memory shown) ≡ length shown
length-shown_after = showing.length-shown_after

-- each shown byte after a write is what is said of it
pub get_or-shown_after : (is_written : ℕ → Bool) (befores afters : List SyncMan) (memory shown : List ℕ)
    (k : ℕ) → k < length shown
    → get_or (shown_after is_written befores afters memory shown) k 0
    ≡ shown_byte is_written befores afters memory shown k
get_or-shown_after = showing.get_or-shown_after

-- the shown bytes depend on what is said of each address
pub shown_after_same : (f g : ℕ → Bool) (befores afters : List SyncMan) (memory shown : List ℕ)
    → ((a : ℕ) → f a ≡ g a)
    → shown_after f befores afters memory shown ≡ shown_after g befores afters memory shown
shown_after_same = idle.shown_after_same

-- where nothing is written the shown bytes stay
pub shown_after_nothing : (managers : List SyncMan) (memory shown : List ℕ)
    → shown_after (λ _. false) managers managers memory shown ≡ shown
shown_after_nothing = idle.shown_after_nothing

-- ---- behind a pass

-- a controller behind a datagram is one
pub pass_is : (c : ControllerState) (d : DatagramRecord) → IsController c → IsController (pass c d).state
pass_is = behind.pass_is

-- a controller behind a frame is one
pub frame_is : (c : ControllerState) (ds : List DatagramRecord) → IsController c
    → IsController (frame_pass c ds).state
frame_is = behind.frame_is

-- ---- writing

-- a write of nothing leaves the controller
pub written_nothing : (c : ControllerState) (payload : List ℕ) → IsController c
    → written_by nothing payload c ≡ c
written_nothing c payload controller =
    idle.written_by_nothing c payload controller.memory controller.memory_size

-- a half that fills no mailbox and reaches no register changes memory bits and shown bytes alone
pub written_plain : (c : ControllerState) (half : Half) (payload : List ℕ) → IsController c → half.mail ≡ None
    → ((p : ℕ) → p / 8 < PROCESS_MEMORY → half.places p ≡ None)
    → written_by half payload c
    ≡ record c {
      memory = with_bits c.memory payload half.places;
      shown = shown_after (touches half.places) (sync_managers_of c.memory) (sync_managers_of c.memory)
          (with_bits c.memory payload half.places) c.shown;
    }
written_plain = idle.written_plain

-- ---- the application's side

-- a run that is replaced within a list leaves its length
pub length-with_run : (xs ys : List ℕ) (at : ℕ) → at + length ys ≤ length xs
    → length (with_run xs at ys) ≡ length xs
length-with_run = application.length-with_run

-- and the elements beside the run
pub get_or-with_run_beside : (xs ys : List ℕ) (at k : ℕ) → at + length ys ≤ length xs
    → (k < at) ⊎ (at + length ys ≤ k) → get_or (with_run xs at ys) k 0 ≡ get_or xs k 0
get_or-with_run_beside = left.get_or-with_run_beside

-- inputs that are put lie in process memory
pub inputs_place : (s : SyncMan) (bytes : List ℕ) → put_inputs_fault s bytes ≡ None
    → (PROCESS_MEMORY ≤ s.start) × (s.start + length bytes ≤ MEMORY_SIZE)
inputs_place = left.inputs_place

-- a controller that puts inputs stays one
pub inputs_controller : (c : ControllerState) (i : ℕ) (bytes : List ℕ) → IsController c → AreBytes bytes
    → put_inputs_fault (sync_manager_at c.memory i) bytes ≡ None → IsController (with_inputs c i bytes)
inputs_controller = left.inputs_controller

-- registers that are told lie in DL information, or between DL status and what is behind the slave
-- information interface
pub told_place : (from n : ℕ) → are_told from n ≡ true
    → (from + n ≤ 10) ⊎ ((272 ≤ from) × (from + n ≤ 1296))
told_place = left.told_place

-- a controller whose master has the last mail once more stays one
pub repeated_controller : (c : ControllerState) (i : ℕ) → IsController c → IsController (with_mail_repeated c i)
repeated_controller = behind.repeated_controller

pub repeat_told_controller : (c : ControllerState) (i : ℕ) → IsController c
    → IsController (with_repeat_told c i)
repeat_told_controller = behind.repeat_told_controller

-- a controller that tells them stays one
pub registers_controller : (c : ControllerState) (from : ℕ) (bytes : List ℕ) → IsController c → AreBytes bytes
    → are_told from (length bytes) ≡ true → IsController (with_registers c from bytes)
registers_controller = left.registers_controller
