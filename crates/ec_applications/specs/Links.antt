-- DL status tells of a slave whether there is a link at its port 0, before it, and at its port 1, behind it
-- (IEC 61158-4-12, DL status), and a counter at each port how often one was lost (lost link counter).
use Rattle.std.specs.Prelude.{ℕ, zero, suc, ◌+◌, ◌==◌, ◌&&◌, Bool, not, min, if◌then◌else◌}
use Rattle.std.specs.Prelude.{Option, None, Some, List, [], ◌∷◌, length, slice_get, slice_index}
use Rattle.std.specs.Int.{bit_at, w16, to_le_bytes}
use Rattle.ec_app.specs.Lending.{with_controller}
use Rattle.ec_app.specs.State.{SlaveState}
use Rattle.ec_areas.specs.Ranges.{has_sii}
use Rattle.ec_esc.specs.Application.{lost_links, with_registers}
use Rattle.ec_esc.specs.State.{ControllerState, word_at}
use Rattle.ec_regs.specs.declared.registers.TheConstants.{DL_STATUS, LOST_LINK}
use Rattle.ec_ring.specs.Ring.{RingState, with_slave}

-- bit 0: the application can be reached; bits 4 and 5: links at ports 0 and 1; bits 8, 10, 12 and 14: ports 0
-- to 3 are closed; bits 9 and 11: ports 0 and 1 take frames
abbrev pub dl_status : Bool → Bool → ℕ
dl_status before behind =
    0x5001 + (if before then 0x0210 else 0x0100) + (if behind then 0x0820 else 0x0400)

-- ---- links that are lost

-- does DL status tell of a link at the port, 0 or 1: bits 4 and 5
abbrev pub has_link : ℕ → ℕ → Bool
has_link status port = bit_at status (4 + port) == 1

-- by DL status before and now, was there a link at the port, and is there none
abbrev pub is_lost : ℕ → ℕ → ℕ → Bool
is_lost before now port = has_link before port && not (has_link now port)

-- a counter of lost links, which counts one more where this is true, and stays at 255
abbrev pub counted : Bool → ℕ → ℕ
counted lost count = if lost then min (count + 1) 255 else count

-- the counters of ports 0 and 1
abbrev pub lost_after : ℕ → ℕ → List ℕ → List ℕ
lost_after before now counts =
    counted (is_lost before now 0) (slice_index counts 0)
    ∷ counted (is_lost before now 1) (slice_index counts 1)
    ∷ []

-- ---- a slave that is told

-- a controller with this DL status, which counts the links that were lost
abbrev pub with_links : ControllerState → ℕ → ControllerState
with_links c status =
    let lost = lost_after (word_at c.memory DL_STATUS) status (lost_links c)
    in with_registers (with_registers c DL_STATUS (to_le_bytes w16 status)) LOST_LINK lost

-- a controller that tells of itself tells of its links, and any other one stays as it is
abbrev pub controller_told : ℕ → ControllerState → ControllerState
controller_told status c = if has_sii c.memory then with_links c status else c

abbrev pub slave_told : ℕ → SlaveState → SlaveState
slave_told status s = with_controller s (controller_told status s.controller)

-- the line, if it has the slave
abbrev pub place_told : ℕ → ℕ → RingState → Option SlaveState → RingState
place_told place status r None = r
place_told place status r (Some s) = with_slave r place (slave_told status s)

abbrev pub one_told : ℕ → ℕ → RingState → RingState
one_told place status r = place_told place status r (slice_get r.slaves place)

-- ---- the line, of whose links this says which are up: link k lies before slave k, and link k + 1 behind it

-- the first slaves are told
abbrev pub first_told : (ℕ → Bool) → ℕ → RingState → RingState
first_told is_up zero r = r
first_told is_up (suc k) r = one_told k (dl_status (is_up k) (is_up (suc k))) (first_told is_up k r)

-- all of them are
abbrev pub all_told : (ℕ → Bool) → RingState → RingState
all_told is_up r = first_told is_up (length r.slaves) r
