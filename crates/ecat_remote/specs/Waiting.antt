-- For how long a trip waits for its copies, in microseconds.
use Rattle.std.specs.Prelude.{ℕ, ◌+◌, ◌-◌, ◌/◌, ◌^◌, min, max, nat_lt, Bool, ◌||◌, if◌then◌else◌}
use Rattle.std.specs.Prelude.{Option, None, Some}
use Rattle.std.specs.Option.{is_some}
use Rattle.ec_ring.specs.declared.port.Port.{Port}
use Rattle.ec_ring.specs.declared.port.Port.TheVariants.{A, B}
use Rattle.ecat_remote.specs.declared.cycle.Cycle.{Cycle}
use Rattle.ecat_remote.specs.declared.cycle.Deadline.{Deadline}
use Rattle.ecat_remote.specs.declared.silence.Silence.{Silence}

-- how many cycles have begun since a packet came at a port
abbrev pub since_at : Port → Silence → ℕ
since_at A silence = silence.a
since_at B silence = silence.b

-- a time that is halved with each cycle but the last one of so many
abbrev pub halved : ℕ → ℕ → ℕ
halved cycles micros = if nat_lt (cycles - 1) 64 then micros / 2 ^ (cycles - 1) else 0

-- a time so much later, as far as a clock tells it
abbrev pub later_by : ℕ → ℕ → ℕ
later_by micros time = min (time + micros) (2 ^ 64 - 1)

-- the deadline of a cycle that begins then and whose trips may wait for so long: a trip behind the cycle that
-- goes out past it has half of that
abbrev pub deadline_after : ℕ → ℕ → Deadline
deadline_after now left = record { at = later_by left now; grace = left / 2 }

-- up to when a trip waits that went out then and would wait up to a time: in a cycle no later than up to the
-- deadline, behind it as long as that lies ahead, and for its grace otherwise
abbrev pub bounded : Deadline → Bool → ℕ → ℕ → ℕ
bounded deadline is_cycle sent until =
    min until (if is_cycle || nat_lt sent deadline.at then deadline.at else later_by deadline.grace sent)

-- up to when a trip waits whose copies were sent at this time
abbrev pub until_by : Option Deadline → Bool → ℕ → ℕ → ℕ
until_by None is_cycle limit sent = later_by limit sent
until_by (Some deadline) is_cycle limit sent = bounded deadline is_cycle sent (later_by limit sent)

abbrev pub until_of : Cycle → ℕ → ℕ → ℕ
until_of cycle limit sent = until_by cycle.deadline (is_some cycle.gone) limit sent

-- up to when the other copy is waited for behind one that came now: as long again as this one took, and at
-- least for so long
abbrev pub again_of : ℕ → ℕ → ℕ → ℕ
again_of least sent now = later_by (max (now - sent) least) now
