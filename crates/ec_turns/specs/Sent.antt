-- The frame that goes out in a turn: that of the turn over ports which give nothing, since a frame goes out
-- before anything comes back of it.
use Rattle.std.specs.Prelude.{◌≡◌, List, Option}
use Rattle.ec_wire.specs.Datagram.{DatagramRecord}
use Rattle.ec_run.specs.declared.wanted.Wanted.{Wanted}
use Rattle.ec_acyclic.specs.Next.{TalkState}
use Rattle.ec_acyclic.specs.Turn.{IsServiceTurn}
use Rattle.ec_acyclic.specs.declared.turn.Turn.{Turn}
use Rattle.ec_turns.specs.Held.{HeldState, HeldTrips, giving, nothing}
use Rattle.ec_turns.specs.Start.{IsStartTurn}
use Rattle.ec_turns.specs.declared.plan.Plan.{Plan}
use Rattle.ec_turns.specs.declared.start.Start.{Start}
use Rattle.ec_turns.specs.declared.start.StartTurn.{StartTurn}

abbrev pub IsServiceFrame : TalkState → Option (List DatagramRecord) → Type 0
IsServiceFrame t sent =
    (turn : Turn) × (later : HeldState) × IsServiceTurn HeldTrips (giving nothing) t turn later
    × (sent ≡ later.sent)

abbrev pub IsStartFrame : Plan → Wanted → Start → Option (List DatagramRecord) → Type 0
IsStartFrame plan wanted s sent =
    (turn : StartTurn) × (later : HeldState)
    × IsStartTurn HeldTrips (giving nothing) plan wanted s turn later
    × (sent ≡ later.sent)
