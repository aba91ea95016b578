-- What the trips of a capture come to on a line: each goes to it once more, and each datagram that was
-- answered in the capture is compared with what the line answers.
use Rattle.std.specs.Prelude.{◌≡◌, ℕ, zero, suc, ◌+◌, is_some, if◌then◌else◌}
use Rattle.std.specs.Prelude.{Option, None, Some, List, [], ◌∷◌}
use Rattle.std.specs.Io.Iter.{u64_saturate}
use Rattle.ec_wire.specs.Datagram.{DatagramRecord, nth}
use Rattle.ec_app.specs.State.{SlaveState}
use Rattle.ecat_trips.specs.Alike.{own_count}
use Rattle.ecat_trips.specs.declared.trip.Trip.{Trip}
use Rattle.ecat_serve.specs.State.{ServedState}
use Rattle.ecat_replay.specs.declared.difference.Difference.{Difference}
use Rattle.ecat_replay.specs.declared.part.Part.{Part}
use Rattle.ecat_replay.specs.declared.tally.Outcome.{Outcome}
use Rattle.ecat_replay.specs.declared.tally.Outcome.TheVariants.{Alike, OfClocks, Other}
use Rattle.ecat_replay.specs.declared.tally.Tally.{Tally}
use Rattle.ecat_replay.specs.Differences.{difference_at, unanswered_at}
use Rattle.ecat_replay.specs.Findings.{FindingsState, all_found, found}
use Rattle.ecat_replay.specs.Parts.{is_clock, part_of}
use Rattle.ecat_replay.specs.Playing.{IsPlayed, mailbox_of}
use Rattle.ecat_replay.specs.Tallies.{counted, counted_frame}

-- a line, and what was found of its answers so far
pub record ComparisonState : Type 0 where
  pub line : ServedState
  pub findings : FindingsState
  pub tally : Tally

-- ---- one datagram

-- how the line answered the datagram at a place otherwise than the capture has it, if it did
abbrev pub difference_by : List SlaveState → List DatagramRecord → List DatagramRecord
    → Option (List DatagramRecord) → ℕ → Option Difference
difference_by slaves sent there None k = unanswered_at k sent there
difference_by slaves sent there (Some here) k =
    let part = part_of (nth sent k) in difference_at k sent there here part (mailbox_of part slaves)

-- how it is counted: registers of clocks apart
abbrev pub outcome_of : Part → Option Difference → Outcome
outcome_of part None = Alike
outcome_of part (Some difference) = if is_clock part then OfClocks else Other

-- what was found by then: a difference that is no clock's is one more of its kind
abbrev pub noted : Part → Option Difference → ℕ → FindingsState → FindingsState
noted part None packet findings = findings
noted part (Some difference) packet findings =
    if is_clock part then findings else found part difference packet findings

-- a datagram was compared that was sent with this packet
abbrev pub compared : Part → Option Difference → ℕ → ComparisonState → ComparisonState
compared part difference packet s = record s {
  findings = noted part difference packet s.findings;
  tally = counted (outcome_of part difference) s.tally;
}

-- ---- one trip

-- the datagram at a place, of a trip that came back
unfoldable pub compared_at : Trip → List DatagramRecord → Option (List DatagramRecord) → ℕ → ComparisonState
    → ComparisonState
compared_at trip there here k s =
    let sent = trip.sent.frame in
    compared (part_of (nth sent k)) (difference_by s.line.ring.slaves sent there here k) trip.first.number s

-- the first datagrams, so many
unfoldable pub compared_first : ℕ → Trip → List DatagramRecord → Option (List DatagramRecord)
    → ComparisonState → ComparisonState
compared_first zero trip there here s = s
compared_first (suc n) trip there here s = compared_at trip there here n (compared_first n trip there here s)

-- what came back in the capture with what comes back here: each of the frame's own datagrams; nothing of a
-- frame that was lost in the capture
abbrev pub compared_with : Trip → Option (List DatagramRecord) → Option (List DatagramRecord)
    → ComparisonState → ComparisonState
compared_with trip None here s = s
compared_with trip (Some there) here s = compared_first (own_count trip.sent.frame) trip there here s

-- a frame was sent
abbrev pub counted_sent : Trip → ServedState → ComparisonState → ComparisonState
counted_sent trip line s =
    record s { line = line; tally = counted_frame (is_some trip.came) s.tally }

-- a trip goes to the line once more, and what comes back is compared
pub record IsCompared (trip : Trip) (before later : ComparisonState) : Type 0 where
  pub line : ServedState
  pub here : Option (List DatagramRecord)
  pub plays : IsPlayed (is_some trip.second) trip.sent.frame before.line here line
  pub compares : later ≡ compared_with trip trip.came here (counted_sent trip line before)

-- ---- all trips

-- trips, the newest first, go to the line one after the other, the oldest first
unfoldable pub AreCompared : List Trip → ComparisonState → ComparisonState → Type 0
AreCompared [] before later = later ≡ before
AreCompared (trip ∷ older) before later =
    (between : ComparisonState) × AreCompared older before between × IsCompared trip between later

-- ---- sums

-- as far as the numbers go, each frame that was sent was answered or lost in the capture; each datagram that
-- was compared was answered alike, or otherwise, by clocks or by anything else; and all of these last are
-- found, each under its kind
pub record AddsUp (s : ComparisonState) : Type 0 where
  pub frames : s.tally.frames ≡ u64_saturate (s.tally.answered + s.tally.lost)
  pub datagrams : s.tally.datagrams ≡ u64_saturate (s.tally.alike + s.tally.clocks + s.tally.other)
  pub found : s.tally.other ≡ u64_saturate (all_found s.findings)
