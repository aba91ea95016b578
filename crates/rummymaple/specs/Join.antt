-- Two packets that came back of a sent frame are joined into one answer, or the stranger is named.
use Rattle.std.specs.Prelude.{◌≡◌, ◌<◌, ◌≤◌, ℕ, Option, None, Some, List, ◌++◌, length, drop, ◌⊎◌}
use Rattle.ec_wire.specs.Datagram.{DatagramRecord}
use Rattle.ec_wire.specs.Fault.{IsSpelt, IsFirstFault}
use Rattle.ec_wire.specs.Spelling.{spelling, IsFrameValue}
use Rattle.ec_wire.specs.declared.fault.Form.{Form}
use Rattle.ec_wire.specs.declared.fault.WireFault.{WireFault}
use Rattle.ec_merge.specs.Frames.{IsOwn, IsFault, joined_frame}
use Rattle.ec_merge.specs.declared.frames.JoinFault.TheVariants as strangers
use Rattle.rummymaple.specs.Copies.{IsCopy}
use Rattle.rummymaple.specs.Numbers.{number_of, copy_number}
use Rattle.rummymaple.specs.declared.numbers.Code.{Code}
use Rattle.rummymaple.specs.declared.numbers.Code.TheVariants as codes
use Rattle.rummymaple.specs.declared.numbers.Copy.TheVariants.{Lost}
use Rattle.rummymaple.specs.declared.join.JoinEnd.{JoinEnd}
use Rattle.rummymaple.specs.declared.join.JoinEnd.TheVariants.{Joined, Stranger, NoRoom, NotSent, BadForm}
use Rattle.rummymaple.specs.declared.join.Join.{Join}
use Rattle.rummymaple.specs.declared.join.JoinAnswer.{JoinAnswer}

-- a room whose front is now these bytes, and behind them as it was
pub record IsPut (bytes before : List ℕ) (count : ℕ) (later : List ℕ) : Type 0 where
  pub count_is : count ≡ length bytes
  pub fits : length bytes ≤ length before
  pub bytes_are : later ≡ bytes ++ drop (length bytes) before

-- ---- the end of a join of the copies x and y of a frame s, and the room for the answer before and after

abbrev pub EndsIn : List DatagramRecord → List DatagramRecord → List DatagramRecord → List ℕ → JoinEnd
    → List ℕ → Type 0
EndsIn s x y before (Joined count) later =
    IsOwn s x × IsOwn s y × IsFrameValue (joined_frame s x y)
    × IsPut (spelling (joined_frame s x y)) before count later
EndsIn s x y before (Stranger fault) later = IsFault s x y fault × (later ≡ before)
EndsIn s x y before NoRoom later =
    IsOwn s x × IsOwn s y × (length before < length (spelling (joined_frame s x y))) × (later ≡ before)
EndsIn s x y before (NotSent fault) later = ⊥
EndsIn s x y before BadForm later = ⊥

-- the bytes spell a frame, the packets are these copies of it, and their join ends so
pub record AreJoined (form : Form) (sent a b before : List ℕ) (join : Join) (later : List ℕ) : Type 0 where
  pub frame : List DatagramRecord
  pub copy_a : List DatagramRecord
  pub copy_b : List DatagramRecord
  pub sent_is : IsSpelt form sent frame
  pub a_is : IsCopy form a frame join.a copy_a
  pub b_is : IsCopy form b frame join.b copy_b
  pub ends : EndsIn frame copy_a copy_b before join.end later

-- nothing was joined, and no packet looked at
abbrev pub none_joined : JoinEnd → Join
none_joined end = record { end = end; a = Lost; b = Lost }

-- what a join of these bytes and packets is: where the bytes are no frame, their first fault is named
abbrev pub IsJoin : Option Form → List ℕ → List ℕ → List ℕ → List ℕ → Join → List ℕ → Type 0
IsJoin None sent a b before join later = (join ≡ none_joined BadForm) × (later ≡ before)
IsJoin (Some form) sent a b before join later =
    AreJoined form sent a b before join later
    ⊎ ((f : WireFault) × IsFirstFault form sent f × (join ≡ none_joined (NotSent f)) × (later ≡ before))

-- ---- its numbers

-- the code of an end
abbrev pub end_code : JoinEnd → Code
end_code (Joined count) = codes.Good
end_code (Stranger (strangers.StrangerA k)) = codes.StrangerA
end_code (Stranger (strangers.StrangerB k)) = codes.StrangerB
end_code NoRoom = codes.NoRoom
end_code (NotSent fault) = codes.NotSent
end_code BadForm = codes.BadForm

-- the place that it names: the datagram of a stranger, or the byte at fault
abbrev pub end_place : JoinEnd → ℕ
end_place (Joined count) = 0
end_place (Stranger (strangers.StrangerA k)) = k
end_place (Stranger (strangers.StrangerB k)) = k
end_place NoRoom = 0
end_place (NotSent fault) = fault.at
end_place BadForm = 0

-- how many bytes were written
abbrev pub end_count : JoinEnd → ℕ
end_count (Joined count) = count
end_count (Stranger fault) = 0
end_count NoRoom = 0
end_count (NotSent fault) = 0
end_count BadForm = 0

-- all of it
abbrev pub join_answer : Join → JoinAnswer
join_answer join = record {
  bytes = end_count join.end;
  at = end_place join.end;
  code = number_of (end_code join.end);
  copy_a = copy_number join.a;
  copy_b = copy_number join.b;
}
