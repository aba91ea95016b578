-- Rounds of cycles, told apart by the working counters with which their frames go out, so that a copy that
-- comes late is not taken for one of this round (IEC 61158-4-12, working counter).
use Rattle.std.specs.Prelude.{◌≡◌, ◌≤◌, ℕ, ◌+◌, ◌*◌, ◌%◌, Option, None, Some, List, Result, Ok, Err}
use Rattle.std.specs.List.{AllByRecursion}
use Rattle.ec_wire.specs.Datagram.{DatagramRecord}
use Rattle.ec_map.specs.Item.{ItemRecord, with_adp}
use Rattle.ec_ring.specs.declared.port.PortFault.{PortFault}
use Rattle.ec_ring.specs.declared.weather.Came.{Came}

-- the counter with which the datagrams of a round go out; after thirty-two rounds the counters begin anew
abbrev pub round_counter : ℕ → ℕ
round_counter k = 2048 * (k % 32)

-- an item at the start of a round: its counter is the round's, and the ADP of a broadcast read is 0
abbrev pub begun : ℕ → ItemRecord → ItemRecord
begun k r = with_adp (record r { counter = round_counter k }) 0

-- a datagram that went out in a round and whose counter gained at most 1,023 on its way; a line of 256 slaves
-- adds at most 768
pub record IsOfRound (k : ℕ) (d : DatagramRecord) : Type 0 where
  pub gain : ℕ
  pub few : gain ≤ 1023
  pub counter : d.counter ≡ (round_counter k + gain) % 65536

-- a copy, if it came back, is of a round
abbrev pub CopyOfRound : ℕ → Option (List DatagramRecord) → Type 0
CopyOfRound k None = Unit {0}
CopyOfRound k (Some copy) = AllByRecursion (IsOfRound k) copy

-- it is of this round, or of one of the fifteen before it
pub record IsRecent (k : ℕ) (copy : Option (List DatagramRecord)) : Type 0 where
  pub round : ℕ
  pub past : round ≤ k
  pub late : k ≤ round + 15
  pub is : CopyOfRound round copy

-- so are both copies of a frame
abbrev pub AreRecent : ℕ → Result Came PortFault → Type 0
AreRecent k (Err failed) = Unit {0}
AreRecent k (Ok came) = IsRecent k came.a × IsRecent k came.b

abbrev pub AreOfRound : ℕ → Result Came PortFault → Type 0
AreOfRound k (Err failed) = Unit {0}
AreOfRound k (Ok came) = CopyOfRound k came.a × CopyOfRound k came.b
