-- Packets that are written down: each receive gives the next one, and none is given twice.
use Rattle.std.specs.Prelude.{ℕ, if◌then◌else◌, nat_lt, List, length, Option, None, Some, take, drop}
use Rattle.ec_wire.specs.declared.frame.TheConstants.{PACKET_ROOM}

-- the first packet of what was not given yet, as far as there is room for it; none where less is left
abbrev pub first_in : List ℕ → ℕ → Option (List ℕ)
first_in rest size = if nat_lt (length rest) size then None else Some (take PACKET_ROOM (take size rest))

-- what was not given yet, behind it
abbrev pub behind_first : List ℕ → ℕ → List ℕ
behind_first rest size = if nat_lt (length rest) size then rest else drop size rest
