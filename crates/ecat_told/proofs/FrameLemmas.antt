-- Frames of which no datagram is left.
use Rattle.std.proofs.Common.{◌≡◌, ℕ, ◌≤◌, Bool, List, [], ◌∷◌, length, drop, refl, ap, ◌∙◌}
use Rattle.ec_wire.specs.Datagram.{DatagramRecord}
use Rattle.ecat_told.specs.Known.{KnownState, frame_returned}

-- no datagram came
pub none-came : (broken all : Bool) (ss : List DatagramRecord) (k : KnownState)
    → frame_returned broken all ss [] k ≡ k
none-came broken all [] k = refl
none-came broken all (s ∷ ss) k = refl
