-- The sent frames of the trips that were lost last, the newest first.
use Rattle.std.specs.Prelude.{ℕ, List, ◌∷◌, take}
use Rattle.ecat_trips.specs.declared.trip.SentFrame.{SentFrame}
use Rattle.ecat_trips.specs.declared.lost.TheConstants.{MAX_LOST}
use Rattle.ecat_trips.specs.Alike.{told_fast}

-- one more is remembered, and the oldest forgotten where there are as many as may be
unfoldable pub remembered : SentFrame → List SentFrame → List SentFrame
remembered sent lost = take MAX_LOST (sent ∷ lost)

-- what is told fast of the key of a sent frame
abbrev pub number_of : SentFrame → ℕ
number_of sent = told_fast sent.frame
