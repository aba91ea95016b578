-- The packets of a capture, one after the other: what its master sent goes to a line once what came back of
-- it is known, in the order in which it was sent.
use Rattle.std.specs.Prelude.{◌≡◌, ◌⊎◌, ℕ, zero, suc, ◌-◌, ◌^◌, Bool, true, false, List}
use Rattle.ec_wire.specs.Datagram.{DatagramRecord}
use Rattle.ecat_trips.specs.Steps.{TripsState, step}
use Rattle.ecat_trips.specs.declared.marks.Marks.{Marks}
use Rattle.ecat_trips.specs.declared.packet.Outline.{Outline}
use Rattle.ecat_trips.specs.declared.trips.Fate.{Fate}
use Rattle.ecat_trips.specs.declared.trips.Fate.TheVariants.{Begins, Replaces, Second, Back, Closes, Late}
use Rattle.ecat_trips.specs.declared.trips.Fate.TheVariants.{Stray}
use Rattle.ecat_trips.specs.declared.trips.Step.{Step}
use Rattle.ecat_trips.specs.declared.trips.Step.TheVariants.{Ended, Taken}
use Rattle.ecat_replay.specs.Comparing.{ComparisonState, IsCompared}
use Rattle.ecat_replay.specs.Tallies.{counted_late, counted_stray}

-- the trips on the way, and the line with what was found of its answers
pub record ReplayState : Type 0 where
  pub trips : TripsState
  pub comparison : ComparisonState

-- what is done with a packet by what it is: a trip that ends goes to the line, and copies of none are counted
abbrev pub FollowsFate : Fate → ComparisonState → ComparisonState → Type 0
FollowsFate Begins before later = later ≡ before
FollowsFate (Replaces trip) before later = IsCompared trip before later
FollowsFate (Second began) before later = later ≡ before
FollowsFate (Back began) before later = later ≡ before
FollowsFate (Closes trip) before later = IsCompared trip before later
FollowsFate Late before later = later ≡ record before { tally = counted_late before.tally }
FollowsFate Stray before later = later ≡ record before { tally = counted_stray before.tally }

-- and by one thing that happens
abbrev pub Follows : Step → ComparisonState → ComparisonState → Type 0
Follows (Ended trip) before later = IsCompared trip before later
Follows (Taken told what) before later = FollowsFate what before later

-- is the packet taken by it
abbrev pub is_taken : Step → Bool
is_taken (Ended trip) = false
is_taken (Taken told what) = true

-- one thing happens by a packet
pub record Happens (m : Marks) (packet : Outline) (frame : List DatagramRecord) (before later : ReplayState)
    : Type 0 where
  pub trips : later.trips ≡ (step m packet frame before.trips).after
  pub follows : Follows (step m packet frame before.trips).step before.comparison later.comparison

-- so many trips end in front of a packet, which is still to be taken
unfoldable pub EndInFront : ℕ → Marks → Outline → List DatagramRecord → ReplayState → ReplayState → Type 0
EndInFront zero m packet frame before later = later ≡ before
EndInFront (suc n) m packet frame before later =
    (between : ReplayState) × EndInFront n m packet frame before between
    × (is_taken (step m packet frame between.trips).step ≡ false) × Happens m packet frame between later

-- a packet is taken, behind all trips that end in front of it
pub record IsTaken (m : Marks) (packet : Outline) (frame : List DatagramRecord) (before later : ReplayState)
    : Type 0 where
  pub ended : ℕ
  pub between : ReplayState
  pub front : EndInFront ended m packet frame before between
  pub taken : is_taken (step m packet frame between.trips).step ≡ true
  pub happens : Happens m packet frame between later

-- so it is, unless more trips end in front of it than a machine could keep
abbrev pub Takes : Marks → Outline → List DatagramRecord → ReplayState → ReplayState → Type 0
Takes m packet frame before later =
    IsTaken m packet frame before later ⊎ EndInFront (2 ^ 64 - 1) m packet frame before later
