-- What is noted of the packets of a capture beside their frames: those that were cut when they were captured,
-- as a capture with few bytes a packet has them, how many they are and behind how many bytes they are cut;
-- and those that are older than the packet before.
use Rattle.std.specs.Prelude.{◌≡◌, ℕ, ◌+◌, ◌*◌, ◌/◌, ◌%◌, min, max, ◌==◌, ◌&&◌, ◌||◌, nat_lt, Bool, false}
use Rattle.std.specs.Prelude.{if◌then◌else◌, List, [], ◌∷◌, length, slice_index}
use Rattle.std.specs.Io.Iter.{u64_saturate}
use Rattle.ecat_capture.specs.declared.packet.Time.{Time}
use Rattle.ecat_frames.specs.declared.notes.CutPackets.{CutPackets}
use Rattle.ecat_frames.specs.declared.notes.OldPackets.{OldPackets}
use Rattle.ecat_frames.specs.declared.notes.TheConstants.{MOST}

-- the least of a number and others
abbrev pub least_of : ℕ → List ℕ → ℕ
least_of n [] = n
least_of n (m ∷ ms) = least_of (min n m) ms

-- and the greatest
abbrev pub greatest_of : ℕ → List ℕ → ℕ
greatest_of n [] = n
greatest_of n (m ∷ ms) = greatest_of (max n m) ms

-- packets of which so many bytes each were captured
pub record AreCut (all : List ℕ) (cut : CutPackets) : Type 0 where
  pub count : cut.count ≡ u64_saturate (length all)
  pub least : cut.least ≡ least_of MOST all
  pub greatest : cut.greatest ≡ greatest_of 0 all

-- a packet of a time is older than the one that was taken last
abbrev pub is_older : Time → OldPackets → Bool
is_older time old =
    nat_lt time.seconds old.seconds
    || (time.seconds == old.seconds && nat_lt time.nanoseconds old.nanoseconds)

-- one packet more is taken, of a time
abbrev pub with_time : Time → OldPackets → OldPackets
with_time time old = record {
  times = if is_older time old then u64_saturate (old.times + 1) else old.times;
  seconds = time.seconds;
  nanoseconds = time.nanoseconds;
}

-- the front of a payload of this length says that it is a frame of datagrams: its header has their type, 1, a
-- reserved bit that is 0, and their length
abbrev pub says_frame : List ℕ → ℕ → Bool
says_frame front size =
    if nat_lt (length front) 2 then false
    else (slice_index front 0 + 256 * slice_index front 1) / 2048 == 2
    && (slice_index front 0 + 256 * slice_index front 1) % 2048 + 2 == size
