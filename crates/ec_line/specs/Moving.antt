-- A line that moves: between the passages of a cycle's copies the application of each slave may do whatever
-- leaves its mapping and its outputs, and each copy passes a slave as it is at that moment (IEC 61158-4-12,
-- sync manager, buffered mode).
use Rattle.std.specs.Prelude.{◌≡◌, ℕ, zero, suc, ◌+◌, ◌-◌, ◌*◌, ◌/◌, ◌⊎◌, if◌then◌else◌, Bool, Some}
use Rattle.std.specs.Prelude.{List, [], ◌∷◌, length, map}
use Rattle.std.specs.List.{AllByRecursion}
use Rattle.ec_regs.specs.Bits.{bit}
use Rattle.ec_regs.specs.declared.registers.TheConstants.{STATION_ADDRESS, PROCESS_MEMORY}
use Rattle.ec_wire.specs.Datagram.{DatagramRecord}
use Rattle.ec_areas.specs.Records.{sync_managers_of}
use Rattle.ec_esc.specs.State.{ControllerState, word_at}
use Rattle.ec_esc.specs.Writing.{is_shown_anew}
use Rattle.ec_line.specs.Accepted.{Accepts}
use Rattle.ec_line.specs.After.{Entry}
use Rattle.ec_line.specs.Answered.{AnsweredFrame, sent_of}
use Rattle.ec_line.specs.Claims.{taken, gain}
use Rattle.ec_line.specs.Fit.{Reads, Writes, IsFitAlone}
use Rattle.ec_line.specs.Mapping.{mapping_of}
use Rattle.ec_line.specs.Memory.{AllBetween}
use Rattle.ec_line.specs.Request.{Request}
use Rattle.ec_line.specs.Run.{CountsWhole}
use Rattle.ec_line.specs.Shown.{ShowsLastInRun}
use Rattle.ec_line.specs.Trip.{Trip, PassedLine, front_pass, back_pass, sent_b, joined_of, returned}

-- ---- how a slave may move

-- a later state y of the controller x, whatever its bytes are: it has the mapping of x, and so it reads,
-- writes, accepts, counts, takes and shows where x does, and is fit if x is
pub record IsAlike (x y : ControllerState) : Type 0 where
  pub mapping : mapping_of y ≡ mapping_of x
  pub fit : IsFitAlone x → IsFitAlone y
  pub station : word_at y.memory STATION_ADDRESS ≡ word_at x.memory STATION_ADDRESS
  pub reads : (l p : ℕ) → Reads y l p → Reads x l p
  pub writes : (l p : ℕ) → Writes y l p → Writes x l p
  pub accepts : (r : Request) → Accepts r x → Accepts r y
  pub gains : (r : Request) → Accepts r x → gain r y ≡ gain r x
  pub takes : (r : Request) → Accepts r x → taken r y ≡ taken r x
  pub shows : (is_written : ℕ → Bool) (address : ℕ)
      → is_shown_anew is_written (sync_managers_of y.memory) (sync_managers_of y.memory) address
      ≡ is_shown_anew is_written (sync_managers_of x.memory) (sync_managers_of x.memory) address

-- member by member
abbrev pub AllAlike : List ControllerState → List ControllerState → Type 0
AllAlike [] [] = Unit {0}
AllAlike (x ∷ xs) (y ∷ ys) = IsAlike x y × AllAlike xs ys
AllAlike _ _ = ⊥

-- what an application may do to its controller x: y is alike, each bit that an accepted request writes is as
-- it was, and so is what the application is shown
pub record HasMoved (x y : ControllerState) : Type 0 where
  pub alike : IsAlike x y
  pub shown : y.shown ≡ x.shown
  pub kept : (r : Request) (p i : ℕ) → Accepts r x → taken r x p ≡ Some i → bit y.memory p ≡ bit x.memory p

-- ---- a trip

-- a slave on a trip: as it is before, as copy A meets it, as copy B does, and as it is behind the trip
pub record Visit : Type 0 where
  pub before : ControllerState
  pub at_a : ControllerState
  pub at_b : ControllerState
  pub later : ControllerState

-- the slave moves before, between and behind the passages of both copies, of which copy A left it so and copy
-- B so; which of them comes first may differ from slave to slave
abbrev pub Moves : Visit → ControllerState → ControllerState → Type 0
Moves v left_a left_b =
    (HasMoved v.before v.at_a × HasMoved left_a v.at_b × HasMoved left_b v.later)
    ⊎ (HasMoved v.before v.at_b × HasMoved left_b v.at_a × HasMoved left_a v.later)

abbrev pub AllMove : List Visit → List ControllerState → List ControllerState → Type 0
AllMove [] [] [] = Unit {0}
AllMove (v ∷ vs) (x ∷ xs) (y ∷ ys) = Moves v x y × AllMove vs xs ys
AllMove _ _ _ = ⊥

-- the line before a trip, as each copy meets it, and behind the trip
abbrev pub befores : List Visit → List ControllerState
befores vs = map (λ v. v.before) vs

abbrev pub when_a : List Visit → List ControllerState
when_a vs = map (λ v. v.at_a) vs

abbrev pub when_b : List Visit → List ControllerState
when_b vs = map (λ v. v.at_b) vs

abbrev pub laters : List Visit → List ControllerState
laters vs = map (λ v. v.later) vs

-- what each copy becomes, and leaves
abbrev pub copy_a : Trip → List Visit → PassedLine
copy_a t vs = front_pass t.front (when_a vs) (sent_of t.entries)

abbrev pub copy_b : Trip → List Visit → PassedLine
copy_b t vs = back_pass t.back (when_b vs) (sent_b t)

-- a trip over a line that moves
pub record IsMovingTrip (t : Trip) (line : List ControllerState) (vs : List Visit) : Type 0 where
  pub starts : befores vs ≡ line
  pub moves : AllMove vs (copy_a t vs).line (copy_b t vs).line

-- what came back of it, joined
abbrev pub joined_moving : Trip → List Visit → List DatagramRecord
joined_moving t vs = joined_of t (record {
  a = (copy_a t vs).frame;
  b = (copy_b t vs).frame;
  line = laters vs;
})

-- ---- a run of trips

-- each trip finds the line as the one before it left it
abbrev pub MovingTrips : List Trip → List (List Visit) → List ControllerState → Type 0
MovingTrips [] [] line = Unit {0}
MovingTrips (t ∷ ts) (vs ∷ rest) line = IsMovingTrip t line vs × MovingTrips ts rest (laters vs)
MovingTrips _ _ line = ⊥

-- what came back of each trip, joined
abbrev pub joined_on_each : List Trip → List (List Visit) → List (List DatagramRecord)
joined_on_each [] runs = []
joined_on_each (t ∷ ts) [] = []
joined_on_each (t ∷ ts) (vs ∷ rest) = joined_moving t vs ∷ joined_on_each ts rest

-- the line behind them
abbrev pub behind : List (List Visit) → List ControllerState → List ControllerState
behind [] line = line
behind (vs ∷ rest) line = behind rest (laters vs)

-- ---- what comes back

-- the counters of each joined frame have moved as those count whom the copies passed that came back
abbrev pub CountsReturned : List Trip → List ControllerState → List (List DatagramRecord) → Type 0
CountsReturned [] line [] = Unit {0}
CountsReturned (t ∷ ts) line (g ∷ gs) = CountsWhole t.entries (returned t line) g × CountsReturned ts line gs
CountsReturned _ line _ = ⊥

-- the first n members as copy A met them, the others as copy B did
abbrev pub seen : ℕ → List Visit → List ControllerState
seen n [] = []
seen zero (v ∷ vs) = v.at_b ∷ seen zero vs
seen (suc n) (v ∷ vs) = v.at_a ∷ seen n vs

-- the first members that a copy A which came back has passed, and where those of such a copy B begin in a
-- line of n
abbrev pub front_of : Trip → ℕ
front_of t = if t.lost_a then 0 else t.front

abbrev pub back_of : Trip → ℕ → ℕ
back_of t n = if t.lost_b then n + t.back else t.back

-- a member that was passed by none of the copies that came back, or by both, does not count the entry: one
-- that counts it was passed by exactly one
pub record IsPassedOnce (t : Trip) (line : List ControllerState) (e : Entry) : Type 0 where
  pub some : AllBetween (λ x. gain e.request x ≡ 0) (front_of t) (back_of t (length line)) line
  pub one : AllBetween (λ x. gain e.request x ≡ 0) (back_of t (length line)) (front_of t) line

-- a joined frame is the answer of the line's members, each as it was at one moment, the passage of a copy
-- that came back
pub record IsAnsweredAtMoments (t : Trip) (line : List ControllerState) (vs : List Visit)
    (got : List DatagramRecord) : Type 0 where
  pub alike : AllAlike line (seen (front_of t) vs)
  pub answered : AnsweredFrame t.entries (seen (front_of t) vs) got
  pub once : AllByRecursion (IsPassedOnce t line) t.entries

abbrev pub AnsweredAtMoments : List Trip → List ControllerState → List (List Visit)
    → List (List DatagramRecord) → Type 0
AnsweredAtMoments [] line [] [] = Unit {0}
AnsweredAtMoments (t ∷ ts) line (vs ∷ rest) (g ∷ gs) =
    IsAnsweredAtMoments t line vs g × AnsweredAtMoments ts line rest gs
AnsweredAtMoments _ line _ _ = ⊥

-- ---- what is left

-- of two lines, each bit that a member of a third one, the line at first, accepts a request to write is the
-- same
abbrev pub SameWritten : List ControllerState → List ControllerState → List ControllerState → Type 0
SameWritten [] [] [] = Unit {0}
SameWritten (x ∷ xs) (y ∷ ys) (z ∷ zs) =
    ((r : Request) (p i : ℕ) → Accepts r x → taken r x p ≡ Some i → bit y.memory p ≡ bit z.memory p)
    × SameWritten xs ys zs
SameWritten _ _ _ = ⊥

-- of two lines, each such bit that the applications are shown is the same, where in each frame of the run the
-- last entry that shows its byte is the last that writes it
abbrev pub SameShownWritten : List Trip → List ControllerState → List ControllerState
    → List ControllerState → Type 0
SameShownWritten ts [] [] [] = Unit {0}
SameShownWritten ts (x ∷ xs) (y ∷ ys) (z ∷ zs) =
    ((r : Request) (p i : ℕ) → Accepts r x → taken r x p ≡ Some i → ShowsLastInRun ts (p / 8) x
    → bit y.shown (p - 8 * PROCESS_MEMORY) ≡ bit z.shown (p - 8 * PROCESS_MEMORY))
    × SameShownWritten ts xs ys zs
SameShownWritten ts _ _ _ = ⊥
