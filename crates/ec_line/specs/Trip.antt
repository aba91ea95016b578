-- A trip of a frame over a line: copy A passes the controllers of a first piece of it and copy B those of a
-- last piece, each once and in their order, one copy after the other; what comes back is joined.
use Rattle.std.specs.Prelude.{ℕ, Bool, true, if◌then◌else◌, List, [], ◌∷◌, ◌++◌, map, take, drop}
use Rattle.ec_wire.specs.Datagram.{DatagramRecord}
use Rattle.ec_merge.specs.Frames.{joined_frame}
use Rattle.ec_esc.specs.State.{ControllerState}
use Rattle.ec_esc.specs.Pass.{frame_pass}
use Rattle.ec_line.specs.After.{Entry, after_frame}
use Rattle.ec_line.specs.Answered.{sent_of}

-- ---- one copy

-- a frame behind some controllers, and the controllers then
pub record PassedLine : Type 0 where
  pub frame : List DatagramRecord
  pub line : List ControllerState

unfoldable pub line_pass : List ControllerState → List DatagramRecord → PassedLine
line_pass [] frame = record { frame = frame; line = [] }
line_pass (x ∷ xs) frame =
    let first = frame_pass x frame in
    let rest = line_pass xs first.frame
    in record { frame = rest.frame; line = first.state ∷ rest.line }

-- the first n controllers of a line are passed, and those from number n on
abbrev pub front_pass : ℕ → List ControllerState → List DatagramRecord → PassedLine
front_pass n line frame =
    let passed = line_pass (take n line) frame in
    record { frame = passed.frame; line = passed.line ++ drop n line }

abbrev pub back_pass : ℕ → List ControllerState → List DatagramRecord → PassedLine
back_pass n line frame =
    let passed = line_pass (drop n line) frame in
    record { frame = passed.frame; line = take n line ++ passed.line }

-- the frame with the circulating bit of each datagram set, as a turn at a closed port leaves it
abbrev pub circulated : List DatagramRecord → List DatagramRecord
circulated ds = map (λ (d : DatagramRecord). record d { circulating = true }) ds

-- ---- both copies

-- copy A passes the first `front` controllers and copy B those from number `back` on; which goes first, which
-- is lost on its way back, and whether copy B turned at a closed port
pub record Trip : Type 0 where
  pub entries : List Entry
  pub front : ℕ
  pub back : ℕ
  pub b_first : Bool
  pub lost_a : Bool
  pub lost_b : Bool
  pub turned : Bool

-- the two copies behind the line, and the line then
pub record Passed : Type 0 where
  pub a : List DatagramRecord
  pub b : List DatagramRecord
  pub line : List ControllerState

-- copy B as it starts to pass
abbrev pub sent_b : Trip → List DatagramRecord
sent_b t = if t.turned then circulated (sent_of t.entries) else sent_of t.entries

abbrev pub passed_by_a_first : Trip → List ControllerState → Passed
passed_by_a_first t line =
    let a = front_pass t.front line (sent_of t.entries) in
    let b = back_pass t.back a.line (sent_b t)
    in record { a = a.frame; b = b.frame; line = b.line }

abbrev pub passed_by_b_first : Trip → List ControllerState → Passed
passed_by_b_first t line =
    let b = back_pass t.back line (sent_b t) in
    let a = front_pass t.front b.line (sent_of t.entries)
    in record { a = a.frame; b = b.frame; line = a.line }

unfoldable pub passed : Trip → List ControllerState → Passed
passed t line = if t.b_first then passed_by_b_first t line else passed_by_a_first t line

-- what comes back, joined: the sent frame stands for a copy that is lost
abbrev pub joined_of : Trip → Passed → List DatagramRecord
joined_of t p =
    let sent = sent_of t.entries
    in joined_frame sent (if t.lost_a then sent else p.a) (if t.lost_b then sent else p.b)

-- ---- who was passed, and what it left

-- the members that the copies which came back have passed, as often as they were
abbrev pub returned : {S : Type 0} → Trip → List S → List S
returned t line = (if t.lost_a then [] else take t.front line) ++ (if t.lost_b then [] else drop t.back line)

-- a line whose first n members are changed, and those from number n on
abbrev pub front_after : {S : Type 0} → (S → S) → ℕ → List S → List S
front_after f n line = map f (take n line) ++ drop n line

abbrev pub back_after : {S : Type 0} → (S → S) → ℕ → List S → List S
back_after f n line = take n line ++ map f (drop n line)

-- the line after a trip: each controller after the frame, as often as a copy passed it
abbrev pub visited : Trip → List ControllerState → List ControllerState
visited t line =
    let leave = after_frame t.entries
    in if t.b_first then front_after leave t.front (back_after leave t.back line)
    else back_after leave t.back (front_after leave t.front line)
