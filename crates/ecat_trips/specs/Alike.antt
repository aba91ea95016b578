-- Which frames are copies of one that was sent (IEC 61158-4-12, the datagram structure): slaves change data,
-- working counters, event requests, and the ADP of commands that address by place or all slaves. The copies
-- of a trip may bear numbers behind their datagrams, which no slave changes.
use Rattle.std.specs.Prelude.{ℕ, ◌+◌, ◌-◌, ◌*◌, ◌/◌, Bool, true, false, ◌==◌, ◌&&◌, not, if◌then◌else◌}
use Rattle.std.specs.Prelude.{List, [], ◌∷◌, length, nat_eq, nat_lt, take, Option, None, Some, is_some}
use Rattle.std.specs.Cmp.Lexicographic.{pointwise}
use Rattle.std.specs.List.{list_any}
use Rattle.ec_wire.specs.Datagram.{DatagramRecord, code_of}
use Rattle.ec_wire.specs.declared.command.Command.{Command}
use Rattle.ec_wire.specs.declared.command.Command.TheVariants.{Aprd, Apwr, Aprw, Brd, Bwr, Brw, Armw}
use Rattle.ec_number.specs.Number.{number_of}

-- ---- numbers

-- the number that a frame bears behind datagrams of its own, if it bears one
unfoldable pub number_behind : List DatagramRecord → Option ℕ
number_behind ds = if nat_lt 1 (length ds) then number_of ds else None

-- how many datagrams of a frame are its own: all but the one that carries its number
abbrev pub own_count : List DatagramRecord → ℕ
own_count ds = if is_some (number_behind ds) then length ds - 1 else length ds

-- its own datagrams
abbrev pub own : List DatagramRecord → List DatagramRecord
own ds = take (own_count ds) ds

-- are two numbers those of one trip: they differ in the lowest bit at most, by which its copies are told
-- apart; frames without numbers may be of one
abbrev pub same_trip : Option ℕ → Option ℕ → Bool
same_trip None None = true
same_trip None (Some n) = false
same_trip (Some m) None = false
same_trip (Some m) (Some n) = m / 2 == n / 2

-- are they those of its two copies
abbrev pub are_both : Option ℕ → Option ℕ → Bool
are_both None None = true
are_both None (Some n) = false
are_both (Some m) None = false
are_both (Some m) (Some n) = m / 2 == n / 2 && not (m == n)

-- ---- keys

-- may slaves count up the ADP of a command: those by place, to all slaves, and ARMW
abbrev pub moves_adp : Command → Bool
moves_adp Aprd = true
moves_adp Apwr = true
moves_adp Aprw = true
moves_adp Brd = true
moves_adp Bwr = true
moves_adp Brw = true
moves_adp Armw = true
moves_adp _ = false

-- the part of an address that slaves leave as it is: without the ADP where they count it up
abbrev pub kept_address : Command → ℕ → ℕ
kept_address command address = if moves_adp command then address / 65536 else address

-- a datagram asks what a sent one asked: its command, index, kept address and length
abbrev pub same_question_at : DatagramRecord → DatagramRecord → Bool
same_question_at sent d =
    code_of d.command == code_of sent.command && d.index == sent.index
    && length d.payload == length sent.payload
    && kept_address sent.command d.address == kept_address sent.command sent.address

-- a frame asks what a sent one asked, whatever numbers they bear
unfoldable pub same_question : List DatagramRecord → List DatagramRecord → Bool
same_question sent frame = pointwise same_question_at sent frame

-- a frame has the key of a sent one: it asks the same, under a number of the same trip
abbrev pub same_key : List DatagramRecord → List DatagramRecord → Bool
same_key sent frame = same_trip (number_behind sent) (number_behind frame) && same_question sent frame

-- command, index, length and kept address of a datagram, as one number
abbrev pub number_at : DatagramRecord → ℕ
number_at d =
    code_of d.command + 16 * d.index + 4096 * length d.payload
    + 8388608 * kept_address d.command d.address

abbrev pub number_at_first : List DatagramRecord → ℕ
number_at_first [] = 0
number_at_first (d ∷ ds) = number_at d

-- what of a key is told fast, as one number: that of the trip, or of a frame without numbers what its first
-- datagram asks
abbrev pub told_fast_by : Option ℕ → List DatagramRecord → ℕ
told_fast_by None ds = number_at_first ds
told_fast_by (Some n) ds = n / 2

unfoldable pub told_fast : List DatagramRecord → ℕ
told_fast ds = told_fast_by (number_behind ds) ds

-- ---- the same frame

-- a datagram is the sent one; no copy that nobody processed is circulating
abbrev pub same_at : DatagramRecord → DatagramRecord → Bool
same_at sent d =
    code_of d.command == code_of sent.command && d.index == sent.index && d.address == sent.address
    && d.irq == sent.irq && d.counter == sent.counter && pointwise nat_eq d.payload sent.payload

-- a frame is the other copy of a sent one: its own datagrams are the sent ones, and where they bear numbers
-- these are those of the two copies of one trip
unfoldable pub same_frame : List DatagramRecord → List DatagramRecord → Bool
same_frame sent frame =
    are_both (number_behind sent) (number_behind frame) && pointwise same_at (own sent) (own frame)

-- ---- what slaves did

-- neither its counter nor its address has moved
abbrev pub still_at : DatagramRecord → DatagramRecord → Bool
still_at sent d = d.counter == sent.counter && d.address == sent.address

unfoldable pub is_still : List DatagramRecord → List DatagramRecord → Bool
is_still sent frame = pointwise still_at sent frame

-- has some counter of a frame counted, if each was sent as 0
abbrev pub has_count : DatagramRecord → Bool
has_count d = if d.counter == 0 then false else true

unfoldable pub has_counted : List DatagramRecord → Bool
has_counted frame = list_any has_count frame
