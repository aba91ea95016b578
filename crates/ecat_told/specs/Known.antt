-- What is told of a line of slaves, and what each datagram of a trip adds to it (IEC 61158-4-12, the
-- commands; IEC 61158-6-12, AL status).
use Rattle.std.specs.Prelude.{ℕ, ◌+◌, ◌*◌, ◌/◌, ◌%◌, ◌-◌, ◌==◌, ◌&&◌, ◌||◌, Bool, true, false, not, nat_lt}
use Rattle.std.specs.Prelude.{if◌then◌else◌, Option, None, Some, is_some, is_none, max}
use Rattle.std.specs.Prelude.{List, [], ◌∷◌, ◌++◌, length, map, take, replicate, count_by}
use Rattle.std.specs.Prelude.{slice_index_or, slice_set}
use Rattle.ec_merge.specs.Rule.{distance}
use Rattle.ec_wire.specs.Datagram.{DatagramRecord, adp_of, ado_of}
use Rattle.ec_wire.specs.declared.command.Command.{Command}
use Rattle.ec_wire.specs.declared.command.Command.TheVariants.{Nop, Aprd, Apwr, Aprw, Fprd, Fpwr, Fprw, Brd}
use Rattle.ec_wire.specs.declared.command.Command.TheVariants.{Bwr, Brw, Lrd, Lwr, Lrw, Armw, Frmw}
use Rattle.ecat_trips.specs.Alike.{moves_adp}
use Rattle.ecat_trips.specs.Copies.{grown, moved}
use Rattle.ecat_trips.specs.declared.trip.Trip.{Trip}
use Rattle.ecat_told.specs.declared.byte.How.{How}
use Rattle.ecat_told.specs.declared.byte.How.TheVariants.{Read, Written, MayBeWritten, Lost}
use Rattle.ecat_told.specs.declared.whom.Whom.{Whom}
use Rattle.ecat_told.specs.declared.whom.Whom.TheVariants.{Nobody, Place, Station, Everybody}
use Rattle.ecat_told.specs.declared.slave.Slave.{Slave}
use Rattle.ecat_told.specs.Registers.{meets, touches}
use Rattle.ecat_told.specs.Slave.{untold, told_run, station_of, is_at}

-- the slaves as they are told now, and as the last logical datagram that moved found them; whether a write
-- of stations begins a start-up; and whether a logical datagram has moved at all
pub record KnownState : Type 0 where
  pub slaves : List Slave
  pub line : List Slave
  pub ready : Bool
  pub cycled : Bool

-- nothing is told
abbrev pub nothing : KnownState
nothing = record { slaves = []; line = []; ready = true; cycled = false }

-- ---- how many slaves there are

-- so many: those at the front stay, and of more nothing is told
abbrev pub resized : ℕ → List Slave → List Slave
resized n slaves = take n slaves ++ replicate (n - length slaves) untold

-- does a command write alone
abbrev pub is_write : Command → Bool
is_write Apwr = true
is_write Fpwr = true
is_write Bwr = true
is_write _ = false

-- is a station address written
abbrev pub writes_station : DatagramRecord → Bool
writes_station d = is_write d.command && meets (ado_of d.address) (length d.payload) 0x0010 0x0012

-- a start-up begins where stations are given, and a logical datagram has moved since the last one began
abbrev pub starts_up : Bool → DatagramRecord → DatagramRecord → Bool
starts_up ready s c = ready && (writes_station s && nat_lt 0 (moved s c))

-- an ADP that is counted up tells how many slaves there are, if all copies came back: where a start-up
-- begins so many, and else as many at least
abbrev pub counted : Bool → Bool → DatagramRecord → DatagramRecord → List Slave → List Slave
counted starts all s c slaves =
    if all && moves_adp s.command
    then (if starts then resized (grown s c) slaves else resized (max (grown s c) (length slaves)) slaves)
    else slaves

-- ---- what it did

-- one slave that is addressed counts a write once
abbrev pub one_wrote : ℕ → Bool → Option How
one_wrote m all = if m == 1 then Some Written else (if m == 0 && all then None else Some Lost)

-- a broadcast write that all slaves counted was taken by all, and should have been where some did
abbrev pub all_wrote : ℕ → ℕ → Bool → Option How
all_wrote n m all =
    if m == 0 then (if all then None else Some Lost) else (if m == n then Some Written else Some MayBeWritten)

-- what a command that reads and writes has left is not told
abbrev pub both_did : ℕ → Bool → Option How
both_did m all = if m == 0 && all then None else Some Lost

-- what a datagram did that came back, of which slaves counted so many of n; a write that counted 0 did
-- nothing
abbrev pub did : Command → ℕ → ℕ → Bool → Option How
did Nop n m all = None
did Aprd n m all = if m == 1 then Some Read else None
did Apwr n m all = one_wrote m all
did Aprw n m all = both_did m all
did Fprd n m all = if m == 1 then Some Read else None
did Fpwr n m all = one_wrote m all
did Fprw n m all = both_did m all
did Brd n m all = None
did Bwr n m all = all_wrote n m all
did Brw n m all = both_did m all
did Lrd n m all = None
did Lwr n m all = None
did Lrw n m all = None
did Armw n m all = both_did m all
did Frmw n m all = both_did m all

-- what one did whose trip is lost
abbrev pub may_have_done : Command → Option How
may_have_done Nop = None
may_have_done Aprd = None
may_have_done Apwr = Some Lost
may_have_done Aprw = Some Lost
may_have_done Fprd = None
may_have_done Fpwr = Some Lost
may_have_done Fprw = Some Lost
may_have_done Brd = None
may_have_done Bwr = Some Lost
may_have_done Brw = Some Lost
may_have_done Lrd = None
may_have_done Lwr = None
may_have_done Lrw = None
may_have_done Armw = Some Lost
may_have_done Frmw = Some Lost

-- ---- whom it meant

-- the registers of which slaves a command tells: ARMW and FRMW write to all but one
abbrev pub whom : Command → Whom
whom Nop = Nobody
whom Aprd = Place
whom Apwr = Place
whom Aprw = Place
whom Fprd = Station
whom Fpwr = Station
whom Fprw = Station
whom Brd = Nobody
whom Bwr = Everybody
whom Brw = Everybody
whom Lrd = Nobody
whom Lwr = Nobody
whom Lrw = Nobody
whom Armw = Everybody
whom Frmw = Everybody

-- the place that an address means: the first slave finds the ADP 0, the next one 1 less than 65,536
abbrev pub place : ℕ → ℕ
place address = distance (adp_of address) 0

-- the slave at a place
abbrev pub at_place : How → ℕ → ℕ → List ℕ → List Slave → List Slave
at_place how i register values slaves =
    if nat_lt i (length slaves)
    then slice_set slaves i (told_run how register values (slice_index_or slaves i untold))
    else slaves

-- a write that may have been another one's is not told
abbrev pub doubtful : How → ℕ → List ℕ → Slave → Slave
doubtful Read register values s = s
doubtful Written register values s = told_run Lost register values s
doubtful MayBeWritten register values s = told_run Lost register values s
doubtful Lost register values s = told_run Lost register values s

-- a slave whose station address is told, or not, where so many slaves have the one that is meant: that one,
-- if it is one; where none has it, any whose address is not told
abbrev pub by_station : How → ℕ → ℕ → ℕ → List ℕ → Slave → Option ℕ → Slave
by_station how holders station register values s (Some x) =
    if x == station then (if holders == 1 then told_run how register values s
    else doubtful how register values s)
    else s
by_station how holders station register values s None =
    if holders == 0 then doubtful how register values s else s

unfoldable pub at_station : How → ℕ → ℕ → ℕ → List ℕ → Slave → Slave
at_station how holders station register values s =
    by_station how holders station register values s (station_of s)

abbrev pub by_whom : Whom → How → ℕ → List ℕ → List Slave → List Slave
by_whom Nobody how address values slaves = slaves
by_whom Place how address values slaves = at_place how (place address) (ado_of address) values slaves
by_whom Station how address values slaves =
    map (at_station how (count_by (is_at (adp_of address)) slaves) (adp_of address) (ado_of address) values)
    slaves
by_whom Everybody how address values slaves = map (told_run how (ado_of address) values) slaves

-- what a command to an address did with the slaves, with these bytes
abbrev pub told_by : Option How → Command → ℕ → List ℕ → List Slave → List Slave
told_by None command address values slaves = slaves
told_by (Some how) command address values slaves =
    if touches (ado_of address) (length values) then by_whom (whom command) how address values slaves
    else slaves

-- ---- AL states

-- a byte of AL status that tells one state alone, without an error
abbrev pub is_one_state : ℕ → Bool
is_one_state b = b == 1 || (b == 2 || (b == 4 || b == 8))

abbrev pub first_of : List ℕ → ℕ
first_of [] = 0
first_of (b ∷ bs) = b

-- of a broadcast read of AL status that all counted: if one state alone was or-ed, each slave is in it
abbrev pub tells_states : ℕ → DatagramRecord → DatagramRecord → Bool
tells_states n s c =
    (ado_of s.address == 0x0130 && moved s c == n) && is_one_state (first_of c.payload)

abbrev pub with_states : Command → DatagramRecord → DatagramRecord → List Slave → List Slave
with_states Brd s c slaves =
    if tells_states (length slaves) s c then map (told_run Read 0x0130 (first_of c.payload ∷ [])) slaves
    else slaves
with_states _ s c slaves = slaves

-- ---- a datagram

-- what is told behind one that came back
abbrev pub slaves_after : Bool → Bool → DatagramRecord → DatagramRecord → List Slave → List Slave
slaves_after starts all s c slaves =
    let there = counted starts all s c slaves in
    with_states s.command s c
    (told_by (did s.command (length there) (moved s c) all) s.command s.address c.payload there)

abbrev pub is_logical : Command → Bool
is_logical Lrd = true
is_logical Lwr = true
is_logical Lrw = true
is_logical _ = false

abbrev pub moves_logical : DatagramRecord → DatagramRecord → Bool
moves_logical s c = is_logical s.command && nat_lt 0 (moved s c)

-- one that came back: a logical one that moved finds the line
unfoldable pub returned : Bool → DatagramRecord → DatagramRecord → KnownState → KnownState
returned all s c k =
    let slaves = slaves_after (starts_up k.ready s c) all s c k.slaves in
    if moves_logical s c then record { slaves = slaves; line = slaves; ready = true; cycled = true }
    else record {
      slaves = slaves;
      line = k.line;
      ready = k.ready && not (starts_up k.ready s c);
      cycled = k.cycled;
    }

-- one that was lost
unfoldable pub lost : DatagramRecord → KnownState → KnownState
lost s k = record k {
  slaves = told_by (may_have_done s.command) s.command s.address s.payload k.slaves;
}

-- ---- a place that may be two slaves'

-- does a command read from the slave at a place, and does one write to it
abbrev pub is_place_read : Command → Bool
is_place_read Aprd = true
is_place_read _ = false

abbrev pub is_place_write : Command → Bool
is_place_write Apwr = true
is_place_write Aprw = true
is_place_write _ = false

-- over an open ring a place is that of a slave in front of the break and of one behind it. It may be where
-- slaves processed both copies of a datagram, and where one copy came alone that did not pass all n of them
abbrev pub may_be_two : Bool → Bool → ℕ → DatagramRecord → DatagramRecord → Bool
may_be_two broken all n s c = if all then broken else not (grown s c == n)

-- what was written by such a place is told of no slave
unfoldable pub unplaced : Bool → DatagramRecord → KnownState → KnownState
unplaced two s k =
    if two && is_place_write s.command
    then record k { slaves = map (told_run Lost (ado_of s.address) s.payload) k.slaves }
    else k

-- what is told behind one that came back over a ring that was broken or not; a read by such a place tells how
-- many slaves there are, and no more
abbrev pub returned_over : Bool → Bool → DatagramRecord → DatagramRecord → KnownState → KnownState
returned_over broken all s c k =
    let two = may_be_two broken all (length k.slaves) s c in
    if two && is_place_read s.command then record k { slaves = counted false all s c k.slaves }
    else unplaced two s (returned all s c k)

-- and behind one that was lost, of which one copy was sent or two
abbrev pub lost_over : Bool → DatagramRecord → KnownState → KnownState
lost_over two s k = unplaced two s (lost s k)

-- ---- a trip

abbrev pub frame_returned : Bool → Bool → List DatagramRecord → List DatagramRecord → KnownState → KnownState
frame_returned broken all [] cs k = k
frame_returned broken all (s ∷ ss) [] k = k
frame_returned broken all (s ∷ ss) (c ∷ cs) k =
    frame_returned broken all ss cs (returned_over broken all s c k)

abbrev pub frame_lost : Bool → List DatagramRecord → KnownState → KnownState
frame_lost two [] k = k
frame_lost two (s ∷ ss) k = frame_lost two ss (lost_over two s k)

-- did all copies that were sent come back
abbrev pub came_whole : Trip → Bool
came_whole t = is_some t.back && (is_none t.second || is_some t.again)

abbrev pub by_came : Trip → Option (List DatagramRecord) → KnownState → KnownState
by_came t None k = frame_lost (is_some t.second) t.sent.frame k
by_came t (Some came) k = frame_returned t.is_open (came_whole t) t.sent.frame came k

-- what is told behind a trip that ended
unfoldable pub trip_after : Trip → KnownState → KnownState
trip_after t k = by_came t t.came k
