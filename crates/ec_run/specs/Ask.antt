-- One question to the slaves: a datagram goes out alone in a frame, and its copies join to a datagram that
-- tells how many slaves counted (IEC 61158-4-12, working counter).
use Rattle.std.specs.Prelude.{◌≡◌, ℕ, ◌==◌, ◌||◌, nat_lt, nat_eq, not, List, [], ◌∷◌, Result, Ok, Err}
use Rattle.std.specs.Prelude.{is_some}
use Rattle.std.specs.Cmp.Lexicographic.{pointwise}
use Rattle.ec_wire.specs.Datagram.{DatagramRecord, nth}
use Rattle.ec_app.specs.Table.{first_fitting}
use Rattle.ec_master.specs.Ports.{Trips}
use Rattle.ec_services.specs.Ask.{Answer, Asks}
use Rattle.ec_services.specs.declared.fault.MasterFault.{MasterFault}
use Rattle.ec_services.specs.declared.fault.MasterFault.TheVariants.{NoSlave, BadAnswer}
use Rattle.ec_run.specs.declared.ask.Reply.{Reply}

-- the joined frame of an answer
abbrev pub joined_by : Answer → Result (List DatagramRecord) MasterFault
joined_by (Err fault) = Err fault
joined_by (Ok back) = Ok back.joined

-- a datagram goes out over ports alone in a frame, and its copies join to this
pub record IsPut {P : Type 0} (trips : Trips P) (before : P) (sent : DatagramRecord)
    (joined : Result (List DatagramRecord) MasterFault) (later : P) : Type 0 where
  pub answer : Answer
  pub asks : Asks trips before sent answer later
  pub tells : joined ≡ joined_by answer

-- the joined frame of an answer, and whether any copy came
abbrev pub reply_by : Answer → Result Reply MasterFault
reply_by (Err fault) = Err fault
reply_by (Ok back) = Ok (record { joined = back.joined; heard = is_some back.came.a || is_some back.came.b })

-- a datagram goes out over ports alone in a frame, and this comes back
pub record IsReplied {P : Type 0} (trips : Trips P) (before : P) (sent : DatagramRecord)
    (reply : Result Reply MasterFault) (later : P) : Type 0 where
  pub answer : Answer
  pub asks : Asks trips before sent answer later
  pub tells : reply ≡ reply_by answer

-- ---- what an answer says

-- exactly one slave counted
abbrev pub one_counted : Result (List DatagramRecord) MasterFault → Result (Unit {0}) MasterFault
one_counted (Err fault) = Err fault
one_counted (Ok joined) =
    first_fitting
    (((nth joined 0).counter == 0, Err NoSlave)
    ∷ (nat_lt 1 (nth joined 0).counter, Err BadAnswer)
    ∷ []) (Ok tt)

-- one slave counted, or two
abbrev pub one_or_two : Result (List DatagramRecord) MasterFault → Result (Unit {0}) MasterFault
one_or_two (Err fault) = Err fault
one_or_two (Ok joined) =
    first_fitting
    (((nth joined 0).counter == 0, Err NoSlave)
    ∷ (nat_lt 2 (nth joined 0).counter, Err BadAnswer)
    ∷ []) (Ok tt)

-- exactly one slave counted, and it has these bytes
abbrev pub held_by : List ℕ → Result (List DatagramRecord) MasterFault → Result (Unit {0}) MasterFault
held_by bytes (Err fault) = Err fault
held_by bytes (Ok joined) =
    first_fitting
    (((nth joined 0).counter == 0, Err NoSlave)
    ∷ (nat_lt 1 (nth joined 0).counter, Err BadAnswer)
    ∷ (not (pointwise nat_eq (nth joined 0).payload bytes), Err BadAnswer)
    ∷ []) (Ok tt)
